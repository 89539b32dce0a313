-- Every refusal of the planner and of the repair has a number from 1 to 31, so that C reads number and place off the code.
use mathlib.Core.Bool.{Bool, true, false}
use mathlib.Core.List.{List, [], ◌∷◌, ◌++◌, append_assoc, append-nil}
use mathlib.Core.Option.{Option, none, some}
use mathlib.Core.Path.{◌≡◌, refl, sym, ap, ◌∙◌}
use Prim.Native.Nat.{ℕ, zero, suc, ◌+◌, ◌*◌, ◌/◌, ◌%◌, ◌<◌}
use native.Mathlib.Omega.{arith}
use borrow.Author.Tests.{ne_eqb}
use lib.Dec.{eqb}
use Rattle.planning.specs.Basics.{Check, check, refuse, and_then, in_order, Answer, refused, done, refuse_at}
use Rattle.planning.specs.Record.{action_end, field_check, header_checks, variable_checks, variables_checks, fact_checks, facts_checks, action_checks, actions_checks, record_checks, record_check, task_of}
use Rattle.planning.specs.Painting.{acyclic_check, return_check}
use Rattle.planning.specs.Calls.{length_check, relaxed_check, room_check, goals_check, Planned, plan_call, repair_call}
use Rattle.answers.proofs.Stages.{answer_refused}
use Rattle.codes.specs.declared.PlanResult.{PlanResult}
use Rattle.codes.specs.Plans.{plan_result_of, answer_in}

Numbered : Check → Type 0
Numbered k = (n p : ℕ) → k ≡ refuse n p → (0 < n) × (n < 32)

number_of : Check → ℕ
number_of none = 0
number_of (some r) = r.number

numbered_check : (b : Bool) (n p : ℕ) → 0 < n → n < 32 → Numbered (check b n p)
unfolding Numbered check number_of
numbered_check true n p g h m q e = let u : ◌≡◌ {A = ℕ} 0 1 = cc in absurd (omega arith)
numbered_check false n p g h m q e = let u : n ≡ m = ap number_of e in (omega arith, omega arith)

numbered_at : (n : ℕ) (o : Option ℕ) → 0 < n → n < 32 → Numbered (refuse_at n o)
unfolding Numbered refuse_at number_of
numbered_at n none g h m q e = let u : ◌≡◌ {A = ℕ} 0 1 = cc in absurd (omega arith)
numbered_at n (some i) g h m q e = let u : n ≡ m = ap number_of e in (omega arith, omega arith)

-- the checks cs in front of others
Front : List Check → Type 0
Front cs = (ks : List Check) → Numbered (in_order ks) → Numbered (in_order (cs ++ ks))

front_nil : Front []
unfolding Front
front_nil ks g = g

front_cons : (c : Check) (cs : List Check) → Numbered c → Front cs → Front (c ∷ cs)
unfolding Front Numbered in_order and_then
front_cons none cs h f ks g = f ks g
front_cons (some r) cs h f ks g = h

front-++ : (cs ds : List Check) → Front cs → Front ds → Front (cs ++ ds)
unfolding Front
front-++ cs ds f g ks h = rw (append_assoc cs ds ks) (f (ds ++ ks) (g ks h))

front_all : (cs : List Check) → Front cs → Numbered (in_order cs)
unfolding Front Numbered in_order
front_all cs f = rw (append-nil cs) at (f [] (λ n p e. let u : ◌≡◌ {A = ℕ} 0 1 = cc in absurd (omega arith)))

field : (s : List ℕ) (p w : ℕ) → Numbered (field_check s p w)
unfolding field_check
field s p w = numbered_check _ 1 p (omega arith) (omega arith)

test : (b : Bool) (n p : ℕ) (cs : List Check) → 0 < n → n < 32 → Front cs → Front (check b n p ∷ cs)
test b n p cs g h f = front_cons (check b n p) cs (numbered_check b n p g h) f

front_header : (s : List ℕ) → Front (header_checks s)
unfolding header_checks
front_header s =
    front_cons _ _ (field s 0 4) (test _ 2 0 _ (omega arith) (omega arith)
    (front_cons _ _ (field s 4 7) (test _ 3 4 _ (omega arith) (omega arith)
    (front_cons _ _ (field s 11 11) (test _ 3 11 _ (omega arith) (omega arith) front_nil)))))

front_variable : (s : List ℕ) (p : ℕ) → Front (variable_checks s p)
unfolding variable_checks
front_variable s p =
    front_cons _ _ (field s p 6) (front_cons _ _ (field s (p + 6) 1) (front_cons _ _ (field s (p + 7) 6) (test _ 4 (p + 7) _ (omega arith) (omega arith)
    (front_cons _ _ (field s (p + 13) 1) (front_cons _ _ (field s (p + 14) 6) (test _ 4 (p + 14) _ (omega arith) (omega arith) front_nil))))))

front_variables : (s : List ℕ) (p n : ℕ) → Front (variables_checks s p n)
unfolding variables_checks
front_variables s p zero = front_nil
front_variables s p (suc n) = front-++ (variable_checks s p) (variables_checks s (p + 20) n) (front_variable s p) (front_variables s (p + 20) n)

front_fact : (s : List ℕ) (p low : ℕ) → Front (fact_checks s p low)
unfolding fact_checks
front_fact s p low =
    front_cons _ _ (field s p 6) (test _ 5 p _ (omega arith) (omega arith) (front_cons _ _ (field s (p + 6) 6) (test _ 4 (p + 6) _ (omega arith) (omega arith) front_nil)))

front_facts : (s : List ℕ) (p low n : ℕ) → Front (facts_checks s p low n)
unfolding facts_checks
front_facts s p low zero = front_nil
front_facts s p low (suc n) = front-++ (fact_checks s p low) _ (front_fact s p low) (front_facts s (p + 12) _ n)

front_action : (s : List ℕ) (p : ℕ) → Front (action_checks s p)
unfolding action_checks
front_action s p =
    front_cons _ _ (field s p 16) (front_cons _ _ (field s (p + 16) 4) (front_cons _ _ (field s (p + 20) 4)
    (front-++ (facts_checks s (p + 24) 0 _) (facts_checks s _ 0 _) (front_facts s (p + 24) 0 _) (front_facts s _ 0 _))))

front_actions : (s : List ℕ) (p n : ℕ) → Front (actions_checks s p n)
unfolding actions_checks
front_actions s p zero = front_nil
front_actions s p (suc n) = front-++ (action_checks s p) _ (front_action s p) (front_actions s (action_end s p) n)

record_numbered : (s : List ℕ) → Numbered (record_check s)
unfolding record_check record_checks
record_numbered s =
    front_all (record_checks s)
    (front-++ (header_checks s) _ (front_header s) (front-++ (variables_checks s 22 _) _ (front_variables s 22 _)
    (front-++ (actions_checks s _ _) _ (front_actions s _ _) (test _ 6 _ [] (omega arith) (omega arith) front_nil))))

painting_numbered : (s : List ℕ) → Numbered (acyclic_check (task_of s)) × Numbered (return_check (task_of s))
unfolding acyclic_check return_check
painting_numbered s = (numbered_at 7 _ (omega arith) (omega arith), numbered_at 8 _ (omega arith) (omega arith))

plan_number : (s : List ℕ) (n w b m p : ℕ) → plan_call s n w b ≡ refused m p → (0 < m) × (m < 32)
unfolding plan_call goals_check room_check Numbered
plan_number s n w b m p e =
    front_all _
    (front_cons _ _ (record_numbered s) (front_cons _ _ (painting_numbered s).0 (front_cons _ _ (painting_numbered s).1
    (test _ 10 _ _ (omega arith) (omega arith) (test _ 11 _ [] (omega arith) (omega arith) front_nil))))) m p
    (answer_refused _ _ m p e)

repair_number : (s l : List ℕ) (n w b m p : ℕ) → repair_call s l n w b ≡ refused m p → (0 < m) × (m < 32)
unfolding repair_call length_check relaxed_check room_check Numbered
repair_number s l n w b m p e =
    front_all _
    (front_cons _ _ (record_numbered s) (front_cons _ _ (painting_numbered s).0 (front_cons _ _ (painting_numbered s).1
    (test _ 13 _ _ (omega arith) (omega arith) (front_cons _ _ (numbered_at 9 _ (omega arith) (omega arith)) (test _ 11 _ [] (omega arith) (omega arith) front_nil)))))) m p
    (answer_refused _ _ m p e)

-- the answer that a result states is the call's
read_back_lem : (a : Answer Planned) → ((m p : ℕ) → a ≡ refused m p → (0 < m) × (m < 32)) → answer_in (plan_result_of a) ≡ a
unfolding answer_in
read_back_lem (done x) h = refl
read_back_lem (refused m p) h =
    let b = h m p refl in
    go (eqb (32 * p + m) 0) (ne_eqb (32 * p + m) 0 (λ e. omega (arith, b.0))) (omega (arith, b.0, b.1)) (omega (arith, b.0, b.1))
  where
    go : (b : Bool) → b ≡ false → (32 * p + m) % 32 ≡ m → (32 * p + m) / 32 ≡ p
        → ◌≡◌ {A = Answer Planned}
        (elim b [ true ↦ done (record { steps = 0; cost = 0; real' = false; runs = 0; searches' = 0 }) | false ↦ refused ((32 * p + m) % 32) ((32 * p + m) / 32) ]) (refused m p)
    go true e q r = let z : ◌≡◌ {A = ℕ} 0 1 = cc in absurd (omega arith)
    go false e q r = rw (q, r) refl

-- so a result r made of the answer x to the call a is the call's, and x is the answer read off it
read_same : (a x : Answer Planned) (r : PlanResult) → answer_in (plan_result_of a) ≡ a → x ≡ a → r ≡ plan_result_of x → (r ≡ plan_result_of a) × (x ≡ answer_in r)
read_same a x r h e f = let g : r ≡ plan_result_of a = f ∙ ap plan_result_of e in (g, e ∙ sym (ap answer_in g ∙ h))

pub plan_read : (s : List ℕ) (n w b : ℕ) (x : Answer Planned) (r : PlanResult) → x ≡ plan_call s n w b → r ≡ plan_result_of x → (r ≡ plan_result_of (plan_call s n w b)) × (x ≡ answer_in r)
plan_read s n w b x r = read_same (plan_call s n w b) x r (read_back_lem (plan_call s n w b) (plan_number s n w b))

pub repair_read : (s l : List ℕ) (n w b : ℕ) (x : Answer Planned) (r : PlanResult) → x ≡ repair_call s l n w b → r ≡ plan_result_of x
    → (r ≡ plan_result_of (repair_call s l n w b)) × (x ≡ answer_in r)
repair_read s l n w b x r = read_same (repair_call s l n w b) x r (read_back_lem (repair_call s l n w b) (repair_number s l n w b))
