-- Facts by their places in a list of numbers: a list of facts has exactly those at its places, so that a test of it is a test at each
-- place. The loops over facts stand on this.
use mathlib.Core.Path.{◌≡◌, sym, ap, ◌∙◌, subst}
use mathlib.Core.Logic.{inl, inr, ◌≢◌}
use mathlib.Core.Bool.{true, false, ◌&&◌}
use mathlib.Core.List.{List, [], ◌∷◌}
use Prim.Native.Nat.{ℕ, zero, suc, ◌+◌, ◌-◌, ◌/◌, ◌%◌, ◌<◌, ◌≤◌}
use native.Mathlib.Omega.{arith}
use native.Mathlib.Decide.{ℕ_discrete, dec_lt}
use lib.Dec.{T, eqb, eqb→eq, eqb_refl}
use lib.ListN.{length, get_or, take, drop, length-drop}
use lib.Seq.{get_or-take, get_or-drop, length-take-le, take_all}
use Rattle.planning.specs.Runs.{State, has, holds, variables, count, act}
use Rattle.laws.proofs.Tests.{and_l, and_r, and_i, or_l, or_r, or_cases}
use Rattle.laws.proofs.Facts.{holds→sub}
use Rattle.planning.specs.Record.{Action}
use Rattle.laws.proofs.Formed.{Sorted, sorted_has}
use Rattle.task.specs.Task.{fact_of, facts_of, facts_in, pre_at, eff_at, action_in, task_in, Loaded}
use Rattle.sets.proofs.Listed.{Listed}
use Rattle.task.proofs.Slices.{sorted_inside, part_facts}
use Rattle.sets.proofs.Slices.{facts_of_drop}
use Rattle.waiting.specs.Waiting.{reaches, Passing, Unmet, facts_end, Headed, Looked}

-- the fact at place x is one of them
has_here : (l : List ℕ) (x : ℕ) → x < length l → T (has (facts_of l) (get_or l x 0 / 64) (get_or l x 0 % 64))
unfolding has facts_of fact_of
has_here [] x h = absurd (omega arith)
has_here (y ∷ l) zero h =
    or_l (eqb (y / 64) (y / 64) && eqb (y % 64) (y % 64)) (has (facts_of l) (y / 64) (y % 64))
    (and_i (eqb (y / 64) (y / 64)) (eqb (y % 64) (y % 64)) (eqb_refl (y / 64)) (eqb_refl (y % 64)))
has_here (y ∷ l) (suc x) h =
    let z = get_or l x 0 in
    or_r (eqb (z / 64) (y / 64) && eqb (z % 64) (y % 64)) (has (facts_of l) (z / 64) (z % 64)) (has_here l x (omega arith))

pub holds_each : (s : State) (l : List ℕ) → T (holds s (facts_of l)) → (x : ℕ) → x < length l → T (reaches s (get_or l x 0))
unfolding reaches
holds_each s l t x h = holds→sub s (facts_of l) t (get_or l x 0 / 64) (get_or l x 0 % 64) (has_here l x h)

pub each_holds : (s : State) (l : List ℕ) → ((x : ℕ) → x < length l → T (reaches s (get_or l x 0))) → T (holds s (facts_of l))
unfolding reaches holds facts_of fact_of
each_holds s [] f = tt
each_holds s (y ∷ l) f = and_i (s (y / 64) (y % 64)) (holds s (facts_of l)) (f 0 (omega arith)) (each_holds s l (λ x h. f (suc x) (omega arith)))

-- the numbers from place a up to place b
module _ (l : List ℕ) (a b : ℕ) (p : a ≤ b) (q : b ≤ length l) where
  abbrev part : List ℕ
  part = take (b - a) (drop a l)

  part_length : length part ≡ b - a
  part_length = length-take-le (b - a) (drop a l) (omega (arith, length-drop a l))

  part_at : (x : ℕ) → x < b - a → get_or part x 0 ≡ get_or l (a + x) 0
  part_at x h = get_or-take (b - a) (drop a l) x 0 h ∙ get_or-drop a l x 0

  has_at : (x : ℕ) → a ≤ x → x < b → T (has (facts_in l a b) (get_or l x 0 / 64) (get_or l x 0 % 64))
  has_at x h g =
      let e : a + (x - a) ≡ x = omega arith in
      let z : get_or part (x - a) 0 ≡ get_or l x 0 = part_at (x - a) (omega arith) ∙ ap (λ y. get_or l y 0) e in
      rw (← part_facts l a b p, ← z) (has_here part (x - a) (omega (arith, part_length)))

  all_hold : (s : State) → ((x : ℕ) → a ≤ x → x < b → T (reaches s (get_or l x 0))) → T (holds s (facts_in l a b))
  all_hold s f =
      rw (← part_facts l a b p)
      (each_holds s part (λ x h. let c : x < b - a = omega (arith, part_length) in rw (part_at x c) (f (a + x) (omega arith) (omega arith))))

-- the facts from place k on, but for the one there
pub has_less : (l : List ℕ) (k f : ℕ) → k < length l → f ≡ get_or l k 0 → (y : ℕ) → y ≢ f → T (reaches (has (facts_of (drop k l))) y) → T (reaches (has (facts_of (drop (k + 1) l))) y)
unfolding reaches has fact_of
has_less l k f h e y n t = elim (or_cases (eqb (y / 64) (f / 64) && eqb (y % 64) (f % 64)) (has (facts_of (drop (k + 1) l)) (y / 64) (y % 64)) (rw (facts_of_drop l k h, ← e) at t)) [
  | inl q ↦ absurd (n (omega (arith, eqb→eq (y / 64) (f / 64) (and_l (eqb (y / 64) (f / 64)) (eqb (y % 64) (f % 64)) q), eqb→eq (y % 64) (f % 64) (and_r (eqb (y / 64) (f / 64)) (eqb (y % 64) (f % 64)) q))))
  | inr q ↦ q
]

pub open_at : (s : State) (y f : ℕ) → f ≡ y → s (f / 64) (f % 64) ≡ false → reaches s y ≡ false
unfolding reaches
open_at s y f e t = rw (← e) t

-- the search for a fact that is not reached, in one turn and in two goes
pub passing_turn : (s : State) (l : List ℕ) (a b k f : ℕ) → Passing s l a b k → k < b → f ≡ get_or l k 0 → s (f / 64) (f % 64) ≡ true → Passing s l a b (k + 1)
unfolding reaches
passing_turn s l a b k f P h e t = record { from = omega (arith, P.from); to = omega arith; passed = λ x p q. go x p q (ℕ_discrete x k) }
  where
    go : (x : ℕ) → a ≤ x → x < k + 1 → Dec (x ≡ k) → T (reaches s (get_or l x 0))
    go x p q (yes i) = rw (i, ← e, t) tt
    go x p q (no i) = P.passed x p (omega arith)

pub passing_more : (s : State) (l : List ℕ) (a b k r : ℕ) → Passing s l a b k → Passing s l k b r → Passing s l a b r
passing_more s l a b k r P Q = record { from = omega (arith, P.from, Q.from); to = Q.to; passed = λ x p q. go x p q (dec_lt x k) }
  where
    go : (x : ℕ) → a ≤ x → x < r → Dec (x < k) → T (reaches s (get_or l x 0))
    go x p q (yes h) = P.passed x p h
    go x p q (no h) = Q.passed x (omega arith) q

pub rest_taken : (l : List ℕ) (n : ℕ) → take (length l - n) (drop n l) ≡ drop n l
rest_taken l n = take_all (length l - n) (drop n l) (omega (arith, length-drop n l))

-- the facts up to place b alone
pub unmet_taken : (s : State) (l : List ℕ) (a b k : ℕ) → b ≤ length l → Unmet s (take b l) a (length (take b l)) k → Unmet s l a b k
unmet_taken s l a b k h U =
    let e : length (take b l) ≡ b = length-take-le b l h in
    let P = U.passing in
    record {
      passing = record { from = P.from; to = omega (arith, P.to); passed = λ x p q. rw (← get_or-take b l x 0 (omega (arith, P.to))) (P.passed x p q) };
      open' = λ q. rw (← get_or-take b l k 0 q) (U.open' (omega arith));
    }

-- the effects of action i are facts of the task
pub effects_headed : (task : List ℕ) → Loaded task → (i : ℕ) (facts : List ℕ) → facts_of facts ≡ (act (task_in task) i).eff → Headed task facts
effects_headed task D i facts e =
    let t = task_in task in
    let S = subst (Sorted (variables t) (count t) 0) (sym e) (D.formed.eff_sorted i) in
    λ k h. omega (arith, sorted_inside (variables t) (count t) facts 0 S k h)

-- what the first unmet precondition of action i says
module _ (s : State) (task : List ℕ) (i k : ℕ) (D : Loaded task) (L : Listed task i) (P : Looked s task i k) where
  -- fact f is a precondition that is not reached
  pub record Waits (f : ℕ) : Type 0 where
    pub small : f < facts_end task
    pub needs : T (has (act (task_in task) i).pre (f / 64) (f % 64))
    pub open' : reaches s f ≡ false

  pre_is : (v d : ℕ) → has (facts_in task (pre_at task i) (eff_at task i)) v d ≡ has (act (task_in task) i).pre v d
  unfolding action_in
  pre_is v d = ap (λ (a : Action). has a.pre v d) L.states

  pub unmet_waits : k < eff_at task i → (f : ℕ) → f ≡ get_or task k 0 → reaches s (get_or task k 0) ≡ false → Waits f
  unmet_waits h f e u =
      let t = task_in task in
      let x = get_or task k 0 in
      let needs : T (has (act t i).pre (x / 64) (x % 64)) = rw (← pre_is (x / 64) (x % 64))
      (has_at task (pre_at task i) (eff_at task i) L.pre_below (omega (arith, L.eff_below, L.end_below)) k P.from h) in
      let inside = sorted_has (variables t) (count t) 0 (act t i).pre (D.formed.pre_sorted i) (x / 64) (x % 64) needs in
      rw e (record { small = omega (arith, inside.var_below); needs = needs; open' = u })

  pub unmet_goes : eff_at task i ≤ k → T (holds s (act (task_in task) i).pre)
  unfolding action_in
  unmet_goes h =
      subst (λ (a : Action). T (holds s a.pre)) L.states
      (all_hold task (pre_at task i) (eff_at task i) L.pre_below (omega (arith, L.eff_below, L.end_below)) s (λ x p q. P.passed x p (omega arith)))
