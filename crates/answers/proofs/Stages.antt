-- Checks in their order, taken stage by stage: a stage that refuses is the answer of the whole, one that passes leaves the rest.
use mathlib.Core.Path.{◌≡◌, refl, sym, ap, ◌∙◌}
use mathlib.Core.List.{List, [], ◌∷◌, ◌++◌}
use mathlib.Core.Option.{none, some}
use Prim.Native.Nat.{ℕ}
use native.Mathlib.Omega.{arith}
use Rattle.std.specs.Prelude.{Result, Ok, Err}
use Rattle.answers.specs.declared.Refusal.{Refusal}
use Rattle.answers.specs.Answers.{number_of, check_of, answer_by}
use Rattle.planning.specs.Basics.{Check, refuse, and_then, in_order, Answer, answer, refused, done}
use Rattle.laws.proofs.Checks.{in_order-++}

-- a refusal as a check has it
abbrev pub refusal : Refusal → Check
refusal f = refuse (number_of f.reason) f.place

-- what the answer says of the checks
pub answer_refused : {A : Type 0} (c : Check) (a : A) (n p : ℕ) → answer c a ≡ refused n p → c ≡ refuse n p
unfolding answer
answer_refused none a n p e = let z : ◌≡◌ {A = ℕ} 0 1 = cc in absurd (omega arith)
answer_refused (some r) a n p e = let y : r.number ≡ n = cc in let z : r.place ≡ p = cc in rw (← y, ← z) refl

pub answer_done : {A : Type 0} (c : Check) (a b : A) → answer c a ≡ done b → (c ≡ none) × (a ≡ b)
unfolding answer
answer_done none a b e = (refl, cc)
answer_done (some r) a b e = let z : ◌≡◌ {A = ℕ} 0 1 = cc in absurd (omega arith)

-- checks that pass, and those of which one refuses, as an answer
pub answer_passing : {A : Type 0} (c : Check) (b : A) → c ≡ none → done b ≡ answer c b
unfolding answer
answer_passing c b e = rw e refl

pub answer_refusing : {A : Type 0} (c : Check) (b : A) (n p : ℕ) → c ≡ refuse n p → refused n p ≡ answer c b
unfolding answer
answer_refusing c b n p e = rw e refl

-- what a layer below answered, taken apart: it passed with a value, or its refusal is handed on
module _ {A B : Type 0} (g : A → B) where
  pub passed : (r : Result A Refusal) (v : A) (c : Check) (b : B) → r ≡ Ok v → answer_by g r ≡ answer c b → (c ≡ none) × (b ≡ g v)
  passed r v c b e h = answer_done c b (g v) (sym h ∙ ap (answer_by g) e)

  pub handed_on : (r : Result A Refusal) (f : Refusal) (c : Check) (b : B) → r ≡ Err f → answer_by g r ≡ answer c b → c ≡ refusal f
  handed_on r f c b e h = answer_refused c b (number_of f.reason) f.place (sym h ∙ ap (answer_by g) e)

-- the same of a check
pub check_passed : (r : Result Unit Refusal) (u : Unit) (k : Check) → r ≡ Ok u → check_of r ≡ k → k ≡ none
check_passed r u k e h = sym h ∙ ap check_of e

pub check_refused : (r : Result Unit Refusal) (f : Refusal) (k : Check) → r ≡ Err f → check_of r ≡ k → k ≡ refusal f
check_refused r f k e h = sym h ∙ ap check_of e

-- checks one by one: the first passes, and the rest says; or it refuses
pub skip_one : (c : Check) (xs : List Check) → c ≡ none → in_order (c ∷ xs) ≡ in_order xs
unfolding in_order and_then
skip_one c xs e = rw e refl

pub hit_one : (c : Check) (xs : List Check) (n p : ℕ) → c ≡ refuse n p → in_order (c ∷ xs) ≡ refuse n p
unfolding in_order and_then
hit_one c xs n p e = rw e refl

pub none_left : in_order [] ≡ none
unfolding in_order
none_left = refl

-- stage by stage
pub stage_passes : (xs ys : List Check) → in_order xs ≡ none → in_order (xs ++ ys) ≡ in_order ys
unfolding and_then
stage_passes xs ys e = rw (in_order-++ xs ys, e) refl

pub stage_stops : (xs ys : List Check) (n p : ℕ) → in_order xs ≡ refuse n p → in_order (xs ++ ys) ≡ refuse n p
unfolding and_then
stage_stops xs ys n p e = rw (in_order-++ xs ys, e) refl

-- the same of an answer, with the value that comes where all pass
pub skip : {A : Type 0} (c : Check) (xs : List Check) (a : Answer A) (b : A) → c ≡ none → a ≡ answer (in_order xs) b → a ≡ answer (in_order (c ∷ xs)) b
skip c xs a b e h = rw (skip_one c xs e) h

pub hit : {A : Type 0} (c : Check) (xs : List Check) (n p : ℕ) (b : A) → c ≡ refuse n p → refused n p ≡ answer (in_order (c ∷ xs)) b
hit c xs n p b e = answer_refusing _ b n p (hit_one c xs n p e)

pub pass_end : {A : Type 0} (b : A) → done b ≡ answer (in_order []) b
pass_end b = answer_passing _ b none_left

pub skip_stage : {A : Type 0} (xs ys : List Check) (a : Answer A) (b : A) → in_order xs ≡ none → a ≡ answer (in_order ys) b → a ≡ answer (in_order (xs ++ ys)) b
skip_stage xs ys a b e h = rw (stage_passes xs ys e) h

-- a layer below refuses
module _ {A B : Type 0} (g : A → B) (r : Result A Refusal) (f : Refusal) where
  pub stops : {D : Type 0} (c : Check) (b : B) (xs : List Check) (d : D) → r ≡ Err f → answer_by g r ≡ answer c b → refused (number_of f.reason) f.place ≡ answer (in_order (c ∷ xs)) d
  stops c b xs d e h = hit c xs (number_of f.reason) f.place d (handed_on g r f c b e h)

  pub stops_stage : {D : Type 0} (xs ys : List Check) (b : B) (d : D) → r ≡ Err f → answer_by g r ≡ answer (in_order xs) b → refused (number_of f.reason) f.place ≡ answer (in_order (xs ++ ys)) d
  stops_stage xs ys b d e h = answer_refusing _ d _ _ (stage_stops xs ys (number_of f.reason) f.place (handed_on g r f (in_order xs) b e h))
