-- The lists and areas that are lent, with z behind the result: 65,535 in a list, 0 in an area.
use mathlib.Core.Path.{◌≡◌, refl, ap, ◌∙◌}
use mathlib.Core.List.{List, ◌++◌}
use Prim.Native.Nat.sub
use Prim.Native.Nat.{ℕ, ◌-◌}
use native.Mathlib.Omega.{arith}
use lib.ListN.{length, take, replicate, length-take}
use Rattle.planning.specs.Basics.{Answer, refused, done}
use Rattle.planning.specs.Calls.{lent, lent_bytes, plan_in, marks_in, Planned}
use Rattle.std.specs.Prelude.{Result, Ok, Err}
use Rattle.answers.specs.declared.Refusal.{Refusal}
use Rattle.answers.specs.declared.Plan.{Plan}
use Rattle.answers.specs.Plans.{answer_of, steps_of}

unfoldable pub filled : ℕ → Answer Planned → ℕ → List ℕ → List ℕ
filled z (refused _ _) n l = replicate n z
filled z (done _) n l = l ++ replicate (n - length l) z

pub lent_is : (a : Answer Planned) (n : ℕ) (l : List ℕ) → filled 65535 a n l ≡ lent a n l
unfolding lent filled
lent_is (refused _ _) n l = refl
lent_is (done _) n l = refl

pub lent_bytes_is : (a : Answer Planned) (n : ℕ) (l : List ℕ) → filled 0 a n l ≡ lent_bytes a n l
unfolding lent_bytes filled
lent_bytes_is (refused _ _) n l = refl
lent_bytes_is (done _) n l = refl

finished : (z : ℕ) (a : Result Plan Refusal) (n : ℕ) (l l' : List ℕ) → n ≡ steps_of a → l' ≡ take n l ++ replicate (length l - n) z → l' ≡ filled z (answer_of a) (length l) (plan_in (answer_of a) l)
unfolding filled plan_in
finished z a n l l' e h = h ∙ ap (λ (x : ℕ). take x l ++ replicate (length l - x) z) e ∙ go a
  where
    go : (a : Result Plan Refusal) → take (steps_of a) l ++ replicate (length l - steps_of a) z ≡ filled z (answer_of a) (length l) (plan_in (answer_of a) l)
    go (Ok p) =
        let e : length l - p.steps ≡ length l - length (take p.steps l) = rw (length-take p.steps l) (omega arith) in
        ap (λ (x : ℕ). take p.steps l ++ replicate x z) e
    go (Err f) = rw sub.zero refl

module _ (a : Result Plan Refusal) (n : ℕ) (l l' : List ℕ) (e : n ≡ steps_of a) where
  pub list_finished : l' ≡ take n l ++ replicate (length l - n) 65535 → l' ≡ lent (answer_of a) (length l) (plan_in (answer_of a) l)
  list_finished h = finished 65535 a n l l' e h ∙ lent_is (answer_of a) (length l) (plan_in (answer_of a) l)

  pub area_finished : l' ≡ take n l ++ replicate (length l - n) 0 → l' ≡ lent_bytes (answer_of a) (length l) (marks_in (answer_of a) l)
  area_finished h = finished 0 a n l l' e h ∙ lent_bytes_is (answer_of a) (length l) (plan_in (answer_of a) l)
