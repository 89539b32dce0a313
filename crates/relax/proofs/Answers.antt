-- The relaxed plan's answer and its list, at each end.
use mathlib.Core.Path.{◌≡◌, sym}
use mathlib.Core.List.{List}
use mathlib.Core.Option.{none}
use Prim.Native.Nat.{ℕ}
use lib.ListN.{length, replicate}
use Rattle.answers.specs.declared.Refusal.{Refusal}
use Rattle.answers.specs.Answers.{number_of, value_of}
use Rattle.std.specs.Prelude.{Result}
use Rattle.std.specs.Result.{is_err}
use mathlib.Core.Bool.{true}
use Rattle.planning.specs.Basics.{refuse, refused, done}
use Rattle.planning.specs.Record.{Task, task_of, record_check}
use Rattle.planning.specs.Relaxed.{facts_reached, relaxed_plan}
use Rattle.planning.specs.Calls.{capacity, room_check, relax_call, relax_list}
use Rattle.lists.specs.Lent.{laid}
use Rattle.forward.specs.Answers.{called}
use Rattle.forward.proofs.Answers.{called_unsolved, called_whole, called_short, called_list, called_refused, called_accepts, lent_refused, lent_err}
use Rattle.relax.specs.Kept.{Found, Unfound}
use Rattle.relax.specs.Answers.{relax_of, relax_in}

-- once the record is accepted
module _ (t : Task) (m : ℕ) where
  pub relax_unsolved : (f : Refusal) → Unfound t f → (refused (number_of f.reason) f.place ≡ relax_of t m) × (replicate m 65535 ≡ relax_in t m)
  unfolding relax_of relax_in
  relax_unsolved f U =
      let z = called_unsolved t (relaxed_plan t) m (length (relaxed_plan t)) U.unsolved in
      (rw (U.reason, U.place') (sym z), lent_refused (called t (relaxed_plan t) m (length (relaxed_plan t))) 10 (facts_reached t) m (relaxed_plan t) z)

  module _ {plan : List ℕ} {n : ℕ} (F : Found t plan n) (l : List ℕ) (el : l ≡ relaxed_plan t) where
    pub relax_whole : none ≡ room_check (length l) (capacity m) → done n ≡ relax_of t m
    unfolding relax_of
    relax_whole q = rw F.front.steps (called_whole t (relaxed_plan t) m (length (relaxed_plan t)) F.solved (rw (← el) q))

    pub relax_short : (p q : ℕ) → refuse p q ≡ room_check (length l) (capacity m) → refused p q ≡ relax_of t m
    unfolding relax_of
    relax_short p q z = called_short t (relaxed_plan t) m (length (relaxed_plan t)) F.solved p q (rw (← el) z)

    pub relax_list_lem : laid m l ≡ relax_in t m
    unfolding relax_of relax_in
    relax_list_lem = rw el (called_list t (relaxed_plan t) m (length (relaxed_plan t)) F.solved)

-- and before
module _ (s : List ℕ) (m : ℕ) where
  pub relax_refused : (p q : ℕ) → refuse p q ≡ record_check s → (refused p q ≡ relax_call s m) × (replicate m 65535 ≡ relax_list s m)
  unfolding relax_call relax_list
  relax_refused = called_refused s m (λ t. length (relaxed_plan t)) relaxed_plan

  pub relax_blank : (r : Result ℕ Refusal) → is_err r ≡ true → value_of r ≡ relax_call s m → replicate m 65535 ≡ relax_list s m
  unfolding relax_list
  relax_blank r = lent_err (λ v. v) r (relax_call s m) m (relaxed_plan (task_of s))

  pub relax_accepts : record_check s ≡ none → (t : Task) → t ≡ task_of s → (relax_of t m ≡ relax_call s m) × (relax_in t m ≡ relax_list s m)
  unfolding relax_call relax_list relax_of relax_in
  relax_accepts = called_accepts s m (λ t. length (relaxed_plan t)) relaxed_plan
