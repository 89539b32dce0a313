-- The repair in the middle, some plain steps later: each is a step like any other, and applies for real, as the whole list runs red-black.
use mathlib.Core.Path.{◌≡◌, refl}
use mathlib.Core.Bool.{true}
use mathlib.Core.List.{List}
use Prim.Native.Nat.{ℕ, zero, suc, ◌+◌, ◌<◌, ◌≤◌}
use native.Mathlib.Omega.{arith}
use lib.Dec.{T}
use lib.ListN.{length, get_or, take}
use lib.Seq.{get_or-take, length-take-le}
use Rattle.planning.specs.Record.{Task}
use Rattle.planning.specs.Runs.{holds, runs, act, black, initial}
use Rattle.planning.specs.Newest.{Values, newer, alone}
use Rattle.planning.specs.Repair.{repaired}
use Rattle.laws.proofs.Tests.{T→true}
use Rattle.laws.proofs.Formed.{Formed}
use Rattle.sets.specs.Sets.{sets_of, values_of}
use Rattle.applying.proofs.RedBlackSteps.{step_held}
use Rattle.counts.specs.declared.Counts.{Counts}
use Rattle.counts.specs.declared.Glided.{Glided}
use Rattle.counts.specs.Counting.{Onward}
use Rattle.counts.specs.Plain.{Plain, passed_by, Glide, Glides}
use Rattle.counts.proofs.Plainly.{plain_holds, passed_steps, passed_onward}
use Rattle.repair.proofs.Repairing.{Repairing, repairing_within, repairing_below, repairing_applies, repairing_step}

module _ {t : Task} {l₀ plan₀ plan area memo sets : List ℕ} {n a j : ℕ} (F : Formed t) where
  -- a step by an action whose effects are held
  repairing_stay : {f : Values} {c : Counts} → Repairing t l₀ plan₀ plan area memo sets f c n a j → c.steps < a → (i : ℕ) → i ≡ get_or plan c.steps 0
      → holds (sets_of sets) (act t i).eff ≡ true → (r : Counts) → Onward (act t i) f c r → Repairing t l₀ plan₀ plan area memo sets (newer (act t i) f) r n a j
  repairing_stay {f = f} G k i ei h r O = repairing_step G k i ei F memo sets (newer (act t i) f) r G.rows (step_held (act t i) (sets_of sets) h) O refl

  module _ (set : List ℕ) (P : Plain t (sets_of sets) set) (whole : T (runs (act t) (black t) (repaired t l₀) (initial t))) where
    repairing_glide : (m : ℕ) {f : Values} {c : Counts} → Repairing t l₀ plan₀ plan area memo sets f c n a j → c.steps + m ≤ a → (g : Values) (r : Counts)
        → Glide t set (take a plan) m f c g r → Repairing t l₀ plan₀ plan area memo sets g r n a j
    unfolding Glide
    repairing_glide zero G b g r W = rw (W.0, W.1) G
    repairing_glide (suc m) {f = f} {c = c} G b g r W =
        let i = get_or (take a plan) c.steps 0 in
        let k : c.steps < a = omega arith in
        let ei : i ≡ get_or plan c.steps 0 = get_or-take a plan c.steps 0 k in
        let near : i < 1024 = omega (arith, repairing_below G k i ei, F.actions_max) in
        let held = T→true (holds (sets_of sets) (act t i).eff) (P.known.held i near W.0) in
        let applies = T→true (holds (alone f) (act t i).pre) (plain_holds (black t) (sets_of sets) f (act t i).pre (P.black' i near W.0) (repairing_applies G k i ei whole)) in
        let next = repairing_stay G k i ei held (passed_by (act t i) c) (passed_onward (act t i) c f applies) in
        repairing_glide m next (omega (arith, passed_steps (act t i) c)) g r W.1

    -- the next step, the action i, whose effects are held, and those behind it, along the list placed
    pub repairing_glides : {f : Values} {c : Counts} → Repairing t l₀ plan₀ plan area memo sets f c n a j → c.steps < a → (i : ℕ) → i ≡ get_or plan c.steps 0
        → holds (sets_of sets) (act t i).eff ≡ true → (r : Glided) → Glides t set (take a plan) (length (take a plan)) f c r
        → Repairing t l₀ plan₀ plan area memo sets (values_of r.newest.values) r.counts n a j
    repairing_glides {c = c} G k i ei h r E =
        let own : get_or (take a plan) c.steps 0 ≡ get_or plan c.steps 0 = get_or-take a plan c.steps 0 k in
        let next = repairing_stay G k _ own (rw (own, ← ei) h) E.first E.onward in
        let M = E.more in
        repairing_glide M.count next (omega (arith, M.steps, M.within, length-take-le a plan (repairing_within G))) (values_of r.newest.values) r.counts M.way
