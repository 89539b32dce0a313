-- Actions that are kept: complete ones alone are, and an action that has the preconditions of one marked has all its returns.
use mathlib.Core.Path.{◌≡◌, refl, ◌∙◌}
use mathlib.Core.Bool.{true, false}
use mathlib.Core.List.{List}
use Prim.Native.Nat.{ℕ, ◌+◌, ◌<◌}
use native.Mathlib.Omega.{arith}
use lib.ListN.{length, get_or, replicate, length-replicate, get_or-replicate}
use Rattle.std.specs.Prelude.{Option, None, Some}
use Rattle.planning.specs.Record.{Task}
use Rattle.planning.specs.Runs.{actions, act, count}
use Rattle.task.specs.Task.{facts_of, task_in, Loaded}
use Rattle.returns.specs.Returns.{mark_all, marked, returned}
use Rattle.lacking.specs.Lacking.{Unmarked, unreturned_from, Complete, Kept, Ready}
use Rattle.lacking.specs.declared.Allowing.{Allowing}
use Rattle.lacking.proofs.Marked.{needs_small, unmarked_all, marks_others, unmarked_more}
use Rattle.lacking.proofs.Complete.{complete_of}

pub ready_start : (t : Task) (marks : List ℕ) → Unmarked t 0 marks → Ready t 0 marks (replicate 32 None)
ready_start t marks U = record {
  unmarked = U;
  complete = record {
    long = length-replicate {A = Option Allowing} 32 None;
    each = λ s h. rw (get_or-replicate {A = Option Allowing} 32 s None None h) tt;
  };
}

-- what stands at s
pub kept_at : (t : Task) (kept : List (Option Allowing)) → Kept t kept → (s : ℕ) (a : Allowing) → s < length kept → get_or kept s None ≡ Some a
    → (w v j : ℕ) → w ≡ a.variable → w ≡ v → j ≡ a.action → Complete t v j
kept_at t kept K s a h e w v j ew ev ej = rw (← ev, ew, ej) (rw e at (K.each s (omega (arith, K.long))))

-- action j is tried: its preconditions are marked, and nothing else
module _ (task : List ℕ) (L : Loaded task) (j : ℕ) (h : j < actions (task_in task)) (own : ℕ) (b : own < 65535) (marks : List ℕ) (U : Unmarked (task_in task) own marks) where
  module _ (facts : List ℕ) (e : facts_of facts ≡ (act (task_in task) j).pre) (marks' : List ℕ) (same : marks' ≡ mark_all own None (facts_of facts) marks) where
    own_marks : marks' ≡ mark_all own None (act (task_in task) j).pre marks
    own_marks = same ∙ rw e refl

    pub tried_unmarked : Unmarked (task_in task) (own + 1) marks'
    tried_unmarked = rw own_marks (unmarked_all (task_in task) own None (act (task_in task) j).pre marks (needs_small (task_in task) L.formed j)
        (unmarked_more (task_in task) own (own + 1) marks U (omega arith)))

    pub tried_complete : (v e : ℕ) → returned (task_in task) (marked own marks') v e ≡ true
        → unreturned_from (task_in task) (marked own marks') v e 0 (count (task_in task) v) ≡ false → Complete (task_in task) v j
    tried_complete v e r z = complete_of (task_in task) L.formed (marked own marks') v e j h (λ u w c d g.
        marks_others (task_in task) own (act (task_in task) j).pre marks (needs_small (task_in task) L.formed j) b U None u w c d
        (λ f k. let y : ◌≡◌ {A = ℕ} 0 1 = cc in absurd (omega arith)) (rw own_marks at g)) r z
