-- The two counts say how far the action reaches; its two lists pass and are loaded one behind the other, or the action does not pass.
use mathlib.Core.Path.{refl}
use native.Mathlib.Omega.{arith}
use Rattle.record.proofs.Laws.{action_sound, action_exact}
use Rattle.loader.proofs.Cut.{head_below, head_cost, head_pre, head_eff, head_facts, head_whole, pre_passes, eff_passes}
use Rattle.loader.proofs.Loading.{facts_more, action_loaded}
use Rattle.loader.proofs.load_action.Goals.{then-bytes-at-2-via-then-bytes-at-2, then-bytes-at-2-via-else-bytes-at-2+then-task-to}
use Rattle.loader.proofs.load_action.Goals as goal

pub returns-then-bytes-at : goal.returns-then-bytes-at
returns-then-bytes-at c = λ e _. omega (arith, (action_exact _ _ e).head)

pub returns-then-bytes-at-2 : goal.returns-then-bytes-at-2
returns-then-bytes-at-2 c =
    let b = c.read_bits-head.ensures in
    λ e r. elim c.then-bytes-at-2.branch [
      | then-bytes-at-2-via-then-bytes-at-2 w ↦ omega (arith, w.if-bytes-at-2.true, head_whole _ _ _ b e)
      | then-bytes-at-2-via-else-bytes-at-2+then-task-to w ↦ omega (arith, w.if-task-to.true, head_facts _ _ _ b)
    ]

pub overflow_cast-cost : goal.overflow_cast-cost
overflow_cast-cost c = record { fits = omega (arith, head_below _ _ _ c.read_bits-head.ensures) }

pub returns-in_err-load_facts : goal.returns-in_err-load_facts
returns-in_err-load_facts c =
    rw c.from_residual.ensures (λ e _. c.in_err-load_facts.ensures (pre_passes _ _ _ c.read_bits-head.ensures e))

pub returns-in_err-load_facts-2 : goal.returns-in_err-load_facts-2
returns-in_err-load_facts-2 c =
    rw c.from_residual-in_err-load_facts-2.ensures (λ e _. c.in_err-load_facts-2.ensures (eff_passes _ _ _ c.read_bits-head.ensures e))

pub returns : goal.returns
returns c =
    let b = c.read_bits-head.ensures in
    let p = c.in_ok-load_facts.ensures in
    let q = c.in_ok-load_facts-2.ensures in
    let l = facts_more _ _ _ _ _ _ _ _ _ p.loaded q.loaded refl in
    record {
      passed = (action_sound _ _ _ _ (head_pre _ _ _ b) (head_eff _ _ _ b) (omega arith) p.passed q.passed).0;
      loaded = action_loaded _ _ _ _ _ _ _ _ _ _ c.requires.2 c.write_row.ensures l (head_cost _ _ _ b) (head_pre _ _ _ b) (head_facts _ _ _ b);
    }
