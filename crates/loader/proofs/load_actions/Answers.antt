use Rattle.record.proofs.Laws.{header_range, actions_start, action_here, actions_turn, actions_done, actions_end_lem, accepted, accepted_parts}
use Rattle.answers.proofs.Stages.{answer_done}
use Rattle.loader.proofs.Loading.{loading_start, loading_place, loading_room, loading_turn, action_ends, actions_as}
use Rattle.loader.proofs.Loading.{end_passes, end_stops, loading_low, loading_size, loading_headed, loading_task, loading_done}
use mathlib.Core.Path.{refl, sym, ap, ◌∙◌}
use Rattle.std.specs.Result.{is_ok}
use Prim.Native.Nat.{◌+◌, ◌*◌, ◌<◌, ◌≤◌}
use native.Mathlib.Omega.{arith}
use lib.ListN.{length}
use lib.Seq.{get_or-set_same}
use Rattle.planning.specs.Record.{variables_in, actions_in}
use Rattle.loader.proofs.load_actions.Goals as goal

pub loop-i-init : goal.loop-i-init
loop-i-init c =
    let P = c.requires in
    (loading_start _ _ _ _ _ P.variables_is P.count_is P.loaded refl, actions_start _ _ _ (omega (arith, header_range _ P.header, P.variables_is)))

pub load_action-requires : goal.load_action-requires
load_action-requires c =
    let P = c.requires in
    let R = header_range _ P.header in
    let l = loading_place _ _ _ _ _ _ c.loop-i.invariant.0 (omega (arith, P.count_is)) R.0 R.1 R.2 in
    (l.0, l.1, l.2, l.3, P.values)

pub returns-in_err-n : goal.returns-in_err-n
returns-in_err-n c =
    let P = c.requires in
    let i : c.loop-i.i < c.args.count = omega arith in
    rw c.from_residual.ensures
    (λ e. c.in_err-n.ensures
    (action_here _ _ _ _ _ c.loop-i.invariant.1 i (actions_as _ _ _ P.variables_is P.count_is ∙ (accepted_parts _ e).actions))
    (loading_room _ _ _ _ _ _ c.loop-i.invariant.0 (omega (arith, P.count_is)) (header_range _ P.header).0 (P.room.enough e)))

pub loop-i-preserved : goal.loop-i-preserved
loop-i-preserved c =
    let P = c.requires in
    let r = c.in_ok-n.ensures in
    let i : c.loop-i.i < actions_in c.args.bytes.now = omega (arith, P.count_is) in (
      loading_turn _ _ _ _ _ _ c.loop-i.invariant.0 i (header_range _ P.header).1 _ _ r.loaded,
      actions_turn _ _ _ _ _ c.loop-i.invariant.1 _ (omega arith) (r.passed, action_ends _ _ _ _ _ _ c.loop-i.invariant.0 i _ _ r.loaded),
    )

pub check_end-requires : goal.check_end-requires
check_end-requires c =
    let P = c.requires in
    let R = header_range _ P.header in
    let b = answer_done _ _ _ (sym (actions_done _ _ _ _ _ c.loop-i.invariant.1 (omega arith))) in
    actions_end_lem _ _ _ P.variables_is P.count_is _ (omega (arith, P.variables_is)) (omega (arith, P.count_is)) b.1

pub returns-in_default : goal.returns-in_default
returns-in_default c = λ e. end_stops _ _ c.check_end.ensures (sym (ap is_ok c.in_default.is)) (accepted_parts _ e).end

pub overflow_cast-task : goal.overflow_cast-task
overflow_cast-task c = record { fits = omega (arith, loading_low _ _ _ _ _ _ c.loop-i.invariant.0 (header_range _ c.requires.header).2) }

pub returns : goal.returns
returns c =
    let P = c.requires in
    let b = answer_done _ _ _ (sym (actions_done _ _ _ _ _ c.loop-i.invariant.1 (omega arith))) in
    let a = accepted _ record { header = P.header; variables = P.passed; actions = sym (actions_as _ _ _ P.variables_is P.count_is) ∙ b.0; end = end_passes _ _ c.check_end.ensures (sym (ap is_ok c.in-Ok.is)) } in
    let l : actions_in c.args.bytes.now ≤ c.loop-i.i = omega (arith, P.count_is) in
    let I = loading_headed _ _ _ _ _ _ c.loop-i.invariant.0 in
    let r : c.loop-i.to + 64 * variables_in c.args.bytes.now ≤ length c.args.task.now =
    omega (arith, P.room.enough a, loading_size _ _ _ _ _ _ l c.loop-i.invariant.0) in
    let q = get_or-set_same c.loop-i.task 3 c.loop-i.to 0 (omega (arith, P.room.head, c.loop-i.invariant.0.long)) in
    record { accepted = a; read = record { loaded = loading_done _ _ _ _ _ _ l I a r q; same = loading_task _ _ _ _ _ _ l I a r } }
