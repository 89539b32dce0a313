use Rattle.std.proofs.Common.{◌≡◌, ◌≢◌, List, ℕ, ◌+◌, ◌*◌, ◌%◌, ◌<◌, T, length, arith, sym, ◌∙◌, subst}
use Rattle.planning.specs.Runs.{count, black}
use Rattle.laws.proofs.Formed.{Formed}
use Rattle.laws.proofs.Painting.{black_inside}
use Rattle.task.specs.Task.{task_in}
use Rattle.task.specs.Links.{Prepared}
use Rattle.sets.specs.Sets.{sets_of}
use Rattle.paths.specs.Paths.{slot, unknown, Leads, lead_in, lead_to, Memo, Leading}
use Rattle.paths.proofs.Memos.{memo_lead, slot_below, leading_leads}
use Rattle.paths.proofs.Walking.{walking_move, walking_long, walking_less, walking_turn, walking_end}
use Rattle.paths.proofs.path.Goals as goal
use Rattle.paths.proofs.path.Goals.{After-prepare}

-- the leads of v to d are in slot k of the memo, that from c is known
record Ready (task ever memo : List ℕ) (v c d k : ℕ) : Type 0 where
  pub prepared : Prepared task
  pub painted : T (black (task_in task) v)
  pub from : c < count (task_in task) v
  pub to : d < count (task_in task) v
  pub slot_is : k ≡ slot v d
  pub kept : Memo (task_in task) (sets_of ever) memo
  pub leading : Leading memo v c d

ready : (f : After-prepare) → Ready f.args.arcs.now.task.now f.args.arcs.now.ever.now f.prepare.new.memo f.args.v f.args.c f.args.d f.slot-k.result
ready f = let p = f.requires.prepared in let e = f.prepare.ensures in record {
  prepared = p.0;
  painted = p.1;
  from = f.requires.c_bound.0;
  to = f.requires.c_bound.1;
  slot_is = f.slot-k.ensures;
  kept = e.0;
  leading = e.1;
}

module _ {task ever memo : List ℕ} {v c d k : ℕ} (R : Ready task ever memo v c d k) where
  formed : Formed (task_in task)
  formed = R.prepared.loaded.formed

  -- the lead of a value lies in the memo
  inside : (x : ℕ) → x < count (task_in task) v → 64 * (x + 1) + k < length memo
  inside x b = omega (arith, R.kept.long, memo_lead (task_in task) v x k R.painted b (formed.count_max v) (omega (arith, R.slot_is, slot_below v d)))

  leads : Leads (task_in task) (sets_of ever) v d (lead_in memo k) × (lead_in memo k c ≢ unknown c)
  leads = leading_leads memo v c d k R.slot_is _ _ R.kept R.painted (omega (arith, R.to, formed.count_max v)) R.leading

  -- where the lead of a value is known, so is that of the next
  known_next : (x l : ℕ) → x < count (task_in task) v → l ≡ lead_to (task_in task) (sets_of ever) v d x → lead_in memo k x ≢ unknown x → lead_in memo k (l % 64) ≢ unknown (l % 64)
  known_next x l b e n = subst (λ (y : ℕ). lead_in memo k (y % 64) ≢ unknown (y % 64)) (sym e) (leads.0 x b n).1

pub slot-k-requires : goal.slot-k-requires
slot-k-requires c =
    let p = c.requires.prepared in
    let F = p.0.loaded.formed in
    (omega (arith, black_inside _ _ p.1, F.variables_max), omega (arith, c.requires.c_bound.1, F.count_max c.args.v))

pub bounds-memo-x : goal.bounds-memo-x
bounds-memo-x c = inside (ready (goal.at.bounds-memo-x c).After-prepare) c.args.c c.requires.c_bound.0

pub returns-then-e-list-clause-put : goal.returns-then-e-list-clause-put
returns-then-e-list-clause-put c =
    let R = ready (goal.at.returns-then-e-list-clause-put c).After-prepare in
    walking_long _ (formed R) _ _ _ _ _ _ _ _ _ _ c.loop-l.invariant.0 (λ q. omega (arith, q)) (omega (arith, c.loop-l.invariant.0.long))

pub bounds-memo-x-in-loop-l : goal.bounds-memo-x-in-loop-l
bounds-memo-x-in-loop-l c =
    let R = ready (goal.at.bounds-memo-x-in-loop-l c).After-prepare in
    inside R (c.loop-l.l % 64) (walking_move _ (formed R) _ _ _ _ _ _ _ _ _ _ c.loop-l.invariant.0 (λ q. omega (arith, q))).there

pub loop-l-smaller : goal.loop-l-smaller
loop-l-smaller c =
    let R = ready (goal.at.loop-l-smaller c).After-prepare in
    walking_less _ (formed R) _ _ _ _ _ _ _ _ _ _ c.loop-l.invariant.0 (λ q. omega (arith, q))

pub loop-l-preserved : goal.loop-l-preserved
loop-l-preserved c =
    let R = ready (goal.at.loop-l-preserved c).After-prepare in
    let W = c.loop-l.invariant.0 in
    let b = (walking_move _ (formed R) _ _ _ _ _ _ _ _ _ _ W (λ q. omega (arith, q))).there in
    let n = known_next R c.loop-l.x c.loop-l.l W.inside W.is_lead c.loop-l.invariant.1 in
    (walking_turn _ (formed R) _ _ _ _ _ _ _ _ _ _ W (λ q. omega (arith, q)) (omega (arith, W.long)) _ (c.from-l-in-loop-l.ensures ∙ ((leads R).0 (c.loop-l.l % 64) b n).0), n)

pub returns-clause-put : goal.returns-clause-put
returns-clause-put c =
    let R = ready (goal.at.returns-clause-put c).After-prepare in
    walking_end _ (formed R) _ _ _ _ _ _ _ _ _ _ c.loop-l.invariant.0 (omega arith)
