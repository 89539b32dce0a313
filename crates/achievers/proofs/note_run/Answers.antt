use mathlib.Core.Path.{◌≡◌, sym, ap, ◌∙◌, subst}
use mathlib.Core.List.{List, [], ◌∷◌, ◌++◌}
use Prim.Native.Nat.{ℕ, ◌+◌, ◌≤◌, ◌<◌}
use native.Mathlib.Omega.{arith}
use lib.ListN.{length, get_or, take, drop, length-replicate, length-append}
use Rattle.std.specs.List.{push}
use Rattle.std.proofs.Math.Seq.{take-append_seam, take-length, get_or-append_seam}
use Rattle.std.proofs.lemmas.List.{take-take, get_or-take}
use Rattle.planning.specs.Relaxed.{forward_run}
use Rattle.task.specs.Task.{task_in}
use Rattle.achievers.specs.Achievers.{Setters}
use Rattle.achievers.proofs.Achievers.{setters_start, setters_turn, entry_below}
use Rattle.achievers.proofs.note_run.Goals as goal
use Rattle.achievers.proofs.note_run.Goals.{After-from}

pub loop-i-init : goal.loop-i-init
loop-i-init c =
    let p = c.requires in
    let R = forward_run (task_in c.args.task.now) in
    let e : c.into_iter-i-iterator.result.iter.rest.now ≡ R = rw (c.into_iter-i-iterator.ensures.into_iter_gives, c.rev-i-items.ensures.source) (c.iter.ensures.rest ∙ p.1) in
    (rw p.2 (length-replicate {A = ℕ} 4096 65535), rw e (sym (take-length R)), rw e (omega arith), rw e (setters_start _ p.0.formed _ (omega arith) _ p.2))

-- a front of R with an entry taken off its end
split_end : (rest rest' : List ℕ) (i : ℕ) (R : List ℕ) → rest ≡ push rest' i → rest ≡ take (length rest) R → length rest ≤ length R
    → (length rest' < length R) × (rest' ≡ take (length rest') R) × (i ≡ get_or R (length rest') 0) × (length rest ≡ length rest' + 1)
split_end rest rest' i R p e l =
    let n : length rest ≡ length rest' + 1 = ap length p ∙ length-append rest' (i ∷ []) in
    let q : rest' ++ i ∷ [] ≡ take (length rest) R = sym p ∙ e in (
      omega arith,
      sym (take-append_seam rest' (i ∷ [])) ∙ ap (take (length rest')) q ∙ take-take (length rest') (length rest) R (omega arith),
      sym (get_or-append_seam rest' i [] 0) ∙ ap (λ l. get_or l (length rest') 0) q ∙ get_or-take (length rest) R (length rest') 0 (omega arith),
      n,
    )

-- what is left is the run's front, and what a turn takes off it the run's entry behind what stays
taken : (c : After-from) → let rest = c.next.new.self.iter.rest.now in let R = forward_run (task_in c.args.task.now) in
    (length rest < length R) × (rest ≡ take (length rest) R) × (c.from.result ≡ get_or R (length rest) 0) × (length c.loop-i.i-iterator.iter.rest.now ≡ length rest + 1)
taken c =
    let I = c.loop-i.invariant in
    let S = split_end _ _ _ _ c.in-Some.ensures.steps I.1 I.2 in
    (S.0, S.1, c.from.ensures ∙ S.2, S.3)

pub note-requires : goal.note-requires
note-requires c =
    let T = taken (goal.at.note-requires c).After-from in
    (c.requires.0, rw T.2 (entry_below _ c.requires.0.formed _ T.0), c.loop-i.invariant.0)

pub loop-i-preserved : goal.loop-i-preserved
loop-i-preserved c =
    let T = taken (goal.at.loop-i-preserved c).After-from in
    let t = task_in c.args.task.now in
    let S = subst (λ x. Setters t (drop x (forward_run t)) c.loop-i.first) T.3 c.loop-i.invariant.3 in
    (c.note.ensures.long, T.1, omega (arith, T.0), setters_turn t c.requires.0.formed _ T.0 _ _ S (rw T.2 at c.note.ensures))
