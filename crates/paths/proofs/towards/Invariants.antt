-- The leads of the values below x are in slot k.
use Rattle.paths.proofs.Memos.{Filling}
use Rattle.paths.proofs.towards.Given as goal

abbrev pub invariant-loop-x : goal.invariant-loop-x
invariant-loop-x l = Filling l.labels l.rest l.k l.initial.memo l.memo l.x
