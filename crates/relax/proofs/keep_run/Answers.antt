use borrow.Author.Rules.{rules}
use Rattle.achievers.proofs.Achievers.{achieved_of}
use Rattle.forward_run.proofs.Running.{goals_listed}
use Rattle.relax.proofs.keep_run.Goals as goal

pub keep_back-m-requires-clause-replay : goal.keep_back-m-requires-clause-replay
keep_back-m-requires-clause-replay c = (c.requires.0, achieved_of _ _ _ _ c.note_run.ensures.1 c.unset_initial.ensures)

pub keep_back-m-requires-clause-facts : goal.keep_back-m-requires-clause-facts
keep_back-m-requires-clause-facts c = goals_listed _ c.load-found.result _ c.load-found.ensures (search rules) c.listed-goals.ensures
