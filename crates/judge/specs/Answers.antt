-- The definitions' values for what judging answers.
use Rattle.std.specs.Prelude.{List, ℕ, Result}
use Rattle.planning.specs.Basics.{Answer, answer}
use Rattle.planning.specs.Record.{Task}
use Rattle.planning.specs.Runs.{Judgement, judgement}
use Rattle.answers.specs.Answers.{answer_by}
use Rattle.answers.specs.declared.Refusal.{Refusal}
use Rattle.entries.specs.Entries.{list_check}
use Rattle.callers.specs.Answers.{judged_of}
use Rattle.judge.specs.declared.Verdicts.{Verdicts}

abbrev pub judgement_of : Verdicts → Judgement
judgement_of v = record { relaxed' = judged_of v.relaxed; red_black = judged_of v.red_black; real' = judged_of v.real }

-- 3.11 and 9.5: the verdicts, or number and place
abbrev pub answer_of : Result Verdicts Refusal → Answer Judgement
answer_of = answer_by judgement_of

-- the answer once the record has passed
unfoldable pub judged_list : Task → List ℕ → Answer Judgement
judged_list t l = answer (list_check t l) (judgement t l)
