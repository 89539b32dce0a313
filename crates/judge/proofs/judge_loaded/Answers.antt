use Rattle.answers.proofs.Stages.{passed, handed_on}
use Rattle.entries.proofs.Lists.{list_ready}
use Rattle.judge.proofs.Entry.{list_refused_by, list_judged}
use Rattle.judge.proofs.judge_loaded.Goals as goal

pub judge_all-requires : goal.judge_all-requires
judge_all-requires c =
    let L = list_ready _ _ (passed _ _ _ _ _ c.in_default.is c.check_list.ensures).0 in
    record { loaded = c.requires; short = L.0; entries = L.1 }

pub returns-in_default : goal.returns-in_default
returns-in_default c = list_judged _ _ _ (passed _ _ _ _ _ c.in_default.is c.check_list.ensures).0 c.judge_all.ensures

pub returns : goal.returns
returns c = list_refused_by _ _ _ _ (handed_on _ _ _ _ _ c.in-Err.is c.check_list.ensures)
