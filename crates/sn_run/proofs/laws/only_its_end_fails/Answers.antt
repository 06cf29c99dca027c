use Rattle.sn_run.proofs.CauseLemmas.{causes}
use Rattle.sn_run.proofs.laws.only_its_end_fails.Goals as goal

pub returns : goal.returns
returns c end events replies disk last_disk status last_status runs same = causes events replies disk last_disk status last_status same end runs
