use Rattle.sn_root.proofs.FindingLemmas.{finding_is_one}
use Rattle.sn_root.proofs.laws.finding_is_one.Goals as goal

pub returns : goal.returns
returns c = finding_is_one
