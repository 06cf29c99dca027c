use Rattle.sn_mounted.proofs.Looks.{none_missed}
use Rattle.sn_mounted.proofs.laws.no_miss_is_invented.Goals as goal

pub returns : goal.returns
returns c = none_missed
