use Rattle.sn_overlay.proofs.NeedLemmas.{drops_stay_paid}
use Rattle.sn_overlay.proofs.laws.drops_stay_paid.Goals as goal

pub returns : goal.returns
returns c = drops_stay_paid
