use Rattle.sn_overlay.proofs.NeedLemmas.{stays_paid}
use Rattle.sn_overlay.proofs.laws.merges_stay_paid.Goals as goal

pub returns : goal.returns
returns c = stays_paid
