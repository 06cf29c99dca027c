use Rattle.sn_overlay_change.proofs.StayingLemmas.{staying_is_counted}
use Rattle.sn_overlay_change.proofs.laws.staying_is_counted.Goals as goal

pub returns : goal.returns
returns c = staying_is_counted
