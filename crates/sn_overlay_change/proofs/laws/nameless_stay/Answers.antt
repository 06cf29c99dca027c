use Rattle.sn_overlay_change.proofs.StayingLemmas.{nameless_stay}
use Rattle.sn_overlay_change.proofs.laws.nameless_stay.Goals as goal

pub returns : goal.returns
returns c = nameless_stay
