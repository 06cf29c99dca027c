use Rattle.sn_overlay_change.proofs.ChangeLemmas.{attributes_show}
use Rattle.sn_overlay_change.proofs.laws.attributes_show.Goals as goal

pub returns : goal.returns
returns c = attributes_show
