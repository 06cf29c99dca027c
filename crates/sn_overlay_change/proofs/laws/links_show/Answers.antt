use Rattle.sn_overlay_change.proofs.ChangeLemmas.{links_show}
use Rattle.sn_overlay_change.proofs.laws.links_show.Goals as goal

pub returns : goal.returns
returns c = links_show
