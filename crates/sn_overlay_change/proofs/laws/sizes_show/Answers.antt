use Rattle.sn_overlay_change.proofs.SizeLemmas.{sizes_show}
use Rattle.sn_overlay_change.proofs.laws.sizes_show.Goals as goal

pub returns : goal.returns
returns c = sizes_show
