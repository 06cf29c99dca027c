use Rattle.sn_overlay_change.proofs.RenameLemmas.{renames_show}
use Rattle.sn_overlay_change.proofs.laws.renames_show.Goals as goal

pub returns : goal.returns
returns c = renames_show
