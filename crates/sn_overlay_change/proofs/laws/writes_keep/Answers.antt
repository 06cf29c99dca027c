use Rattle.sn_overlay_change.proofs.ByteLemmas.{piece-overwritten}
use Rattle.sn_overlay_change.proofs.laws.writes_keep.Goals as goal

pub returns : goal.returns
returns c = piece-overwritten
