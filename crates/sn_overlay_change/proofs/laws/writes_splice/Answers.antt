use Rattle.sn_overlay_change.proofs.ByteLemmas.{piece-spliced}
use Rattle.sn_overlay_change.proofs.laws.writes_splice.Goals as goal

pub returns : goal.returns
returns c bytes index from new fits = piece-spliced bytes index from new fits
