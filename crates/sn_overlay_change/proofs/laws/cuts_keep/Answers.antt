use Rattle.sn_overlay_change.proofs.ByteLemmas.{piece-resized}
use Rattle.sn_overlay_change.proofs.laws.cuts_keep.Goals as goal

pub returns : goal.returns
returns c = piece-resized
