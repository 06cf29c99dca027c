use Rattle.sn_overlay_change.proofs.ByteLemmas.{piece-cut}
use Rattle.sn_overlay_change.proofs.laws.cuts_zero.Goals as goal

pub returns : goal.returns
returns c = piece-cut
