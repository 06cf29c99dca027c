use Rattle.sn_overlay.proofs.MergeLemmas.{merge_fits}
use Rattle.sn_overlay.proofs.laws.merges_fit.Goals as goal

pub returns : goal.returns
returns c older newer tree ho hn fo fn = merge_fits older newer ho hn tree fo fn
