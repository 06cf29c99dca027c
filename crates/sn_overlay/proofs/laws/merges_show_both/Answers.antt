use Rattle.sn_overlay.proofs.MergeLemmas.{merge_shows}
use Rattle.sn_overlay.proofs.laws.merges_show_both.Goals as goal

pub returns : goal.returns
returns c older newer tree ho hn fo fn = merge_shows older newer ho hn tree fo fn
