use Rattle.sn_overlay.proofs.MergeLemmas.{merge_is_layer}
use Rattle.sn_overlay.proofs.laws.merges_are_layers.Goals as goal

pub returns : goal.returns
returns c older newer ho hn = merge_is_layer older newer ho hn
