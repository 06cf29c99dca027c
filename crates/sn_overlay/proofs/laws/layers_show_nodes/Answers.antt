use Rattle.sn_overlay.proofs.LayerLemmas.{get-through_nodes}
use Rattle.sn_overlay.proofs.laws.layers_show_nodes.Goals as goal

pub returns : goal.returns
returns c = get-through_nodes
