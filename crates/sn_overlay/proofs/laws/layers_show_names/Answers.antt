use Rattle.sn_overlay.proofs.LayerLemmas.{get-through_links}
use Rattle.sn_overlay.proofs.laws.layers_show_names.Goals as goal

pub returns : goal.returns
returns c = get-through_links
