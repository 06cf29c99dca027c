use Rattle.std.proofs.Common.{ap, ◌∙◌}
use Rattle.sn_overlay.specs.Overlays.{layer_of, nodes_of}
use Rattle.sn_overlay.proofs.OverlayLemmas.{nodes_of-put}
use Rattle.sn_overlay.proofs.overlay.Overlay.set_node.Goals as goal

pub returns-clause-layer : goal.returns-clause-layer
returns-clause-layer c = ap (λ nodes. record (layer_of c.args.self.now) { nodes = nodes }) (ap nodes_of c.insert.ensures.entries ∙ nodes_of-put c.args.self.now.nodes.entries.items c.args.number c.args.change)
