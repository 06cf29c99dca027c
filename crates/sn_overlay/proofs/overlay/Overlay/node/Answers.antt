use Rattle.std.proofs.Common.{sym, ◌∙◌}
use Rattle.sn_overlay.proofs.OverlayLemmas.{get-nodes_of}
use Rattle.sn_overlay.proofs.overlay.Overlay.node.Goals as goal

pub returns : goal.returns
returns c = c.get.ensures ∙ sym (get-nodes_of c.args.self.now.nodes.entries.items c.args.number)
