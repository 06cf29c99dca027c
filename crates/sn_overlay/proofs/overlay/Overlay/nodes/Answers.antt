use Rattle.std.proofs.Common.{sym, ◌∙◌}
use Rattle.sn_overlay.proofs.ListLemmas.{entries-nodes_of}
use Rattle.sn_overlay.proofs.overlay.Overlay.nodes.Goals as goal

pub returns : goal.returns
returns c = c.deref.ensures.value ∙ sym (entries-nodes_of c.args.self.now.nodes.entries.items c.args.self.now.nodes.sorted)
