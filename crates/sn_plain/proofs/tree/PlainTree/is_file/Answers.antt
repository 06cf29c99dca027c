use Rattle.sn_nodes.specs.Stored.{links_of}
use Rattle.sn_plain.proofs.tree.PlainTree.is_file.Goals as goal

pub returns : goal.returns
returns c = c.is_file.ensures (links_of c.args.self.now.links)
