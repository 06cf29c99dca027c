use Rattle.sn_nodes.specs.Stored.{stored_of}
use Rattle.sn_nodes.proofs.nodes.Nodes.nameless.Goals as goal

pub returns : goal.returns
unfolding stored_of
returns c = c.args.self.now.tallied.count
