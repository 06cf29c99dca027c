use Rattle.sn_plain.specs.Plain.{tree_of}
use Rattle.sn_nodes.specs.Stored.{stored_of}
use Rattle.sn_plain.proofs.MakingLemmas.{nameless_names, nameless_links}
use Rattle.sn_nodes.proofs.SeenLemmas.{seen}
use Rattle.sn_plain.proofs.tree.PlainTree.drop_file.Goals as goal

pub take_node-requires-clause-names : goal.take_node-requires-clause-names
take_node-requires-clause-names c = let old = c.args.self.now in nameless_names (stored_of old.nodes) (tree_of old) old.first (seen old.nodes) old.counted c.args.number c.requires.nameless

pub take_node-requires-clause-links : goal.take_node-requires-clause-links
take_node-requires-clause-links c = let old = c.args.self.now in nameless_links (stored_of old.nodes) (tree_of old) old.first (seen old.nodes) old.counted c.args.number c.requires.nameless
