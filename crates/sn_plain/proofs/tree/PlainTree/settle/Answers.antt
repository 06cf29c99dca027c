use Rattle.std.proofs.Common.{refl}
use Rattle.sn_plain.specs.Plain.{tree_of}
use Rattle.sn_nodes.specs.Stored.{nodes_of, stored_of}
use Rattle.sn_plain.specs.Stored.{tree_with}
use Rattle.sn_plain.proofs.CountedLemmas.{counted_tree}
use Rattle.sn_nodes.proofs.SeenLemmas.{seen}
use Rattle.sn_plain.proofs.SettledLemmas.{counted_settled, counted_first, settled_nodes}
use Rattle.sn_plain.proofs.tree.PlainTree.settle.Goals as goal

pub invariant_of-self : goal.invariant_of-self
invariant_of-self c =
    let old = c.args.self.now in
    let tree = tree_with c.settle.new.self old.links in
    let stored = stored_of c.settle.new.self in
    let counted = counted_tree stored (tree_of old) tree 2 refl (counted_settled (stored_of old.nodes) stored (tree_of old) old.first c.settle.ensures old.counted) in
    record { counted = counted_first stored tree 2 c.first_unused-self.result c.first_unused-self.ensures.low c.first_unused-self.ensures.used counted }

pub returns : goal.returns
returns c =
    let old = c.args.self.now in
    let nodes = settled_nodes (stored_of old.nodes) (stored_of c.settle.new.self) (tree_of old) old.first c.settle.ensures old.counted (nodes_of c.settle.new.self) (seen old.nodes) (seen c.settle.new.self) in
    λ i. record { nodes = nodes i; links = (tree_of old).links }
