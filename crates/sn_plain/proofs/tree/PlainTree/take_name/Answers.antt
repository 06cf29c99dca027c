use Rattle.sn_model.specs.Changes.{take_link}
use Rattle.sn_plain.specs.Plain.{tree_of}
use Rattle.sn_nodes.specs.Stored.{stored_of}
use Rattle.sn_plain.specs.Stored.{tree_with}
use Rattle.sn_plain.proofs.CountedLemmas.{counted_tree, counted_unlink}
use Rattle.sn_plain.proofs.tree.PlainTree.take_name.Goals as goal

pub invariant_of-self : goal.invariant_of-self
invariant_of-self c =
    let old = c.args.self.now in
    let stored = stored_of c.uncount_link.new.self in
    record { counted = counted_tree stored (take_link (tree_of old) c.args.link.now) (tree_with c.uncount_link.new.self c.remove.new.self) old.first c.remove.ensures (counted_unlink (stored_of old.nodes) stored (tree_of old) old.first c.args.link.now c.args.number c.uncount_link.ensures.stored c.requires old.counted) }

pub returns : goal.returns
returns c = λ i. record { nodes = c.uncount_link.ensures.nodes i; links = c.remove.ensures i }
