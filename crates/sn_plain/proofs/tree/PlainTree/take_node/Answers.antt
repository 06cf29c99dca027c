use Rattle.std.proofs.Common.{sym, subst, refl}
use Rattle.std.specs.FinMap as map
use Rattle.sn_plain.specs.Plain.{tree_of}
use Rattle.sn_nodes.specs.Stored.{stored_of}
use Rattle.sn_plain.specs.Stored.{IsCounted, tree_with}
use Rattle.sn_plain.proofs.CountedLemmas.{Stored, after_loss, counted_tree, counted_loss}
use Rattle.sn_plain.proofs.tree.PlainTree.take_node.Goals as goal

pub invariant_of-self : goal.invariant_of-self
invariant_of-self c =
    let old = c.args.self.now in
    let tree = tree_with c.remove.new.self old.links in
    let counted = counted_tree (map.remove (stored_of old.nodes) c.args.number) (tree_of old) tree (after_loss old.first c.args.number) refl (counted_loss (stored_of old.nodes) (tree_of old) old.first c.args.number c.requires.number c.requires.names c.requires.links old.counted) in
    record { counted = subst (IsCounted (stored_of c.remove.new.self) tree) (sym c.after_loss-self.ensures) (subst (λ (x : Stored). IsCounted x tree (after_loss old.first c.args.number)) (sym c.remove.ensures.stored) counted) }

pub returns : goal.returns
returns c = λ i. record { nodes = c.remove.ensures.nodes i; links = (tree_of c.args.self.now).links }
