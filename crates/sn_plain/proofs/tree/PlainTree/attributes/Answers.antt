use Rattle.std.proofs.Common.{◌≡◌, ap, sym, ◌∙◌, Some}
use Rattle.std.specs.Option.{option_map}
use Rattle.sn_walk.specs.declared.view.Attributes.{Attributes}
use Rattle.sn_model.specs.Tree.{attributes_of, names_for}
use Rattle.sn_plain.specs.Plain.{tree_of}
use Rattle.sn_plain.proofs.tree.PlainTree.attributes.Goals as goal

pub returns : goal.returns
returns c =
    let tree = tree_of c.args.self.now in
    let links : c.in_ok-node.node.now.counts.links ≡ names_for tree c.args.number = c.args.self.now.counted.links c.args.number c.in_ok-node.node.now (sym c.in_ok-node.ensures.stored) in
    ap (λ (a : Attributes). Some a) (c.attributes.ensures tree c.args.number links) ∙ ap (option_map (attributes_of tree c.args.number)) c.in_ok-node.ensures.nodes
