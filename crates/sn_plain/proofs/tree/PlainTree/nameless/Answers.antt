use Rattle.std.proofs.Common.{◌∙◌}
use Rattle.sn_plain.specs.Plain.{tree_of}
use Rattle.sn_nodes.specs.Stored.{stored_of}
use Rattle.sn_nodes.proofs.SeenLemmas.{seen}
use Rattle.sn_plain.proofs.NamelessLemmas.{nameless_is}
use Rattle.sn_plain.proofs.tree.PlainTree.nameless.Goals as goal

pub returns : goal.returns
returns c =
    let t = c.args.self.now in
    c.nameless.ensures ∙ nameless_is (stored_of t.nodes) (tree_of t) t.first (seen t.nodes) t.counted
