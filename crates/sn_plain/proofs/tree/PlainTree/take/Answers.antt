use Rattle.std.proofs.Common.{◌≡◌, ◌∙◌, Some, true, false, is_some, ap, sym}
use Rattle.sn_model.specs.Changes.{file_at, take_node}
use Rattle.sn_model.specs.Tree.{Tree, names_in, names_for}
use Rattle.sn_plain.specs.Plain.{tree_of}
use Rattle.sn_plain.proofs.MakingLemmas.{file_removed, directory_removed, no_names_left, no_links_left, number_low}
use Rattle.sn_plain.proofs.tree.PlainTree.take.Goals as goal

pub take_node-requires-clause-number : goal.take_node-requires-clause-number
take_node-requires-clause-number c = let r = c.requires in number_low r.whole.0 (tree_of c.args.self.now) c.args.link.now c.args.number r.whole.1 r.there r.can

pub take_node-requires-clause-names : goal.take_node-requires-clause-names
take_node-requires-clause-names c =
    let r = c.requires in
    let no_file : is_some (file_at (tree_of c.args.self.now) c.args.number) ≡ false = sym c.is_file-is_file.ensures ∙ c.if-not-is_file.true in
    ap (λ (t : Tree). names_in t c.args.number) c.take_name.ensures ∙ no_names_left r.whole.0 (tree_of c.args.self.now) c.args.link.now c.args.number r.whole.1 r.there r.can no_file

pub take_node-requires-clause-links : goal.take_node-requires-clause-links
take_node-requires-clause-links c =
    let r = c.requires in
    let no_file : is_some (file_at (tree_of c.args.self.now) c.args.number) ≡ false = sym c.is_file-is_file.ensures ∙ c.if-not-is_file.true in
    ap (λ (t : Tree). names_for t c.args.number) c.take_name.ensures ∙ no_links_left r.whole.0 (tree_of c.args.self.now) c.args.link.now c.args.number r.whole.1 r.there r.can no_file

pub returns-then-not-is_file : goal.returns-then-not-is_file
returns-then-not-is_file c =
    let r = c.requires in
    let no_file : is_some (file_at (tree_of c.args.self.now) c.args.number) ≡ false = sym c.is_file-is_file.ensures ∙ c.if-not-is_file.true in
    directory_removed r.whole.0 (tree_of c.args.self.now) c.args.link.now c.args.number r.whole.1 r.there r.can no_file
    ∙ ap (λ (t : Tree). Some t) (sym (c.take_node.ensures ∙ ap (λ (t : Tree). take_node t c.args.number) c.take_name.ensures))

pub returns-else-not-is_file : goal.returns-else-not-is_file
returns-else-not-is_file c =
    let r = c.requires in
    let file : is_some (file_at (tree_of c.args.self.now) c.args.number) ≡ true = sym c.is_file-is_file.ensures ∙ c.if-not-is_file.false in
    file_removed r.whole.0 (tree_of c.args.self.now) c.args.link.now c.args.number r.whole.1 r.there r.can file ∙ ap (λ (t : Tree). Some t) (sym c.take_name.ensures)
