use Rattle.std.proofs.Common.{◌≡◌, ◌∙◌, [], sym, ap, arith}
use Rattle.std.proofs.lemmas.List.{nil_from_length}
use Rattle.sn_layout_node.specs.Directory.{links_of}
use Rattle.sn_layout_node.proofs.Links.{links_of-nil}
use Rattle.sn_layout_node.proofs.directory.EntriesIterator.next.Goals as goal

pub returns-then-remaining-eq0-clause-steps : goal.returns-then-remaining-eq0-clause-steps
returns-then-remaining-eq0-clause-steps c =
    let none : c.self.inside.reader ≡ [] = nil_from_length c.self.inside.reader (omega (arith, c.remaining.ensures, c.if-remaining-eq0.true)) in
    let empty : c.args.self.now ≡ [] = sym c.self.view_is ∙ ap links_of none ∙ links_of-nil in
    (empty, empty)
