use Rattle.std.proofs.Common.{◌≡◌, ◌∙◌, [], List, sym, ap, arith}
use Rattle.std.proofs.lemmas.List.{nil_from_length}
use Rattle.sn_layout_node.specs.Directory.{Link, links_of, number_of}
use Rattle.sn_layout_node.proofs.Links.{links_of-nil}
use Rattle.sn_layout_node.proofs.directory.number_of.Goals as goal

pub returns : goal.returns
returns c =
    let none : c.loop-name.reader ≡ [] = nil_from_length c.loop-name.reader (omega (arith, c.remaining.ensures)) in
    sym (c.loop-name.invariant.same ∙ ap (λ (links : List Link). number_of c.args.name.now links) (ap links_of none ∙ links_of-nil))
