use Rattle.std.proofs.Common.{◌≡◌, ◌∙◌, [], List, length, ap, arith}
use Rattle.std.proofs.lemmas.List.{nil_from_length}
use Rattle.sn_layout_node.specs.Directory.{Link, links_of}
use Rattle.sn_layout_node.proofs.Links.{links_of-nil}
use Rattle.sn_layout_node.proofs.directory.count_of.Goals as goal

pub returns : goal.returns
returns c =
    let none : c.loop-reader.reader ≡ [] = nil_from_length c.loop-reader.reader (omega (arith, c.remaining.ensures)) in
    let done = ap (λ (links : List Link). length links) (ap links_of none ∙ links_of-nil) in
    omega (arith, done, c.loop-reader.invariant.counted)
