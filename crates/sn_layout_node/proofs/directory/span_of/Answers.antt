use Rattle.std.proofs.Common.{◌≡◌, ◌∙◌, ◌-◌, ◌++◌, [], List, ℕ, length, take, sym, ap, append_assoc, arith}
use Rattle.std.proofs.lemmas.List.{nil_from_length}
use Rattle.sn_layout_node.specs.Directory.{Link, link_bytes, links_bytes, links_of, number_of, without}
use Rattle.sn_layout_node.proofs.Links.{links_of-nil}
use Rattle.sn_layout_node.proofs.Changes.{first_is, passed, number_other, without_first, without_other, without_none}
use Rattle.sn_layout_node.proofs.directory.span_of.Goals as goal

pub returns-then-eq-clause-others : goal.returns-then-eq-clause-others
returns-then-eq-clause-others c =
    let name = c.args.name.now in
    let links = c.args.links.now in
    let link : Link = record { number = c.next_link-link.result.number; name = c.next_link-link.result.name.now } in
    let more = links_of c.next_link-link.new.reader in
    let first = first_is c.loop-name.reader c.next_link-link.new.reader link c.loop-name.invariant.links c.next_link-link.ensures.others c.next_link-link.ensures.first in
    let next = passed links c.loop-name.reader c.next_link-link.new.reader link c.loop-name.invariant.within c.loop-name.invariant.left first in
    let gone = ap (λ (ls : List Link). links_bytes (without name ls)) c.next_link-link.ensures.first ∙ ap links_bytes (without_first name link more (sym c.if-eq.ensures)) in
    rw (c.remaining-in-loop-name.ensures, c.remaining-then-eq.ensures)
    (c.loop-name.invariant.others ∙ ap (λ (r : List ℕ). take (length links - length c.loop-name.reader) links ++ r) (gone ∙ sym c.next_link-link.ensures.others.spelled ∙ sym next.back))

pub loop-name-preserved : goal.loop-name-preserved
loop-name-preserved c =
    let name = c.args.name.now in
    let links = c.args.links.now in
    let link : Link = record { number = c.next_link-link.result.number; name = c.next_link-link.result.name.now } in
    let more = links_of c.next_link-link.new.reader in
    let first = first_is c.loop-name.reader c.next_link-link.new.reader link c.loop-name.invariant.links c.next_link-link.ensures.others c.next_link-link.ensures.first in
    let next = passed links c.loop-name.reader c.next_link-link.new.reader link c.loop-name.invariant.within c.loop-name.invariant.left first in
    let passed = take (length links - length c.loop-name.reader) links in
    let kept = ap (λ (ls : List Link). links_bytes (without name ls)) c.next_link-link.ensures.first ∙ ap links_bytes (without_other name link more (sym c.if-eq.ensures)) in
    record {
      links = c.next_link-link.ensures.others;
      within = next.within;
      left = next.back;
      number = c.loop-name.invariant.number ∙ ap (number_of name) c.next_link-link.ensures.first ∙ number_other name link more (sym c.if-eq.ensures);
      others = c.loop-name.invariant.others ∙ ap (λ (r : List ℕ). passed ++ r) kept ∙ sym (append_assoc passed (link_bytes link) (links_bytes (without name more))) ∙ ap (λ (r : List ℕ). r ++ links_bytes (without name more)) (sym next.front);
    }

pub returns-clause-none : goal.returns-clause-none
returns-clause-none c = λ _.
    let none : c.loop-name.reader ≡ [] = nil_from_length c.loop-name.reader (omega (arith, c.remaining.ensures)) in
    let unknown = c.loop-name.invariant.number ∙ ap (λ (links : List Link). number_of c.args.name.now links) (ap links_of none ∙ links_of-nil) in
    (unknown, without_none c.args.name.now (links_of c.args.links.now) unknown)
