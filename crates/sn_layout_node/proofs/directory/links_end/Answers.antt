use Rattle.std.proofs.Common.{◌≡◌, ◌∙◌, ◌-◌, [], ◌++◌, length, List, ℕ, Some, sym, ap, arith}
use Rattle.std.specs.Prelude.{IsSome}
use Rattle.std.proofs.lemmas.List.{append-nil, nil_from_length, length-drop}
use Rattle.sn_layout.specs.Bytes.{zeros}
use Rattle.sn_layout.proofs.Fields.{true_false, length-zeros}
use Rattle.sn_layout_node.specs.Directory.{links_bytes, begins_link}
use Rattle.sn_layout_node.proofs.Links.{next_left, none_left, none_some, read_more, read_front, read_back}
use Rattle.sn_layout_node.proofs.directory.links_end.Goals as goal

pub loop-reader-preserved : goal.loop-reader-preserved
loop-reader-preserved c = record {
  read = read_more c.args.bytes.now c.loop-reader.reader c.read_link.new.reader _ c.loop-reader.invariant.read c.in_ok-read_link.ensures.found.0 c.in_ok-read_link.ensures.found.1;
  only = λ links fits e.
      let begins = ap begins_link (sym c.rest.ensures) ∙ sym c.begins_link.ensures ∙ c.loop-reader-test.true in
      let next = next_left c.loop-reader.reader c.read_link.new.reader (4096 - length (links_bytes links)) (λ _. Unit {0}) (IsSome c.read_link.result) (λ link rest one spelled. let f = c.read_link.ensures.only link rest one spelled in (tt, f.1, f.2)) begins (c.loop-reader.invariant.only links fits e) in
      next.0;
}

pub returns-in_err-read_link-clause-only : goal.returns-in_err-read_link-clause-only
returns-in_err-read_link-clause-only c = λ links fits e.
    let begins = ap begins_link (sym c.rest.ensures) ∙ sym c.begins_link.ensures ∙ c.loop-reader-test.true in
    let next = next_left c.loop-reader.reader c.read_link.new.reader (4096 - length (links_bytes links)) (λ _. Unit {0}) (IsSome c.read_link.result) (λ link rest one spelled. let f = c.read_link.ensures.only link rest one spelled in (tt, f.1, f.2)) begins (c.loop-reader.invariant.only links fits e) in
    none_some c.read_link.result c.in_err-read_link.was next.1

pub returns-then-not-are_zeros-clause-only : goal.returns-then-not-are_zeros-clause-only
returns-then-not-are_zeros-clause-only c = λ links fits e.
    let begins = ap begins_link (sym c.rest.ensures) ∙ sym c.begins_link.ensures ∙ c.loop-reader-test.false in
    let none = none_left c.loop-reader.reader (4096 - length (links_bytes links)) begins (c.loop-reader.invariant.only links fits e) in
    let count : c.remaining-left.result ≡ 4096 - length (links_bytes links) = c.remaining-left.ensures ∙ ap length none ∙ length-zeros (4096 - length (links_bytes links)) in
    let blank = c.are_zeros.ensures.only [] (none ∙ ap zeros (sym count) ∙ sym (append-nil (zeros c.remaining-left.result))) in
    true_false c.are_zeros.result blank.0 c.if-not-are_zeros.true

pub returns-clause-links : goal.returns-clause-links
returns-clause-links c = read_front c.args.bytes.now c.loop-reader.reader c.remaining-left.result c.requires (sym c.remaining-left.ensures) c.loop-reader.invariant.read

pub returns-clause-zeros : goal.returns-clause-zeros
returns-clause-zeros c =
    let back = read_back c.args.bytes.now c.loop-reader.reader c.remaining-left.result c.requires (sym c.remaining-left.ensures) c.loop-reader.invariant.read in
    let none : c.are_zeros.new.self ≡ [] = nil_from_length c.are_zeros.new.self (omega (arith, c.are_zeros.ensures.left, c.remaining-left.ensures)) in
    let blank = c.are_zeros.ensures.read c.if-not-are_zeros.false ∙ ap (λ (r : List ℕ). zeros c.remaining-left.result ++ r) none ∙ append-nil (zeros c.remaining-left.result) in
    back ∙ blank ∙ ap zeros (omega (arith, c.remaining-left.ensures, c.requires, ap length back, length-drop (4096 - c.remaining-left.result) c.args.bytes.now))

pub returns-clause-only : goal.returns-clause-only
returns-clause-only c = λ links fits e.
    let begins = ap begins_link (sym c.rest.ensures) ∙ sym c.begins_link.ensures ∙ c.loop-reader-test.false in
    let none = none_left c.loop-reader.reader (4096 - length (links_bytes links)) begins (c.loop-reader.invariant.only links fits e) in
    let count : c.remaining-left.result ≡ 4096 - length (links_bytes links) = c.remaining-left.ensures ∙ ap length none ∙ length-zeros (4096 - length (links_bytes links)) in
    ap Some (omega (arith, count, fits.room))
