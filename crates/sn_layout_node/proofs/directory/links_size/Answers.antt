use Rattle.std.proofs.Common.{◌∙◌, ◌-◌, length, sym, ap, arith}
use Rattle.sn_layout.proofs.Fields.{length-zeros}
use Rattle.sn_layout_node.specs.Directory.{links_bytes, begins_link}
use Rattle.sn_layout_node.proofs.Links.{begins_with, next_left, none_left}
use Rattle.sn_layout_node.proofs.directory.links_size.Goals as goal

pub skip_link-requires : goal.skip_link-requires
skip_link-requires c =
    let begins = ap begins_link (sym c.rest.ensures) ∙ sym c.begins_link.ensures ∙ c.loop-reader-test.true in
    let (links, spelled) = c.requires in
    begins_with c.loop-reader.reader (4096 - length (links_bytes links)) begins (c.loop-reader.invariant links spelled)

pub loop-reader-preserved : goal.loop-reader-preserved
loop-reader-preserved c = λ links spelled.
    let begins = ap begins_link (sym c.rest.ensures) ∙ sym c.begins_link.ensures ∙ c.loop-reader-test.true in
    let next = next_left c.loop-reader.reader c.skip_link.new.reader (4096 - length (links_bytes links)) (λ _. Unit {0}) (Unit {0}) (λ link rest one e. (tt, c.skip_link.ensures.only link rest one e, tt)) begins (c.loop-reader.invariant links spelled) in
    next.0

pub overflow_sub-result : goal.overflow_sub-result
overflow_sub-result c =
    let begins = ap begins_link (sym c.rest.ensures) ∙ sym c.begins_link.ensures ∙ c.loop-reader-test.false in
    let (links, spelled) = c.requires in
    let none = none_left c.loop-reader.reader (4096 - length (links_bytes links)) begins (c.loop-reader.invariant links spelled) in
    omega (arith, c.remaining.ensures, ap length none, length-zeros (4096 - length (links_bytes links)))

pub returns : goal.returns
returns c = λ links spelled.
    let begins = ap begins_link (sym c.rest.ensures) ∙ sym c.begins_link.ensures ∙ c.loop-reader-test.false in
    let none = none_left c.loop-reader.reader (4096 - length (links_bytes links)) begins (c.loop-reader.invariant links spelled) in
    omega (arith, c.remaining.ensures, ap length none, length-zeros (4096 - length (links_bytes links)), spelled.fit.room)
