use Rattle.std.proofs.Common.{sym, arith, length, ◌∙◌}
use Rattle.std.proofs.lemmas.Bool.{eqb-true, eqb-false}
use Rattle.sn_acl.proofs.Reading.{first-read, more-read, not-read, full-read, end-read}
use Rattle.sn_acl.proofs.text.read_entries.Goals as goal

pub loop-tail-init : goal.loop-tail-init
loop-tail-init c =
    rw (c.push.ensures.items, c.new-entries.ensures)
    (first-read c.args.text.now c.in-Some.first c.in-Some.rest.now c.in-Some.ensures.only)

pub returns-in_default-read_entry : goal.returns-in_default-read_entry
returns-in_default-read_entry c =
    not-read c.args.text.now c.loop-tail.entries.items c.loop-tail.rest.now c.in-Some-after_comma.tail.now
    c.loop-tail.invariant c.in-Some-after_comma.ensures c.in_default-read_entry.ensures.only

pub returns-then-is_full : goal.returns-then-is_full
returns-then-is_full c =
    let full = eqb-true (length c.loop-tail.entries.items) 36 (sym c.if-is_full.ensures.value) in
    full-read c.args.text.now c.loop-tail.entries.items c.loop-tail.rest.now c.in-Some-after_comma.tail.now
    c.loop-tail.invariant c.in-Some-after_comma.ensures (omega (arith, full))

pub loop-tail-preserved : goal.loop-tail-preserved
loop-tail-preserved c =
    rw c.push-in-Some-after_comma.ensures.items
    (more-read c.args.text.now c.loop-tail.entries.items c.loop-tail.rest.now c.in-Some-after_comma.tail.now c.in-Some-read_entry.entry c.in-Some-read_entry.after.now
    c.loop-tail.invariant c.in-Some-after_comma.ensures c.in-Some-read_entry.ensures.only)

pub returns-else-is_empty : goal.returns-else-is_empty
returns-else-is_empty c =
    end-read c.args.text.now c.loop-tail.entries.items c.loop-tail.rest.now c.loop-tail.invariant c.in_default-after_comma.ensures
    (eqb-false (length c.loop-tail.rest.now) 0 (sym c.is_empty.ensures ∙ c.if-is_empty.false))
