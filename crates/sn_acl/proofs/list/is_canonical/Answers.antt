use Rattle.std.proofs.Common.{sym, ◌∙◌}
use Rattle.sn_acl.proofs.Lists.{canonical_more, canonical_end, canonical_not}
use Rattle.sn_acl.proofs.list.is_canonical.Goals as goal

pub loop-i-preserved : goal.loop-i-preserved
loop-i-preserved c =
    canonical_more c.args.entries.now c.loop-i.i c.index-entries-i.result c.index-entries-i-in-loop-i.result
    c.loop-i.auto.i c.loop-i-test.true (sym c.precedes.ensures ∙ c.if-not-precedes.false) c.loop-i.invariant

pub returns : goal.returns
returns c = canonical_end c.args.entries.now c.loop-i.i c.loop-i-test.false c.loop-i.invariant

pub returns-then-not-precedes : goal.returns-then-not-precedes
returns-then-not-precedes c =
    canonical_not c.args.entries.now c.loop-i.i c.index-entries-i.result c.index-entries-i-in-loop-i.result
    c.loop-i.auto.i c.loop-i-test.true (sym c.precedes.ensures ∙ c.if-not-precedes.true) c.loop-i.invariant
