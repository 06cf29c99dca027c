use Rattle.std.proofs.Common.{◌∙◌, sym, arith}
use Rattle.sn_snap.proofs.BitLemmas.{gap_end, gap_here, least_free}
use Rattle.sn_snap.proofs.finding.first_gap.Goals as goal

pub returns-after-loop-snapshot-clause-least : goal.returns-after-loop-snapshot-clause-least
returns-after-loop-snapshot-clause-least c =
    let loop = c.loop-snapshot.invariant in
    least_free c.args.snapshots.now c.loop-snapshot.bit c.requires.catalogue.rising
    (loop.bit ∙ sym (gap_end c.args.snapshots.now c.loop-snapshot.snapshot-index c.loop-snapshot-test.false) ∙ sym loop.gap)

pub returns-then-snapshot-bit-clause-least : goal.returns-then-snapshot-bit-clause-least
returns-then-snapshot-bit-clause-least c =
    let loop = c.loop-snapshot.invariant in
    least_free c.args.snapshots.now c.loop-snapshot.bit c.requires.catalogue.rising
    (loop.bit ∙ sym (gap_here c.args.snapshots.now c.loop-snapshot.snapshot-index c.snapshot-item.result c.loop-snapshot-test.true c.snapshot-item.is (omega (arith, loop.bit, c.if-snapshot-bit.true))) ∙ sym loop.gap)
