use Rattle.std.proofs.Common.{◌≡◌, ◌+◌, drop}
use Rattle.sn_snap.proofs.BitLemmas.{gap_after}
use Rattle.sn_snap.proofs.finding.first_gap.Given as goal

abbrev pub invariant-loop-snapshot : goal.invariant-loop-snapshot
invariant-loop-snapshot l = record {
  bit : l.bit ≡ l.snapshot-index + 1;
  gap : gap_after 0 l.snapshots ≡ gap_after l.snapshot-index (drop l.snapshot-index l.snapshots);
}
