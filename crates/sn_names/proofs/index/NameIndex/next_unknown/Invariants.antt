use Rattle.std.proofs.Common.{◌≢◌, ◌-◌, ◌<◌, ◌≤◌, ℕ, None}
use Rattle.sn_names.specs.Index.{room_at}
use Rattle.sn_names.proofs.index.NameIndex.next_unknown.Given as goal

abbrev pub invariant-loop-i : goal.invariant-loop-i
invariant-loop-i l = record {
  after : l.from ≤ l.i;
  known : (i : ℕ) → l.from ≤ i → i < l.i → room_at l.self i ≢ None;
}

abbrev pub decreases-loop-i : goal.decreases-loop-i
decreases-loop-i l = l.until - l.i
