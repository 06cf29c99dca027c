use Rattle.std.proofs.Common.{◌≡◌, ◌-◌, ◌<◌, ◌≤◌, ℕ, true}
use Rattle.sn_names.specs.Rooms.{room_is_below}
use Rattle.sn_names.specs.Index.{room_at}
use Rattle.sn_names.proofs.index.NameIndex.next_roomy.Given as goal

abbrev pub invariant-loop-i : goal.invariant-loop-i
invariant-loop-i l = record {
  after : l.from ≤ l.i;
  end : l.i ≤ l.until;
  below : (i : ℕ) → l.from ≤ i → i < l.i → room_is_below l.least (room_at l.self i) ≡ true;
}

abbrev pub decreases-loop-i : goal.decreases-loop-i
decreases-loop-i l = l.until - l.i
