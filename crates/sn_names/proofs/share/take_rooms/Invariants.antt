use Rattle.std.proofs.Common.{◌≡◌, ◌≢◌, ◌⊎◌, ℕ, true, None, Some, get_or}
use Rattle.sn_names.specs.Share.{shares}
use Rattle.sn_names.proofs.share.take_rooms.Given as goal

abbrev pub invariant-loop-i : goal.invariant-loop-i
invariant-loop-i l = record {
  known : (i : ℕ) → get_or l.initial.rooms i None ≢ None → get_or l.rooms i None ≢ None;
  taken : (i left : ℕ) → get_or l.rooms i None ≡ Some left → (get_or l.initial.rooms i None ≡ Some left)
      ⊎ (shares l.numbers l.other.numbers.items l.other.rooms.items i ≡ true) × (get_or l.other.rooms.items i None ≡ Some left);
}
