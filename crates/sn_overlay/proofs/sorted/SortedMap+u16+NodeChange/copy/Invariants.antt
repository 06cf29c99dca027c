use Rattle.std.proofs.Common.{◌≡◌, take}
use Rattle.sn_overlay.proofs.sorted.SortedMap+u16+NodeChange.copy.Given as goal

abbrev pub invariant-loop-entry : goal.invariant-loop-entry
invariant-loop-entry l = l.entries.items ≡ take l.entry-index l.self.entries.items
