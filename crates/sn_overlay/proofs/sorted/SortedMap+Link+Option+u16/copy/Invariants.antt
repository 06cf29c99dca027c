use Rattle.std.proofs.Common.{◌≡◌, take}
use Rattle.sn_overlay.proofs.sorted.SortedMap+Link+Option+u16.copy.Given as goal

abbrev pub invariant-loop-entry : goal.invariant-loop-entry
invariant-loop-entry l = l.entries.items ≡ take l.entry-index l.self.entries.items
