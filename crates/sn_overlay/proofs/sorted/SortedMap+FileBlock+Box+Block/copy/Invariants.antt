use Rattle.std.proofs.Common.{◌≡◌, take}
use Rattle.sn_overlay.specs.Sorted.{bytes_by_file_block}
use Rattle.sn_overlay.proofs.sorted.SortedMap+FileBlock+Box+Block.copy.Given as goal

abbrev pub invariant-loop-entry : goal.invariant-loop-entry
invariant-loop-entry l = bytes_by_file_block l.entries.items ≡ bytes_by_file_block (take l.entry-index l.self.entries.items)
