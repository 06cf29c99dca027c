use Rattle.std.proofs.Common.{◌≡◌, reverse}
use Rattle.sn_device.specs.Sectors.{AreSectors}
use Rattle.sn_device.specs.Undo.{crashed_by}
use Rattle.sn_device.proofs.memory.fill_unsynced.Given as goal

-- what is left to do leads to the same sectors
abbrev pub invariant-loop-entry : goal.invariant-loop-entry
invariant-loop-entry l =
    (crashed_by l.fill (reverse l.calls.items) l.sectors.items ≡ crashed_by l.fill (reverse l.initial.calls.items) l.initial.sectors.items) × AreSectors l.sectors.items

abbrev pub decreases-loop-entry : goal.decreases-loop-entry
decreases-loop-entry l = goal.left-loop-entry l
