use Rattle.std.proofs.Common.{take}
use Rattle.sn_dir_change.specs.Changes.{AreLinkChanges}
use Rattle.sn_dir_change.proofs.name_change.can_each.Given as goal

abbrev pub invariant-loop-change : goal.invariant-loop-change
invariant-loop-change l = AreLinkChanges (take l.change-index l.changes)
