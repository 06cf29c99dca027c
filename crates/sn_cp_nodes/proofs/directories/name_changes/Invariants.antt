use Rattle.std.proofs.Common.{take}
use Rattle.sn_cp_nodes.specs.Made.{ChangeThem}
use Rattle.sn_cp_nodes.proofs.directories.name_changes.Given as goal

abbrev pub invariant-loop-entry : goal.invariant-loop-entry
invariant-loop-entry l = ChangeThem (take l.entry-index l.names) l.changes.items
