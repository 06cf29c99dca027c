use Rattle.std.proofs.Common.{◌≡◌, ◌+◌, ◌≤◌, ◌++◌, vec_len, vec_capacity}
use Rattle.std.specs.Vec.Iter.{drain_items, drain_len, DrainKeeps}
use Rattle.sn_overlay.proofs.lists.SortedMap+FileBlock+Box+Block.take_blocks.Given as goal

abbrev pub invariant-loop-entry : goal.invariant-loop-entry
invariant-loop-entry l = (goal.iterator-loop-entry).can_next l.entry-iterator
    × (goal.iterator-loop-entry).is_finite l.entry-iterator
    × DrainKeeps l.initial.entry-iterator l.entry-iterator
    × (l.taken.items ++ drain_items l.entry-iterator ≡ drain_items l.initial.entry-iterator)
    × (vec_len l.taken + drain_len l.entry-iterator ≤ vec_capacity l.taken)
