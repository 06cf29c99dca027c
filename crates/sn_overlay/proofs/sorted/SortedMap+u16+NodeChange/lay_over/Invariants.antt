use Rattle.std.proofs.Common.{◌≡◌, ◌+◌, ◌≤◌, length, vec_len, vec_capacity}
use Rattle.std.specs.Vec.Iter.{into_iter_items, into_iter_len}
use Rattle.std.specs.Ordering.{nat_cmp}
use Rattle.sn_overlay.specs.Merges.{change_over}
use Rattle.sn_overlay.specs.Sorted.{put_each}
use Rattle.sn_overlay.proofs.sorted.SortedMap+u16+NodeChange.lay_over.Given as goal

abbrev pub invariant-loop-number : goal.invariant-loop-number
invariant-loop-number l = (put_each nat_cmp change_over (into_iter_items l.number-iterator) l.self.entries.items ≡ put_each nat_cmp change_over (into_iter_items l.initial.number-iterator) l.initial.self.entries.items)
    × (vec_len l.self.entries + into_iter_len l.number-iterator ≤ vec_capacity l.self.entries)
    × (into_iter_len l.number-iterator ≡ length (into_iter_items l.number-iterator))
    × (vec_len l.self.entries + into_iter_len l.number-iterator ≤ vec_len l.initial.self.entries + into_iter_len l.initial.number-iterator)
    × (vec_capacity l.initial.self.entries ≤ vec_capacity l.self.entries)
