use Rattle.std.proofs.Common.{◌≡◌, ◌+◌, ◌≤◌, length, vec_len, vec_capacity}
use Rattle.std.specs.Vec.Iter.{into_iter_items, into_iter_len}
use Rattle.sn_overlay.specs.Sorted.{newer_value, put_each}
use Rattle.sn_overlay.proofs.sorted.SortedMap.extend.Given as goal

abbrev pub invariant-loop-key : goal.invariant-loop-key
invariant-loop-key g l = (put_each g.K.Ord.cmp newer_value (into_iter_items l.key-iterator) l.self.entries.items ≡ put_each g.K.Ord.cmp newer_value (into_iter_items l.initial.key-iterator) l.initial.self.entries.items)
    × (vec_len l.self.entries + into_iter_len l.key-iterator ≤ vec_capacity l.self.entries)
    × (into_iter_len l.key-iterator ≡ length (into_iter_items l.key-iterator))
    × (vec_len l.self.entries + into_iter_len l.key-iterator ≤ vec_len l.initial.self.entries + into_iter_len l.initial.key-iterator)
    × (vec_capacity l.initial.self.entries ≤ vec_capacity l.self.entries)
