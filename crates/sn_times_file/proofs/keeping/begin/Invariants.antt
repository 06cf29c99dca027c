use Rattle.std.proofs.Common.{◌≡◌, ◌+◌, ◌≤◌, length}
use Rattle.std.specs.Vec.Iter.{into_iter_items, into_iter_len}
use Rattle.sn_times_file.specs.Keeping.{with_sections}
use Rattle.sn_times_file.proofs.keeping.begin.Given as goal

-- what comes of the sections to come is what comes of all
abbrev pub invariant-loop-section : goal.invariant-loop-section
invariant-loop-section l = record {
  begun : with_sections (into_iter_items l.section-iterator) l.home l.times ≡ with_sections (into_iter_items l.initial.section-iterator) l.initial.home l.initial.times;
  left : into_iter_len l.section-iterator ≡ length (into_iter_items l.section-iterator);
  small : l.home + length (into_iter_items l.section-iterator) ≤ 281474976710688;
}
