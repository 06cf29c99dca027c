use Rattle.std.proofs.Common.{◌≡◌, ◌+◌, ◌++◌, length, map}
use Rattle.std.specs.List.{AllByRecursion, flat_map}
use Rattle.std.specs.Vec.{vec_items}
use Rattle.sn_times_file.specs.Keeping.{section_of, snapshots_of}
use Rattle.sn_times_file.specs.Kept.{IsNamed, named_bytes}
use Rattle.sn_times_file.proofs.keeping.write_snapshots.Given as goal

abbrev pub invariant-loop-name : goal.invariant-loop-name
invariant-loop-name l = record {
  written : l.writer ++ flat_map named_bytes (map (section_of l.times) (map vec_items l.name-iterator)) ≡ l.initial.writer ++ flat_map named_bytes (snapshots_of l.times);
  fits : AllByRecursion IsNamed (map (section_of l.times) (map vec_items l.name-iterator)) → AllByRecursion IsNamed (snapshots_of l.times);
  left : AllByRecursion IsNamed (snapshots_of l.times) → AllByRecursion IsNamed (map (section_of l.times) (map vec_items l.name-iterator));
  room : l.room + length (snapshots_of l.times) ≡ 31 + length l.name-iterator;
}
