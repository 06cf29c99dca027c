use Rattle.std.proofs.Common.{◌≡◌, ◌≤◌, ◌++◌, [], List, length}
use Rattle.std.specs.List.{AllByRecursion, flat_map}
use Rattle.sn_bytes.proofs.Reading.{AreLeft}
use Rattle.sn_times_file.specs.Kept.{AreSections, IsNamed, Named, named_bytes}
use Rattle.sn_times_file.proofs.reading.read_sections.Given as goal

abbrev pub invariant-loop-alloc : goal.invariant-loop-alloc
invariant-loop-alloc l = record {
  each : AllByRecursion IsNamed l.sections.items;
  few : length l.sections.items ≤ 32;
  read : l.initial.reader ≡ flat_map named_bytes l.sections.items ++ l.reader;
  only : (all : List Named) → AreSections all → l.initial.reader ≡ flat_map named_bytes all → AreLeft IsNamed named_bytes l.sections.items all l.reader [];
}

abbrev pub decreases-loop-alloc : goal.decreases-loop-alloc
decreases-loop-alloc l = length l.reader
