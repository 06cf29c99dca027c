use Rattle.std.proofs.Common.{◌≡◌, ℕ, ◌++◌, List, length}
use Rattle.std.specs.List.{flat_map}
use Rattle.std.specs.FinMap as map
use Rattle.sn_bytes.proofs.Reading.{AreLeft}
use Rattle.sn_times_file.specs.Kept.{IsEntry, IsOwn, Own, entry_bytes}
use Rattle.sn_times_file.proofs.Entries.{IsLeast}
use Rattle.sn_times_file.proofs.reading.read_entries.Given as goal

abbrev pub invariant-loop : goal.invariant-loop
invariant-loop l = record {
  base : l.tree.base ≡ l.fn.base;
  count : length (map.entries l.tree.own) ≡ l.counter;
  each : IsOwn l.tree.own;
  read : l.initial.reader ≡ flat_map entry_bytes (map.entries l.tree.own) ++ l.reader;
  least : IsLeast l.least (map.entries l.tree.own);
  only : (others : Own) (rest : List ℕ) → map.len others ≡ l.count → IsOwn others → l.initial.reader ≡ flat_map entry_bytes (map.entries others) ++ rest
      → AreLeft IsEntry entry_bytes (map.entries l.tree.own) (map.entries others) l.reader rest;
}
