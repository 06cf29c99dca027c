use Rattle.std.proofs.Common.{◌≡◌, ◌++◌}
use Rattle.std.specs.List.{AllByRecursion, flat_map}
use Rattle.std.specs.FinMap as map
use Rattle.sn_times_file.specs.Kept.{IsEntry, IsOwn, entry_bytes}
use Rattle.sn_times_file.proofs.writer.append_entries.Given as goal

abbrev pub invariant-loop-number : goal.invariant-loop-number
invariant-loop-number l = record {
  written : l.bytes.items ++ flat_map entry_bytes l.number-iterator ≡ l.initial.bytes.items ++ flat_map entry_bytes (map.entries l.tree.own);
  fits : AllByRecursion IsEntry l.number-iterator → IsOwn l.tree.own;
  left : IsOwn l.tree.own → AllByRecursion IsEntry l.number-iterator;
}
