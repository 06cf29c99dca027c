use Rattle.std.proofs.Common.{◌≡◌, ℕ, ◌+◌, ◌*◌, ◌++◌, List, length}
use Rattle.std.specs.List.{AllByRecursion}
use Rattle.sn_acl.specs.declared.entries.Entry.{Entry}
use Rattle.sn_layout_acl.specs.AclEntry.{IsEntry, entry_bytes, entries_bytes}
use Rattle.sn_layout.proofs.Reading.{AreLeft}
use Rattle.sn_layout_acl.proofs.acl_entries.read_entries.Given as goal

abbrev pub invariant-loop : goal.invariant-loop
invariant-loop l = record {
  count : length l.all.items ≡ l.counter;
  each : AllByRecursion IsEntry l.all.items;
  read : l.initial.reader ≡ entries_bytes l.all.items ++ l.reader;
  left : length l.reader + 8 * l.counter ≡ length l.initial.reader;
  only : (others : List Entry) (rest : List ℕ) → length others ≡ l.count → AllByRecursion IsEntry others
      → l.initial.reader ≡ entries_bytes others ++ rest → AreLeft IsEntry entry_bytes l.all.items others l.reader rest;
}
