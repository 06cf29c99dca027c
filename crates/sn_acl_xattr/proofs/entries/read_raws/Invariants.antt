use Rattle.std.proofs.Common.{◌≡◌, ℕ, ◌+◌, ◌*◌, ◌++◌, List, length}
use Rattle.std.specs.List.{AllByRecursion}
use Rattle.sn_bytes.proofs.Reading.{AreLeft}
use Rattle.sn_acl_xattr.specs.declared.entries.RawEntry.{RawEntry}
use Rattle.sn_acl_xattr.specs.Values.{IsRaw, raw_bytes, raws_bytes}
use Rattle.sn_acl_xattr.proofs.entries.read_raws.Given as goal

abbrev pub invariant-loop : goal.invariant-loop
invariant-loop l = record {
  count : length l.raws.items ≡ l.counter;
  each : AllByRecursion IsRaw l.raws.items;
  read : l.initial.reader ≡ raws_bytes l.raws.items ++ l.reader;
  left : length l.reader + 8 * l.counter ≡ length l.initial.reader;
  only : (others : List RawEntry) (rest : List ℕ) → length others ≡ l.count → AllByRecursion IsRaw others
      → l.initial.reader ≡ raws_bytes others ++ rest → AreLeft IsRaw raw_bytes l.raws.items others l.reader rest;
}
