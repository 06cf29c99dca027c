use Rattle.std.proofs.Common.{◌≡◌, [], length, drop}
use Rattle.sn_import_entry.specs.Acls.{numbered}
use Rattle.sn_import_entry.proofs.acls.numbered.Given as goal

abbrev pub invariant-loop-first : goal.invariant-loop-first
invariant-loop-first l = record {
  same : numbered l.names l.entries.items (drop l.first-index l.said) ≡ numbered l.names [] l.said;
  count : length l.entries.items ≡ l.first-index;
}
