use Rattle.std.proofs.Common.{◌≡◌, take, true}
use Rattle.std.specs.List.{list_all}
use Rattle.sn_acl.specs.AccessList.{is_entry}
use Rattle.sn_acl.proofs.list.kept.Given as goal

abbrev pub invariant-loop-entry : goal.invariant-loop-entry
invariant-loop-entry l = record {
  items : l.kept.items ≡ take l.entry-index l.entries;
  numbers : list_all is_entry (take l.entry-index l.entries) ≡ true;
}
