use Rattle.std.proofs.Common.{◌≡◌, ◌+◌, ◌*◌, ◌++◌, take, ℕ, ◌≤◌, drop}
use Rattle.sn_layout_acl.specs.AclEntry.{entries_bytes}
use Rattle.sn_layout_acl.proofs.acl_entries.put_entries.Given as goal

abbrev pub invariant-loop-entry : goal.invariant-loop-entry
invariant-loop-entry l = record {
  next : l.next ≡ l.at + 8 * l.entry-index;
  front : take l.next l.block ≡ take l.at l.initial.block ++ entries_bytes (take l.entry-index l.entries);
  back : (n : ℕ) → l.next ≤ n → drop n l.block ≡ drop n l.initial.block;
}
