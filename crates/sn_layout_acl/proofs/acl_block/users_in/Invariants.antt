use Rattle.std.proofs.Common.{◌≡◌, ◌+◌, drop}
use Rattle.sn_layout_acl.specs.AclBlock.{users_in}
use Rattle.sn_layout_acl.proofs.acl_block.users_in.Given as goal

abbrev pub invariant-loop-entry : goal.invariant-loop-entry
invariant-loop-entry l = record {
  count : l.count ≡ l.entry-index;
  users : users_in l.named ≡ l.count + users_in (drop l.entry-index l.named);
}
