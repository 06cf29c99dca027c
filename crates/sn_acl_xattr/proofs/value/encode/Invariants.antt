use Rattle.std.proofs.Common.{◌≡◌, ◌+◌, ◌*◌, take, length}
use Rattle.sn_acl_xattr.specs.Values.{value_of}
use Rattle.sn_acl_xattr.proofs.value.encode.Given as goal

abbrev pub invariant-loop-entry : goal.invariant-loop-entry
invariant-loop-entry l = record {
  written : l.value.items ≡ value_of (take l.entry-index l.entry-items);
  short : length l.value.items ≡ 4 + 8 * l.entry-index;
}
