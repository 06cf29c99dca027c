use Rattle.std.proofs.Common.{◌≡◌, ◌≤◌, ◌*◌, take, length}
use Rattle.sn_acl_text.specs.Long.{long_text}
use Rattle.sn_acl_text.proofs.writing.print_long.Given as goal

abbrev pub invariant-loop-entry : goal.invariant-loop-entry
invariant-loop-entry l = record {
  bytes : l.text.bytes ≡ long_text (take l.entry-index l.entry-items);
  short : length l.text.bytes ≤ 21 * l.entry-index;
}
