use Rattle.std.proofs.Common.{◌≡◌, ◌≤◌, ◌+◌, ◌*◌, ◌++◌, take, length}
use Rattle.sn_acl.specs.Text.{more_text}
use Rattle.sn_acl.proofs.text.push_more.Given as goal

abbrev pub invariant-loop-entry : goal.invariant-loop-entry
invariant-loop-entry l = record {
  bytes : l.text.bytes ≡ l.fn.text.bytes ++ more_text (take l.entry-index l.entries);
  short : length l.text.bytes ≤ length l.fn.text.bytes + 17 * l.entry-index;
}
