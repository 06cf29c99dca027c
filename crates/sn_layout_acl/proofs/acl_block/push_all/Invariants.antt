use Rattle.std.proofs.Common.{◌≡◌, ◌++◌, take}
use Rattle.sn_layout_acl.proofs.acl_block.push_all.Given as goal

abbrev pub invariant-loop-entry : goal.invariant-loop-entry
invariant-loop-entry l = l.list.items ≡ l.initial.list.items ++ take l.entry-index l.entries
