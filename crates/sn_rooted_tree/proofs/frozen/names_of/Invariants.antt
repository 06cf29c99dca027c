use Rattle.std.proofs.Common.{◌≡◌, take}
use Rattle.sn_rooted_tree.proofs.frozen.names_of.Given as goal

-- those so far
abbrev pub invariant-loop-name : goal.invariant-loop-name
invariant-loop-name l = l.names.items ≡ take l.name-index l.snapshots
