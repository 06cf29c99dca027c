use Rattle.std.proofs.Common.{◌-◌, ◌≤◌, take, drop}
use Rattle.sn_tree.specs.Steps.{AreHoles}
use Rattle.sn_tree.proofs.indirect_copy.IndirectCopy.count_holes.Given as goal

abbrev pub invariant-loop-count : goal.invariant-loop-count
invariant-loop-count l = record {
  within : l.count ≤ l.fn.most;
  holes : AreHoles (take l.count (drop l.fn.from l.pointers));
}

abbrev pub decreases-loop-count : goal.decreases-loop-count
decreases-loop-count l = l.fn.most - l.count
