use Rattle.std.proofs.Common.{◌≡◌, [], map, take}
use Rattle.sn_dir_change.specs.Standing.{seen}
use Rattle.sn_dir_change.proofs.standing.unseen.Given as goal

abbrev pub invariant-loop-change : goal.invariant-loop-change
invariant-loop-change l = l.list.items ≡ map (seen []) (take l.change-index l.changes)
