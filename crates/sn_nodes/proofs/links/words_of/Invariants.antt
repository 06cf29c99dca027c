use Rattle.std.proofs.Common.{◌≡◌, ◌++◌, map}
use Rattle.std.specs.FinMap as fin
use Rattle.std.specs.Vec.{vec_items}
use Rattle.sn_nodes.proofs.links.words_of.Given as goal

-- the names so far, and those that are left
abbrev pub invariant-loop-name : goal.invariant-loop-name
invariant-loop-name l = l.words.items ++ map vec_items l.name-iterator ≡ fin.keys l.names
