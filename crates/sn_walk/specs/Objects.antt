-- What a name can denote, and in which tree it is.
use Rattle.std.specs.Prelude.{ℕ, Bool, true, false, ◌==◌}
use Rattle.std.specs.Cmp.Lexicographic.{pointwise}
use Rattle.sn_walk.specs.declared.object.Home.{Home}
use Rattle.sn_walk.specs.declared.object.Home.TheVariants.{Live, Frozen}
use Rattle.sn_walk.specs.declared.object.Object.{Object}
use Rattle.sn_walk.specs.declared.object.Object.TheVariants.{Node, Snapshots}

-- the live root directory
abbrev pub root : Object
root = Node Live 2

-- the number that a caller sees; that of the directory of snapshots is 1
abbrev pub number_of : Object → ℕ
number_of (Node home number) = number
number_of Snapshots = 1

abbrev pub is_same : Home → Home → Bool
is_same Live Live = true
is_same (Frozen s) (Frozen t) = pointwise ◌==◌ s t
is_same home other = false

-- whether both are in one tree; the directory of snapshots is a tree of its own
abbrev pub is_in_tree_of : Object → Object → Bool
is_in_tree_of (Node home a) (Node other b) = is_same home other
is_in_tree_of Snapshots Snapshots = true
is_in_tree_of object other = false
