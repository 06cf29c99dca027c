-- The frozen trees of snapshots, and what is seen of one.
use Rattle.std.specs.Prelude.{ℕ, List}
use Rattle.std.specs.Cmp.Lexicographic.{slice_cmp}
use Rattle.std.specs.FinMap as map
use Rattle.std.specs.Option.{option_and_then}
use Rattle.std.specs.Ordering.{nat_cmp}
use Rattle.sn_model.specs.FileCalls.{bytes_of}
use Rattle.sn_model.specs.Tree.{Tree}
use Rattle.sn_model.specs.World.{viewed_if}
use Rattle.sn_walk.specs.Views.{ViewedTree}

-- trees by the names of their snapshots
abbrev pub FrozenTrees : Type 0
FrozenTrees = map.FinMap (slice_cmp nat_cmp) Tree

-- the tree of a snapshot as a walk sees it, and nothing where there is none
abbrev pub seen_at : FrozenTrees → List ℕ → ViewedTree
seen_at frozen name = viewed_if (map.get frozen name)

-- the bytes of a node of a snapshot's tree; what isn't there has none
abbrev pub bytes_at : FrozenTrees → List ℕ → ℕ → List ℕ
bytes_at frozen name number = bytes_of (option_and_then (λ tree. map.get tree.nodes number) (map.get frozen name))
