-- When sessions and a view of the trees show a world.
use Rattle.std.specs.Prelude.{◌≡◌, ℕ, List, Result}
use Rattle.std.specs.FinMap as map
use Rattle.std.specs.Option.{option_and_then}
use Rattle.sn_walk.specs.declared.object.Home.{Home}
use Rattle.sn_walk.specs.Views.{ViewedTrees}
use Rattle.sn_limits.specs.Versions.{limits_written}
use Rattle.sn_model.specs.declared.reply.Refusal.{Refusal}
use Rattle.sn_model.specs.FileCalls.{bytes_of}
use Rattle.sn_model.specs.Seen.{SeenNames, seen_names}
use Rattle.sn_model.specs.Tests.{has_room}
use Rattle.sn_model.specs.World.{Trees, World, new_world, tree_in, trees_of, viewed_trees}
use Rattle.sn_desc.specs.InUse.{InUse, in_world}

-- the bytes of a node of a tree; what isn't there has none
abbrev pub bytes_in : Trees → Home → ℕ → List ℕ
bytes_in trees home number = bytes_of (option_and_then (λ tree. map.get tree.nodes number) (tree_in trees home))

-- whoever is logged in, over the empty world: who it is asks nothing of a tree
abbrev pub alone : InUse → World
alone used = in_world used new_world

-- A world has these sessions and descriptors, its trees are seen so, and so are the room in a directory for a new node, the names and the bytes.
pub record Shows (world : World) (used : InUse) (trees : ViewedTrees) (room : ℕ → Result (Unit {0}) Refusal) (names : SeenNames) (bytes : Home → ℕ → List ℕ) : Type 0 where
  pub sessions_are : used.sessions ≡ world.sessions
  pub descriptors_are : used.descriptors ≡ world.descriptors
  pub trees_are : trees ≡ viewed_trees (trees_of world)
  pub room_is : room ≡ has_room limits_written world.live
  pub names_are : names ≡ seen_names limits_written (trees_of world)
  pub bytes_are : bytes ≡ bytes_in (trees_of world)
