-- What a path leads to, and what becomes of it.
use Rattle.std.specs.Prelude.{◌≡◌, ◌≢◌, ℕ, List, Some, Ok}
use Rattle.std.specs.FinMap as map
use Rattle.sn_walk.specs.declared.object.Home.TheVariants.{Live}
use Rattle.sn_walk.specs.declared.object.Object.TheVariants as object
use Rattle.sn_walk.specs.Objects.{root}
use Rattle.sn_model.specs.Denials.{led_to}
use Rattle.sn_model.specs.Tests.{path_argument}
use Rattle.sn_model.specs.Tree.{Node, Tree}
use Rattle.sn_model.specs.World.{World, trees_of, viewed_trees}

-- a path leads to a node of the live tree
pub record IsAt (world : World) (path : List ℕ) (number : ℕ) (node : Node) : Type 0 where
  pub names : List (List ℕ)
  pub spelled : path_argument path ≡ Ok names
  pub led : led_to (viewed_trees (trees_of world)) root names ≡ Some (object.Node Live number)
  pub there : map.get world.live.nodes number ≡ Some node

-- One node becomes this one, and every other node and each name stays.
pub record Turns (old new : Tree) (number : ℕ) (node : Node) : Type 0 where
  pub made : map.get new.nodes number ≡ Some node
  pub nodes : (other : ℕ) → other ≢ number → map.get new.nodes other ≡ map.get old.nodes other
  pub links : new.links ≡ old.links

-- The node that a path leads to becomes another in the live tree. All else stays: every other node, each name, the snapshots, the
-- sessions and what is open.
pub record IsTurned (old new : World) (path : List ℕ) (becomes : Node → Node) : Type 0 where
  pub number : ℕ
  pub node : Node
  pub at : IsAt old path number node
  pub turns : Turns old.live new.live number (becomes node)
  pub frozen : new.frozen ≡ old.frozen
  pub sessions : new.sessions ≡ old.sessions
  pub descriptors : new.descriptors ≡ old.descriptors
