-- The directory that an archive goes into, and what an import leaves beside it.
use Rattle.std.specs.Prelude.{◌≡◌, ◌≢◌, ℕ, true, false, List, None, Some, is_some}
use Rattle.std.specs.FinMap as map
use Rattle.sn_limits.specs.declared.kind.Kind.TheVariants.{Directory}
use Rattle.sn_walk.specs.Views.{is_hidden_name}
use Rattle.sn_model.specs.declared.link.Link.{Link}
use Rattle.sn_model.specs.Tree.{Node, Tree, link_to}
use Rattle.sn_model.specs.World.{World}
use Rattle.sn_import_laws.specs.Trees.{IsAt}
use Rattle.sn_import_tree_laws.specs.Copies.{IsCopy}

-- The path leads to an empty directory of the live tree. Where it is the root, no name of the exported directory is that of the
-- directory of snapshots, which the root has.
pub record IsTarget (one : Tree) (top : ℕ) (world : World) (into : List ℕ) (place : ℕ) : Type 0 where
  pub node : Node
  pub at : IsAt world into place node
  pub kind : node.kind ≡ Directory
  pub empty : (name : List ℕ) → map.get world.live.links (link_to place name) ≡ None
  pub seen : (n : ℕ) (name : List ℕ) → map.get one.links (link_to top name) ≡ Some n → is_hidden_name place name ≡ false

-- Every other node that was there stays. Every other directory that was there keeps its names, and gets none. The snapshots, the sessions,
-- and what is open in other sessions stay.
pub record IsElsewhere (old new : World) (place : ℕ) : Type 0 where
  pub nodes : (n : ℕ) → n ≢ place → is_some (map.get old.live.nodes n) ≡ true → map.get new.live.nodes n ≡ map.get old.live.nodes n
  pub links : (link : Link) → link.directory ≢ place → is_some (map.get old.live.nodes link.directory) ≡ true → map.get new.live.links link ≡ map.get old.live.links link
  pub frozen : new.frozen ≡ old.frozen
  pub sessions : new.sessions ≡ old.sessions
  pub descriptors : (session fd : ℕ) → session ≢ 0 → map.get new.descriptors (session, fd) ≡ map.get old.descriptors (session, fd)

-- The path leads to the directory still, which is a copy of the exported one, and all else is as it was.
pub record IsImported (one : Tree) (top : ℕ) (old new : World) (into : List ℕ) (place : ℕ) : Type 0 where
  pub node : Node
  pub at : IsAt new into place node
  pub copy : IsCopy one top new.live place
  pub elsewhere : IsElsewhere old new place
