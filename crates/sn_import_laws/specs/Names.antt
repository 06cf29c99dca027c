-- A new name at a path: of a directory that wasn't there, or of a file that has others.
use Rattle.std.specs.Prelude.{◌≡◌, ◌≢◌, ℕ, List, [], false, None, Some}
use Rattle.std.specs.FinMap as map
use Rattle.sn_limits.specs.declared.kind.Kind.TheVariants.{Directory, File}
use Rattle.sn_import.specs.declared.object.Rights.{Rights}
use Rattle.sn_model.specs.declared.link.Link.{Link}
use Rattle.sn_model.specs.Tree.{Node}
use Rattle.sn_model.specs.World.{World}
use Rattle.sn_import_laws.specs.Trees.{IsAt}

-- The path leads to this node by a new name. Every other name stays, and so does all but the live tree.
pub record IsNewName (old new : World) (path : List ℕ) (number : ℕ) (node : Node) : Type 0 where
  pub link : Link
  pub at : IsAt new path number node
  pub named : map.get new.live.links link ≡ Some number
  pub absent : map.get old.live.links link ≡ None
  pub links : (other : Link) → other ≢ link → map.get new.live.links other ≡ map.get old.live.links other
  pub frozen : new.frozen ≡ old.frozen
  pub sessions : new.sessions ≡ old.sessions
  pub descriptors : new.descriptors ≡ old.descriptors

-- The path leads to a new directory, which has this owner and this group, and no S_ISVTX. Every other node stays.
pub record IsNewDirectory (old new : World) (path : List ℕ) (rights : Rights) : Type 0 where
  pub number : ℕ
  pub node : Node
  pub name : IsNewName old new path number node
  pub unused : map.get old.live.nodes number ≡ None
  pub nodes : (other : ℕ) → other ≢ number → map.get new.live.nodes other ≡ map.get old.live.nodes other
  pub kind : node.kind ≡ Directory
  pub owner : node.owner ≡ rights.user
  pub group : node.group ≡ rights.group
  pub sticky : node.sticky ≡ false
  pub bytes : node.bytes ≡ []

-- The path leads to the file that another path led to, and every node stays.
pub record IsNewLink (old new : World) (target path : List ℕ) : Type 0 where
  pub number : ℕ
  pub node : Node
  pub was : IsAt old target number node
  pub kind : node.kind ≡ File
  pub name : IsNewName old new path number node
  pub nodes : new.live.nodes ≡ old.live.nodes
