-- A file that a path leads to, where nothing was.
use Rattle.std.specs.Prelude.{◌≡◌, ◌≢◌, ℕ, List, None, Some}
use Rattle.std.specs.FinMap as map
use Rattle.sn_limits.specs.declared.kind.Kind.TheVariants.{File}
use Rattle.sn_import.specs.declared.object.Rights.{Rights}
use Rattle.sn_model.specs.declared.link.Link.{Link}
use Rattle.sn_model.specs.Tree.{Node}
use Rattle.sn_model.specs.World.{World}
use Rattle.sn_import_laws.specs.Contents.{IsOther}
use Rattle.sn_import_laws.specs.Trees.{IsAt}

-- The path leads to this node, whose number and whose name are new. Every other node and every other name stays, and so do the
-- snapshots, the sessions, and what is open but for one descriptor of session 0.
pub record IsNewFile (old new : World) (path : List ℕ) (fd : ℕ) (node : Node) : Type 0 where
  pub number : ℕ
  pub link : Link
  pub at : IsAt new path number node
  pub named : map.get new.live.links link ≡ Some number
  pub unused : map.get old.live.nodes number ≡ None
  pub absent : map.get old.live.links link ≡ None
  pub nodes : (other : ℕ) → other ≢ number → map.get new.live.nodes other ≡ map.get old.live.nodes other
  pub links : (other : Link) → other ≢ link → map.get new.live.links other ≡ map.get old.live.links other
  pub frozen : new.frozen ≡ old.frozen
  pub sessions : new.sessions ≡ old.sessions
  pub descriptors : (session other : ℕ) → IsOther session other fd → map.get new.descriptors (session, other) ≡ map.get old.descriptors (session, other)

-- the file that an object of an archive is: with its rights and its content, and without a default ACL
abbrev pub file_node : Rights → List ℕ → Node
file_node rights content = record {
  kind = File;
  owner = rights.user;
  group = rights.group;
  set_gid = rights.set_gid;
  sticky = rights.sticky;
  acl = rights.access;
  default_acl = None;
  bytes = content;
}

-- The same, and that descriptor is closed.
pub record IsMadeFile (old new : World) (path : List ℕ) (node : Node) : Type 0 where
  pub fd : ℕ
  pub file : IsNewFile old new path fd node
  pub closed : map.get new.descriptors (0, fd) ≡ None
