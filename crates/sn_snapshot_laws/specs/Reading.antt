-- Who may read what below a snapshot: its own tree says it, whatever has become of the live one.
use Rattle.std.specs.Prelude.{◌≡◌, ℕ, false, List, ◌∷◌, Ok, codes}
use Rattle.sn_acl.specs.declared.modes.Mode.{Mode}
use Rattle.sn_acl.specs.Credential.{Credential}
use Rattle.sn_limits.specs.declared.limits.Limits.{Limits}
use Rattle.sn_walk.specs.declared.object.Home.TheVariants.{Frozen}
use Rattle.sn_walk.specs.Objects.{root}
use Rattle.sn_walk.specs.Views.{attributes_at}
use Rattle.sn_walk.specs.Walks.{admitted}
use Rattle.sn_model.specs.declared.argument.AclKind.{AclKind}
use Rattle.sn_model.specs.declared.argument.OpenFlags.{OpenFlags}
use Rattle.sn_model.specs.declared.reply.Access.{Access}
use Rattle.sn_model.specs.declared.session.Session.{Session}
use Rattle.sn_model.specs.AccessCalls.{access_outcome, getacl_outcome}
use Rattle.sn_model.specs.Calls.{stat_outcome}
use Rattle.sn_model.specs.FileCalls.{open_as, open_bytes}
use Rattle.sn_model.specs.NameCalls.{readdir_outcome}
use Rattle.sn_model.specs.Seen.{seen}
use Rattle.sn_model.specs.Tree.{Tree}
use Rattle.sn_model.specs.World.{Descriptor, World, trees_of, viewed_trees}
use Rattle.sn_snapshot_laws.specs.Staying.{HasTree}

-- the path of these names in a snapshot's tree
abbrev pub below : List ℕ → List (List ℕ) → List (List ℕ)
below name names = codes ".snapshot" ∷ name ∷ names

-- the live root, where each path begins, lets them search
abbrev pub MaySearch : World → Credential → Type 0
MaySearch w cred = admitted cred 0 (attributes_at (viewed_trees (trees_of w)) root) ≡ Ok tt

-- In two worlds a caller gets the same answer for a path in a snapshot's tree, refused or not, and may open the same there; and whoever has a file of it open reads the same.
pub record ReadsAlike (limits : Limits) (name : List ℕ) (before now : World) (session : Session) (names : List (List ℕ)) : Type 0 where
  pub stat : stat_outcome (viewed_trees (trees_of before)) session (below name names) ≡ stat_outcome (viewed_trees (trees_of now)) session (below name names)
  pub access : (want : Access) → access_outcome (viewed_trees (trees_of before)) session (below name names) want ≡ access_outcome (viewed_trees (trees_of now)) session (below name names) want
  pub getacl : (kind : AclKind) → getacl_outcome (viewed_trees (trees_of before)) session (below name names) kind ≡ getacl_outcome (viewed_trees (trees_of now)) session (below name names) kind
  pub readdir : readdir_outcome (seen limits before) session (below name names) ≡ readdir_outcome (seen limits now) session (below name names)
  pub opens : (fd : ℕ) (flags : OpenFlags) (mode : Mode) → flags.create ≡ false → open_as limits (seen limits before) session fd (below name names) flags mode ≡ open_as limits (seen limits now) session fd (below name names) flags mode
  pub bytes : (d : Descriptor) → d.home ≡ Frozen name → open_bytes before d ≡ open_bytes now d

-- It is so wherever the snapshot has the same tree in both, whatever the live trees are.
abbrev pub SnapshotsReadAlike : Type 0
SnapshotsReadAlike = (limits : Limits) (name : List ℕ) (tree : Tree) (before now : World) (session : Session) (names : List (List ℕ)) → HasTree name tree before → HasTree name tree now → MaySearch before session.cred → MaySearch now session.cred → ReadsAlike limits name before now session names
