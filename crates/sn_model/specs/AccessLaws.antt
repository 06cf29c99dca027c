-- What the calls that set rights do, said as a user of a file system would say it.
use Rattle.std.specs.Prelude.{◌≡◌, ◌≢◌, ◌⊎◌, ℕ, true, false, List, Option, None, Some, Result, Ok, Err, is_some, unwrap_or, slice_set}
use Rattle.std.specs.FinMap as map
use Rattle.sn_acl.specs.Access.{denial_of}
use Rattle.sn_acl.specs.Credential.{Credential, is_member}
use Rattle.sn_acl.specs.declared.modes.Mode.{Mode}
use Rattle.sn_acl.specs.Modes.{mode_of}
use Rattle.sn_limits.specs.declared.limits.Limits.{Limits}
use Rattle.sn_walk.specs.declared.object.Object.{Object}
use Rattle.sn_walk.specs.declared.view.Attributes.{Attributes}
use Rattle.sn_limits.specs.declared.kind.Kind.TheVariants.{File, Directory}
use Rattle.sn_walk.specs.Objects.{root}
use Rattle.sn_walk.specs.Views.{ViewedTrees, attributes_at}
use Rattle.sn_model.specs.declared.call.Call.TheVariants as call
use Rattle.sn_model.specs.declared.change.Change.TheVariants.{SetAttributes}
use Rattle.sn_model.specs.declared.change.Ownership.{Ownership}
use Rattle.sn_model.specs.declared.reply.Access.{Access}
use Rattle.sn_model.specs.declared.reply.Denial.{Denial}
use Rattle.sn_model.specs.declared.reply.Errno.TheVariants.{Eacces}
use Rattle.sn_model.specs.declared.reply.Refusal.{Refusal}
use Rattle.sn_model.specs.declared.reply.Reply.{Reply}
use Rattle.sn_model.specs.declared.reply.Reply.TheVariants as answer
use Rattle.sn_model.specs.declared.session.Session.{Session}
use Rattle.sn_model.specs.AccessCalls.{AclKind, ModeBits, NewAcl, NewAccess, NewDefault, access_outcome, acl_argument, chmod_outcome, chown_outcome, getacl_outcome, id_argument, mode_bits_argument, setacl_outcome}
use Rattle.sn_model.specs.Changes.{apply}
use Rattle.sn_model.specs.Denials.{IsByRule, led_to}
use Rattle.sn_model.specs.Outcomes.{Outcome, Does}
use Rattle.sn_model.specs.Steps.{Step}
use Rattle.sn_model.specs.Tests.{logged_in, new_mode_argument, rights_of}
use Rattle.sn_model.specs.Tree.{Node}
use Rattle.sn_model.specs.World.{World, trees_of, viewed_trees}
use Rattle.sn_model.specs.Worlds.{IsWorld}

-- The owner of a live node, or the user 0, has its owner, group, S bits and ACLs set to what follows from the node; this can be applied.
pub record Sets (limits : Limits) (world : World) (s : Session) (o : Outcome) (Follows : Node → Ownership → Type 0) : Type 0 where
  pub number : ℕ
  pub node : Node
  pub there : map.get world.live.nodes number ≡ Some node
  pub by_owner : (s.cred.uid ≡ 0) ⊎ (s.cred.uid ≡ node.owner)
  pub new : Ownership
  pub change : o.change ≡ Does (SetAttributes number new)
  pub follows : Follows node new
  pub applies : is_some (apply limits (SetAttributes number new) world.live) ≡ true

-- The ACL shows the mode that was asked for, and owner, group and default ACL stay. The S bits are as asked, but a caller who is neither the user 0 nor in a file's group doesn't get S_ISGID there.
pub record ShowsMode (s : Session) (bits : ModeBits) (node : Node) (new : Ownership) : Type 0 where
  pub owner : new.owner ≡ node.owner
  pub group : new.group ≡ node.group
  pub mode : mode_of new.acl ≡ bits.mode
  pub default_acl : new.default_acl ≡ node.default_acl
  pub sticky : new.sticky ≡ bits.sticky
  pub of_directory : node.kind ≡ Directory → new.set_gid ≡ bits.set_gid
  pub of_root : s.cred.uid ≡ 0 → new.set_gid ≡ bits.set_gid
  pub of_member : is_member s.cred node.group ≡ true → new.set_gid ≡ bits.set_gid
  pub of_others : node.kind ≡ File → s.cred.uid ≢ 0 → is_member s.cred node.group ≡ false → new.set_gid ≡ false

-- chmod sets the mode.
abbrev pub ChmodSetsTheMode : Type 0
ChmodSetsTheMode = (limits : Limits) (world : World) (s : Session) (names : List (List ℕ)) (argument : ℕ) (bits : ModeBits) (o : Outcome) → IsWorld limits world
    → mode_bits_argument argument ≡ Ok bits → chmod_outcome limits (viewed_trees (trees_of world)) s names bits ≡ Ok o → Sets limits world s o (ShowsMode s bits)

-- Owner and group are those that were asked for, or stay; the ACLs and S_ISVTX stay. S_ISGID stays with a directory and where the user 0 asks, and a file loses it else. Nobody but the user 0 gives a node to another user, or to another group that it isn't in.
pub record GivesTo (s : Session) (uid gid : Option ℕ) (node : Node) (new : Ownership) : Type 0 where
  pub owner : new.owner ≡ unwrap_or uid node.owner
  pub group : new.group ≡ unwrap_or gid node.group
  pub acl : new.acl ≡ node.acl
  pub default_acl : new.default_acl ≡ node.default_acl
  pub sticky : new.sticky ≡ node.sticky
  pub of_directory : node.kind ≡ Directory → new.set_gid ≡ node.set_gid
  pub of_root : s.cred.uid ≡ 0 → new.set_gid ≡ node.set_gid
  pub of_file : node.kind ≡ File → s.cred.uid ≢ 0 → new.set_gid ≡ false
  pub same_owner : s.cred.uid ≢ 0 → new.owner ≡ node.owner
  pub own_group : s.cred.uid ≢ 0 → (new.group ≡ node.group) ⊎ (is_member s.cred new.group ≡ true)

-- chown sets owner and group.
abbrev pub ChownSetsOwnerAndGroup : Type 0
ChownSetsOwnerAndGroup = (limits : Limits) (world : World) (s : Session) (names : List (List ℕ)) (user uid member gid : Option ℕ) (o : Outcome) → IsWorld limits world
    → id_argument user ≡ Ok uid → id_argument member ≡ Ok gid → chown_outcome limits (viewed_trees (trees_of world)) s names uid gid ≡ Ok o → Sets limits world s o (GivesTo s uid gid)

-- One ACL is the one that was asked for; the other stays, and so do owner, group and the S bits.
abbrev pub SetsWhich : NewAcl → Node → Ownership → Type 0
SetsWhich (NewAccess acl) node new = (new.acl ≡ acl) × (new.default_acl ≡ node.default_acl)
SetsWhich (NewDefault acl) node new = (new.acl ≡ node.acl) × (new.default_acl ≡ acl)

pub record SetsAcl (acl : NewAcl) (node : Node) (new : Ownership) : Type 0 where
  pub owner : new.owner ≡ node.owner
  pub group : new.group ≡ node.group
  pub which : SetsWhich acl node new
  pub set_gid : new.set_gid ≡ node.set_gid
  pub sticky : new.sticky ≡ node.sticky

-- setacl sets one ACL.
abbrev pub SetaclSetsOneAcl : Type 0
SetaclSetsOneAcl = (limits : Limits) (world : World) (s : Session) (names : List (List ℕ)) (kind : AclKind) (argument : List ℕ) (acl : NewAcl) (o : Outcome) → IsWorld limits world
    → acl_argument kind argument ≡ Ok acl → setacl_outcome limits (viewed_trees (trees_of world)) s names acl ≡ Ok o → Sets limits world s o (SetsAcl acl)

-- What the path leads to has an ACL that, by the access check algorithm of acl(5), grants the caller what is wanted.
pub record IsGranted (trees : ViewedTrees) (cred : Credential) (names : List (List ℕ)) (want : Access) : Type 0 where
  pub object : Object
  pub led : led_to trees root names ≡ Some object
  pub attributes : Attributes
  pub has : attributes_at trees object ≡ Some attributes
  pub grants : denial_of cred attributes.owner attributes.group attributes.acl (rights_of want) ≡ None

-- access passes only where the access is granted.
abbrev pub AccessIsGrantedByRule : Type 0
AccessIsGrantedByRule = (trees : ViewedTrees) (s : Session) (names : List (List ℕ)) (want : Access) (o : Outcome) → access_outcome trees s names want ≡ Ok o → IsGranted trees s.cred names want

-- A refusal with EACCES carries a denial of the call's path: at that place the access rule denies what was wanted, by that entry.
pub record IsDeniedOn (trees : ViewedTrees) (cred : Credential) (names : List (List ℕ)) (refusal : Refusal) : Type 0 where
  pub denial : Denial
  pub carried : refusal.denial ≡ Some denial
  pub path : denial.path ≡ 1
  pub by_rule : IsByRule trees cred names denial

abbrev pub DeniesByRule : ViewedTrees → Session → List (List ℕ) → Result Outcome Refusal → Type 0
DeniesByRule trees s names decided = (refusal : Refusal) → decided ≡ Err refusal → refusal.errno ≡ Eacces → IsDeniedOn trees s.cred names refusal

-- the same of each call that asks for rights or sets them
pub record EachDeniesByRule (limits : Limits) (trees : ViewedTrees) (s : Session) (names : List (List ℕ)) : Type 0 where
  pub chmod : (bits : ModeBits) → DeniesByRule trees s names (chmod_outcome limits trees s names bits)
  pub chown : (uid gid : Option ℕ) → DeniesByRule trees s names (chown_outcome limits trees s names uid gid)
  pub access : (want : Access) → DeniesByRule trees s names (access_outcome trees s names want)
  pub getacl : (kind : AclKind) → DeniesByRule trees s names (getacl_outcome trees s names kind)
  pub setacl : (acl : NewAcl) → DeniesByRule trees s names (setacl_outcome limits trees s names acl)

abbrev pub AccessCallsDenyByRule : Type 0
AccessCallsDenyByRule = (limits : Limits) (trees : ViewedTrees) (s : Session) (names : List (List ℕ)) → EachDeniesByRule limits trees s names

-- umask answers the mask from before, and sets the one that was asked for, and nothing else.
abbrev pub UmaskSetsTheMask : Type 0
UmaskSetsTheMask = (limits : Limits) (old new : World) (session argument : ℕ) (s : Session) (mask : Mode) (reply : Reply) → IsWorld limits old → logged_in old session ≡ Ok s → new_mode_argument argument ≡ Ok mask
    → Step limits old session (call.Umask argument) reply new → (reply ≡ answer.Mode s.umask) × (new ≡ record old { sessions = slice_set old.sessions session (Some (record s { umask = mask })) })
