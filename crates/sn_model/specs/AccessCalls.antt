-- The calls that ask for rights and set them, each as the list of its tests, in their order, with its outcome where all pass: POSIX.1-2017, umask(), chmod(), chown() and access(), and acl(5). That ACLs are read and set by calls, and the order of the tests, are rules of this project.
use Rattle.std.specs.Prelude.{ℕ, ◌/◌, ◌%◌, ◌^◌, ◌==◌, ◌&&◌, ◌||◌, Bool, true, false, nat_lt, List, Option, None, Some, Result, Ok, Err, codes, unwrap_or, if◌then◌else◌}
use Rattle.std.specs.Option.{option_map_or}
use Rattle.std.specs.Str.{bytes_eq}
use Rattle.sn_acl.specs.declared.entries.Entry.{Entry}
use Rattle.sn_acl.specs.Credential.{Credential, is_member}
use Rattle.sn_acl.specs.Modes.{with_mode}
use Rattle.sn_acl.specs.Text.{acl_of}
use Rattle.sn_limits.specs.declared.limits.Limits.{Limits}
use Rattle.sn_walk.specs.declared.object.Object.{Object}
use Rattle.sn_walk.specs.declared.object.Object.TheVariants.{Node, Snapshots}
use Rattle.sn_walk.specs.declared.view.Attributes.{Attributes}
use Rattle.sn_walk.specs.declared.walking.Found.{Found}
use Rattle.sn_walk.specs.Chains.{◌>>=◌}
use Rattle.sn_walk.specs.Views.{ViewedTrees, is_directory}
use Rattle.sn_model.specs.declared.change.Change.TheVariants.{SetAttributes}
use Rattle.sn_model.specs.declared.change.Ownership.{Ownership}
use Rattle.sn_model.specs.declared.reply.Access.{Access}
use Rattle.sn_model.specs.declared.reply.Errno.TheVariants.{Einval}
use Rattle.sn_model.specs.declared.reply.Refusal.{Refusal}
use Rattle.sn_model.specs.declared.reply.Reply.TheVariants as reply
use Rattle.sn_model.specs.declared.reply.Rule.TheVariants as rule
use Rattle.sn_model.specs.declared.session.Session.{Session}
use Rattle.sn_model.specs.Outcomes.{Outcome, does, tells}
use Rattle.sn_model.specs.Tests.{plain, mode_from_bits, full, live, granted, forbidden}
pub use Rattle.sn_model.specs.declared.argument.AclKind.{AclKind}
pub use Rattle.sn_model.specs.declared.argument.AclKind.TheVariants.{Access as OfAccess, Default as OfDefault}
pub use Rattle.sn_model.specs.declared.argument.ModeBits.{ModeBits}
pub use Rattle.sn_model.specs.declared.argument.NewAcl.{NewAcl}
pub use Rattle.sn_model.specs.declared.argument.NewAcl.TheVariants.{Access as NewAccess, Default as NewDefault}

-- ---- arguments

-- an argument that is the mode of an object: 03777 at the most
abbrev pub mode_bits_argument : ℕ → Result ModeBits Refusal
mode_bits_argument bits =
    if nat_lt bits 2048 then Ok (record { mode = mode_from_bits (bits % 512); set_gid = bits / 1024 == 1; sticky = bits / 512 % 2 == 1 }) else Err (plain Einval)

-- an argument that is the number of a user or a group, or none for the one that is there: a number has 32 bits (POSIX.1-2017, chown(), EINVAL)
abbrev pub id_argument : Option ℕ → Result (Option ℕ) Refusal
id_argument id = option_map_or (λ number. if nat_lt number (2 ^ 32) then Ok (Some number) else Err (plain Einval)) id (Ok None)

abbrev pub kind_of : NewAcl → AclKind
kind_of (NewAccess acl) = OfAccess
kind_of (NewDefault acl) = OfDefault

abbrev pub new_acl : AclKind → Option (List Entry) → Result NewAcl Refusal
new_acl kind None = Err (plain Einval)
new_acl OfAccess (Some acl) = Ok (NewAccess acl)
new_acl OfDefault (Some acl) = Ok (NewDefault (Some acl))

-- an argument that is an ACL: the one spelling of a valid one, or a dash for no default ACL
abbrev pub acl_argument : AclKind → List ℕ → Result NewAcl Refusal
acl_argument OfAccess word = new_acl OfAccess (acl_of word)
acl_argument OfDefault word = if bytes_eq word (codes "-") then Ok (NewDefault None) else new_acl OfDefault (acl_of word)

-- ---- tests

-- not-owner: only the owner of an object and the user 0 set its mode, owner, group and ACLs
abbrev pub by_owner : Credential → ℕ → Found → Result (Unit {0}) Refusal
by_owner cred path found = if cred.uid == 0 || cred.uid == found.attributes.owner then Ok tt else Err (forbidden path found.place rule.NotOwner)

-- not-root: only the user 0 gives an object to another user
abbrev pub to_owner : Credential → ℕ → Found → Option ℕ → Result (Unit {0}) Refusal
to_owner cred path found uid = if cred.uid == 0 || unwrap_or uid found.attributes.owner == found.attributes.owner then Ok tt else Err (forbidden path found.place rule.NotRoot)

-- not-member: only the user 0 gives an object to another group that it isn't in
abbrev pub to_group : Credential → ℕ → Found → Option ℕ → Result (Unit {0}) Refusal
to_group cred path found gid =
    if cred.uid == 0 || unwrap_or gid found.attributes.group == found.attributes.group || is_member cred (unwrap_or gid found.attributes.group)
    then Ok tt
    else Err (forbidden path found.place rule.NotMember)

-- a default ACL is that of a directory
abbrev pub has_acl : AclKind → Attributes → Result (Unit {0}) Refusal
has_acl OfAccess a = Ok tt
has_acl OfDefault a = if is_directory a.kind then Ok tt else Err (plain Einval)

-- what is to be written to is in the live tree
abbrev pub live_if : Bool → Object → Result (Unit {0}) Refusal
live_if true object = live object >>= (λ _. Ok tt)
live_if false object = Ok tt

-- ---- what is set

-- the directory of snapshots has no default ACL
abbrev pub default_acl_at : ViewedTrees → Object → Option (List Entry)
default_acl_at trees (Node home number) = (trees.tree home).default_acl number
default_acl_at trees Snapshots = None

abbrev pub ownership_at : ViewedTrees → Found → Ownership
ownership_at trees found = record {
  owner = found.attributes.owner;
  group = found.attributes.group;
  set_gid = found.attributes.set_gid;
  sticky = found.attributes.sticky;
  acl = found.attributes.acl;
  default_acl = default_acl_at trees found.object;
}

-- S_ISGID stays with a directory, and with a file where the caller is the user 0 or in the file's group
abbrev pub may_set_gid : Credential → Attributes → Bool
may_set_gid cred a = is_directory a.kind || cred.uid == 0 || is_member cred a.group

abbrev pub with_mode_bits : Credential → Attributes → ModeBits → Ownership → Ownership
with_mode_bits cred a bits o = record o { acl = with_mode bits.mode o.acl; set_gid = bits.set_gid && may_set_gid cred a; sticky = bits.sticky }

-- S_ISGID stays with a directory, and with a file that the user 0 gives
abbrev pub keeps_set_gid : Credential → Attributes → Bool
keeps_set_gid cred a = is_directory a.kind || cred.uid == 0

abbrev pub given_to : Credential → Attributes → Option ℕ → Option ℕ → Ownership → Ownership
given_to cred a uid gid o = record o { owner = unwrap_or uid o.owner; group = unwrap_or gid o.group; set_gid = o.set_gid && keeps_set_gid cred a }

abbrev pub with_acl : NewAcl → Ownership → Ownership
with_acl (NewAccess acl) o = record o { acl = acl }
with_acl (NewDefault acl) o = record o { default_acl = acl }

-- ---- the calls

-- chmod: Full; live; not-owner
unfoldable pub chmod_outcome : Limits → ViewedTrees → Session → List (List ℕ) → ModeBits → Result Outcome Refusal
chmod_outcome limits trees session names bits = do
  found ← full trees session.cred 1 names
  number ← live found.object
  _ ← by_owner session.cred 1 found
  Ok (does limits.inode_charge (SetAttributes number (with_mode_bits session.cred found.attributes bits (ownership_at trees found))))

-- chown: Full; live; not-owner; not-root; not-member
unfoldable pub chown_outcome : Limits → ViewedTrees → Session → List (List ℕ) → Option ℕ → Option ℕ → Result Outcome Refusal
chown_outcome limits trees session names uid gid = do
  found ← full trees session.cred 1 names
  number ← live found.object
  _ ← by_owner session.cred 1 found
  _ ← to_owner session.cred 1 found uid
  _ ← to_group session.cred 1 found gid
  Ok (does limits.inode_charge (SetAttributes number (given_to session.cred found.attributes uid gid (ownership_at trees found))))

-- access: Full; live where w is wanted; the access
unfoldable pub access_outcome : ViewedTrees → Session → List (List ℕ) → Access → Result Outcome Refusal
access_outcome trees session names want = do
  found ← full trees session.cred 1 names
  _ ← live_if want.write found.object
  _ ← granted session.cred 1 found.place want (Some found.attributes)
  Ok (tells reply.Done)

abbrev pub acl_at : ViewedTrees → AclKind → Found → Option (List Entry)
acl_at trees OfAccess found = Some found.attributes.acl
acl_at trees OfDefault found = default_acl_at trees found.object

-- getacl: Full; a default ACL of no directory
unfoldable pub getacl_outcome : ViewedTrees → Session → List (List ℕ) → AclKind → Result Outcome Refusal
getacl_outcome trees session names kind = do
  found ← full trees session.cred 1 names
  _ ← has_acl kind found.attributes
  Ok (tells (reply.Acl (acl_at trees kind found)))

-- setacl: Full; a default ACL of no directory; live; not-owner
unfoldable pub setacl_outcome : Limits → ViewedTrees → Session → List (List ℕ) → NewAcl → Result Outcome Refusal
setacl_outcome limits trees session names acl = do
  found ← full trees session.cred 1 names
  _ ← has_acl (kind_of acl) found.attributes
  number ← live found.object
  _ ← by_owner session.cred 1 found
  Ok (does limits.inode_charge (SetAttributes number (with_acl acl (ownership_at trees found))))
