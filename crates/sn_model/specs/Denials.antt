-- What a refusal for lack of an entry's right says: at that place of that path the access rule of acl(5) denies what was wanted, by that entry.
use Rattle.std.specs.Prelude.{◌≡◌, ℕ, ◌==◌, List, [], ◌∷◌, take, Option, None, Some, Ok, Err, if◌then◌else◌}
use Rattle.std.specs.Option.{option_and_then}
use Rattle.sn_acl.specs.declared.entries.Entry.{Entry}
use Rattle.sn_acl.specs.Credential.{Credential}
use Rattle.sn_acl.specs.Access.{denial_of}
use Rattle.sn_limits.specs.declared.limits.Limits.{Limits}
use Rattle.sn_walk.specs.declared.object.Object.{Object}
use Rattle.sn_walk.specs.declared.view.Attributes.{Attributes}
use Rattle.sn_walk.specs.Objects.{root}
use Rattle.sn_walk.specs.Paths.{parsed}
use Rattle.sn_walk.specs.Views.{ViewedTrees, attributes_at, child_of}
use Rattle.sn_model.specs.declared.call.Call.{Call}
use Rattle.sn_model.specs.declared.call.Call.TheVariants as call
use Rattle.sn_model.specs.declared.reply.Denial.{Denial}
use Rattle.sn_model.specs.declared.reply.Errno.TheVariants.{Eacces}
use Rattle.sn_model.specs.declared.reply.Refusal.{Refusal}
use Rattle.sn_model.specs.declared.reply.Rule.TheVariants as rule
use Rattle.sn_model.specs.declared.session.Session.{Session}
use Rattle.sn_model.specs.Steps.{decision}
use Rattle.sn_model.specs.Tests.{logged_in, rights_of}
use Rattle.sn_model.specs.World.{World, trees_of, viewed_trees}

-- what names denote, one after the other, whoever asks
unfoldable pub led_to : ViewedTrees → Object → List (List ℕ) → Option Object
led_to trees object [] = Some object
led_to trees object (name ∷ names) = option_and_then (λ child. led_to trees child names) (child_of trees object name)

-- at place i of a path is what its first i names denote; place 0 is the root
abbrev pub at_place : ViewedTrees → List (List ℕ) → ℕ → Option Object
at_place trees names place = led_to trees root (take place names)

-- a call's path: 1 is its first
abbrev pub path_of : Call → ℕ → Option (List ℕ)
path_of (call.Mkdir path mode) which = if which == 1 then Some path else None
path_of (call.Chmod path mode) which = if which == 1 then Some path else None
path_of (call.Chown path uid gid) which = if which == 1 then Some path else None
path_of (call.Stat path) which = if which == 1 then Some path else None
path_of (call.Access path want) which = if which == 1 then Some path else None
path_of (call.GetAcl path kind) which = if which == 1 then Some path else None
path_of (call.SetAcl path kind acl) which = if which == 1 then Some path else None
path_of (call.Rmdir path) which = if which == 1 then Some path else None
path_of (call.Unlink path) which = if which == 1 then Some path else None
path_of (call.Link old new) which = if which == 1 then Some old else (if which == 2 then Some new else None)
path_of (call.Rename old new) which = if which == 1 then Some old else (if which == 2 then Some new else None)
path_of (call.Readdir path) which = if which == 1 then Some path else None
path_of (call.Open path flags mode) which = if which == 1 then Some path else None
path_of c which = None

-- the object at the denial's place has an ACL whose entry denies what was wanted
pub record IsByRule (trees : ViewedTrees) (cred : Credential) (names : List (List ℕ)) (denial : Denial) : Type 0 where
  pub object : Object
  pub place : at_place trees names denial.place ≡ Some object
  pub attributes : Attributes
  pub has : attributes_at trees object ≡ Some attributes
  pub entry : Entry
  pub denies : denial_of cred attributes.owner attributes.group attributes.acl (rights_of denial.want) ≡ Some entry
  pub told : denial.rule ≡ rule.Entry entry.tag

-- the refusal has a denial, of a path of the call
pub record IsDenied (world : World) (session : ℕ) (c : Call) (refusal : Refusal) : Type 0 where
  pub denial : Denial
  pub carried : refusal.denial ≡ Some denial
  pub caller : Session
  pub called_by : logged_in world session ≡ Ok caller
  pub word : List ℕ
  pub path : path_of c denial.path ≡ Some word
  pub names : List (List ℕ)
  pub spelled : parsed word ≡ Ok names
  pub by_rule : IsByRule (viewed_trees (trees_of world)) caller.cred names denial

-- Whatever call is refused for want of an entry's right, EACCES, is denied so.
abbrev pub AccessIsDeniedByRule : Type 0
AccessIsDeniedByRule = (limits : Limits) (world : World) (session : ℕ) (c : Call) (refusal : Refusal) → decision limits world session c ≡ Err refusal → refusal.errno ≡ Eacces → IsDenied world session c refusal
