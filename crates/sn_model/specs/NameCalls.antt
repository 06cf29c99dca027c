-- The calls on names and listings, each as the list of its tests, in their order, with its outcome where all pass: POSIX.1-2017, rmdir(), link(), rename() and readdir(). The order of the tests is a rule of this project.
use Rattle.std.specs.Prelude.{ℕ, ◌+◌, ◌*◌, ◌==◌, ◌&&◌, ◌||◌, Bool, true, false, nat_lt, is_some, List, [], ◌∷◌, Option, None, Some, Result, Ok, Err, if◌then◌else◌}
use Rattle.std.specs.Option.{option_map_or}
use Rattle.sn_acl.specs.Credential.{Credential}
use Rattle.sn_limits.specs.declared.kind.Kind.{Kind}
use Rattle.sn_limits.specs.declared.kind.Kind.TheVariants.{File, Directory}
use Rattle.sn_limits.specs.declared.limits.Limits.{Limits}
use Rattle.sn_walk.specs.declared.object.Object.{Object}
use Rattle.sn_walk.specs.declared.view.Attributes.{Attributes}
use Rattle.sn_walk.specs.declared.walking.Found.{Found}
use Rattle.sn_walk.specs.declared.walking.Walked.{Walked}
use Rattle.sn_walk.specs.declared.walking.Walked.TheVariants.{Root, Name}
use Rattle.sn_walk.specs.Chains.{◌>>=◌}
use Rattle.sn_walk.specs.Objects.{number_of, root}
use Rattle.sn_walk.specs.Views.{ViewedTrees, is_directory, is_hidden_name}
use Rattle.sn_walk.specs.Walks.{found_at}
use Rattle.sn_model.specs.declared.change.Change.TheVariants.{AddLink, Remove, Rename}
use Rattle.sn_model.specs.declared.moving.Moving.{Moving}
use Rattle.sn_model.specs.declared.reply.Access.{Access}
use Rattle.sn_model.specs.declared.reply.Errno.TheVariants.{Ebusy, Einval, Eisdir, Emlink, Enotdir, Enotempty}
use Rattle.sn_model.specs.declared.reply.Refusal.{Refusal}
use Rattle.sn_model.specs.declared.reply.Reply.TheVariants.{Done, Names}
use Rattle.sn_model.specs.declared.session.Session.{Session}
use Rattle.sn_model.specs.FileCalls.{no_directory}
use Rattle.sn_model.specs.Outcomes.{Outcome, does, tells}
use Rattle.sn_model.specs.Seen.{Seen, last_name, parent_of}
use Rattle.sn_model.specs.Tests.{plain, prefix, full, there, not_present, live, one_tree, granted, writable_parent, sticky}

-- ---- tests

-- only a directory is listed, and taken away by rmdir
abbrev pub is_listable : Found → Result (Unit {0}) Refusal
is_listable found = if is_directory found.attributes.kind then Ok tt else Err (plain Enotdir)

-- a directory that goes has no names
abbrev pub empty : Bool → Result (Unit {0}) Refusal
empty is_empty = if is_empty then Ok tt else Err (plain Enotempty)

-- the directory that a name is in; the tree of `/` is that of the root
abbrev pub home_of : Walked → Object
home_of Root = root
home_of (Name directory place last) = directory

-- a file may get one more name
abbrev pub may_link : Limits → Found → Result (Unit {0}) Refusal
may_link limits found = if nat_lt found.attributes.links limits.links then Ok tt else Err (plain Emlink)

-- `/` and `/.snapshot` stay where they are, and nothing takes their place
abbrev pub is_fixed : List (List ℕ) → Bool
is_fixed [] = true
is_fixed (name ∷ []) = is_hidden_name 2 name
is_fixed (name ∷ next ∷ names) = false

abbrev pub movable : List (List ℕ) → Result (Unit {0}) Refusal
movable names = if is_fixed names then Err (plain Ebusy) else Ok tt

-- both names are of one file or of one directory
abbrev pub is_one : Found → Option Found → Bool
is_one found target = option_map_or (λ other. number_of found.object == number_of other.object) target false

-- the new name doesn't lie below what is moved
abbrev pub not_below : Seen → Moving → Result (Unit {0}) Refusal
not_below seen m = if is_directory m.found.attributes.kind && seen.names.is_below (number_of m.found.object) (number_of m.new_directory) then Err (plain Einval) else Ok tt

-- a directory takes the place of a directory, a file that of a file
abbrev pub alike : Kind → Kind → Result (Unit {0}) Refusal
alike Directory File = Err (plain Enotdir)
alike File Directory = Err (plain Eisdir)
alike kind other = Ok tt

abbrev pub empty_if : Bool → Bool → Result (Unit {0}) Refusal
empty_if false is_empty = Ok tt
empty_if true is_empty = empty is_empty

-- what has the new name gives way to what is moved: sticky; alike; not empty
abbrev pub gives_way : Seen → Credential → Attributes → Found → Option Found → Result (Unit {0}) Refusal
gives_way seen cred parent found None = Ok tt
gives_way seen cred parent found (Some target) =
    sticky cred 2 parent target >>= (λ _. alike found.attributes.kind target.attributes.kind >>= (λ _. empty_if (is_directory target.attributes.kind) (seen.names.is_empty (number_of target.object))))

-- where another name goes from the directory, it may get this one
abbrev pub room_to_move : Seen → Moving → Result (Unit {0}) Refusal
room_to_move seen m = if is_some m.target || number_of m.old_directory == number_of m.new_directory then Ok tt else seen.names.room (number_of m.new_directory)

abbrev pub read : Access
read = record { read = true; write = false; execute = false }

-- ---- the calls

-- a directory that goes from its own at a place: live; w(p); sticky; no names
abbrev pub rmdir_in : Limits → Seen → Session → List (List ℕ) → Object → ℕ → Found → Result Outcome Refusal
rmdir_in limits seen session names at place found = do
  number ← live found.object
  parent ← writable_parent seen.trees session.cred 1 place at
  _ ← sticky session.cred 1 parent found
  _ ← empty (seen.names.is_empty number)
  Ok (does (2 * limits.inode_charge + limits.block_charge) (Remove (number_of at) (last_name names)))

-- rmdir: `/`; Full; a directory; then it goes
unfoldable pub rmdir_outcome : Limits → Seen → Session → List (List ℕ) → Result Outcome Refusal
rmdir_outcome limits seen session names = do
  walked ← prefix seen.trees session.cred 1 names
  at ← parent_of Ebusy walked
  found ← there (found_at seen.trees walked)
  _ ← is_listable found
  rmdir_in limits seen session names at.0 at.1 found

-- a file's new name in a directory at a place: w(new); room for a name of the file, and of the directory
abbrev pub link_in : Limits → Seen → Session → List (List ℕ) → Found → ℕ → Object → ℕ → Result Outcome Refusal
link_in limits seen session others found number at place = do
  _ ← writable_parent seen.trees session.cred 2 place at
  _ ← may_link limits found
  _ ← seen.names.room (number_of at)
  Ok (does (2 * limits.inode_charge + limits.block_charge) (AddLink (number_of at) (last_name others) number))

-- link: Full of the old name; no directory; Prefix of the new one; one tree, which is the file's; live; not present; then the new name
unfoldable pub link_outcome : Limits → Seen → Session → List (List ℕ) → List (List ℕ) → Result Outcome Refusal
link_outcome limits seen session names others = do
  found ← full seen.trees session.cred 1 names
  _ ← no_directory found
  walked ← prefix seen.trees session.cred 2 others
  _ ← one_tree found.object (home_of walked)
  number ← live found.object
  at ← not_present walked
  link_in limits seen session others found number at.0 at.1

-- what is found under a name at a place, and the new name: Prefix of it; one tree; live
abbrev pub moving_to : ViewedTrees → Credential → List (List ℕ) → Object → ℕ → Found → Result Moving Refusal
moving_to trees cred others at place found = do
  other ← prefix trees cred 2 others
  to ← parent_of Ebusy other
  _ ← one_tree at to.0
  _ ← live found.object
  Ok (record { old_directory = at; old_place = place; new_directory = to.0; new_place = to.1; found = found; target = found_at trees other })

-- Full of the old name; then the new one
unfoldable pub moving_of : ViewedTrees → Credential → List (List ℕ) → List (List ℕ) → Result Moving Refusal
moving_of trees cred names others = do
  walked ← prefix trees cred 1 names
  found ← there (found_at trees walked)
  at ← parent_of Ebusy walked
  moving_to trees cred others at.0 at.1 found

-- a name that is moved from one directory to another: sticky; what has the new name gives way; room for a name
abbrev pub moved_in : Limits → Seen → Session → List (List ℕ) → List (List ℕ) → Moving → Attributes → Attributes → Result Outcome Refusal
moved_in limits seen session names others m old new = do
  _ ← sticky session.cred 1 old m.found
  _ ← gives_way seen session.cred new m.found m.target
  _ ← room_to_move seen m
  Ok (does (5 * limits.inode_charge + 2 * limits.block_charge) (Rename (number_of m.old_directory) (last_name names) (number_of m.new_directory) (last_name others)))

-- a rename of one thing's name for another: not below itself; w(old); w(new); then the name is moved
unfoldable pub moved_outcome : Limits → Seen → Session → List (List ℕ) → List (List ℕ) → Moving → Result Outcome Refusal
moved_outcome limits seen session names others m = do
  _ ← not_below seen m
  old ← writable_parent seen.trees session.cred 1 m.old_place m.old_directory
  new ← writable_parent seen.trees session.cred 2 m.new_place m.new_directory
  moved_in limits seen session names others m old new

-- rename: neither name is `/` or `/.snapshot`; the names are looked up; where both are of one thing nothing is done
unfoldable pub rename_outcome : Limits → Seen → Session → List (List ℕ) → List (List ℕ) → Result Outcome Refusal
rename_outcome limits seen session names others = do
  _ ← movable names
  _ ← movable others
  m ← moving_of seen.trees session.cred names others
  if is_one m.found m.target then Ok (tells Done) else moved_outcome limits seen session names others m

-- readdir: Full; a directory; the access
unfoldable pub readdir_outcome : Seen → Session → List (List ℕ) → Result Outcome Refusal
readdir_outcome seen session names = do
  found ← full seen.trees session.cred 1 names
  _ ← is_listable found
  _ ← granted session.cred 1 found.place read (Some found.attributes)
  Ok (tells (Names (seen.names.listed found.object)))
