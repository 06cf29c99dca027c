-- The calls on files and descriptors, each as the list of its tests, in their order, with its outcome where all pass: POSIX.1-2017, open(), close(), read(), write(), lseek(), ftruncate() and unlink(). The order of the tests is a rule of this project, and so is that a write is whole or not at all.
use Rattle.std.specs.Prelude.{ℕ, ◌+◌, ◌-◌, ◌*◌, ◌/◌, ◌==◌, ◌&&◌, ◌||◌, not, Bool, false, nat_le, nat_lt, List, [], Option, None, Some, Result, Ok, Err, length, take, drop, if◌then◌else◌}
use Rattle.std.specs.List.{list_all}
use Rattle.std.specs.FinMap as map
use Rattle.std.specs.Option.{option_and_then, option_map_or}
use Rattle.sn_acl.specs.declared.entries.Entry.{Entry}
use Rattle.sn_acl.specs.declared.modes.Mode.{Mode}
use Rattle.sn_acl.specs.Inheritance.{inherited_access, inherited_default}
use Rattle.sn_limits.specs.declared.kind.Kind.{Kind}
use Rattle.sn_limits.specs.declared.kind.Kind.TheVariants.{File}
use Rattle.sn_limits.specs.declared.limits.Limits.{Limits}
use Rattle.sn_walk.specs.declared.object.Home.{Home}
use Rattle.sn_walk.specs.declared.object.Home.TheVariants.{Live}
use Rattle.sn_walk.specs.declared.object.Object.{Object}
use Rattle.sn_walk.specs.declared.object.Object.TheVariants.{Node, Snapshots}
use Rattle.sn_walk.specs.declared.view.Attributes.{Attributes}
use Rattle.sn_walk.specs.declared.walking.Found.{Found}
use Rattle.sn_walk.specs.declared.walking.Walked.{Walked}
use Rattle.sn_walk.specs.Chains.{◌>>=◌}
use Rattle.sn_walk.specs.Objects.{number_of}
use Rattle.sn_walk.specs.Views.{ViewedTrees, is_directory}
use Rattle.sn_walk.specs.Walks.{found_at}
pub use Rattle.sn_model.specs.declared.argument.OpenFlags.{OpenFlags}
use Rattle.sn_model.specs.declared.change.Change.TheVariants.{Remove, SetSize, Write}
use Rattle.sn_model.specs.declared.change.Ownership.{Ownership}
use Rattle.sn_model.specs.declared.reply.Access.{Access}
use Rattle.sn_model.specs.declared.reply.Errno.TheVariants.{Eexist, Efbig, Einval, Eisdir, Enoent, Eperm}
use Rattle.sn_model.specs.declared.reply.Refusal.{Refusal}
use Rattle.sn_model.specs.declared.reply.Reply.TheVariants.{Content, Done, Number}
use Rattle.sn_model.specs.declared.session.Session.{Session}
use Rattle.sn_model.specs.AccessCalls.{live_if}
use Rattle.sn_model.specs.Descriptors.{Descriptors, descriptor_at, is_offset, next_descriptor, readable_at, writable_at}
use Rattle.sn_model.specs.Outcomes.{Outcome, Makes, Does, Closes, Moves, Opens, OpensNew, Unasked, does, tells, asks}
use Rattle.sn_model.specs.Seen.{Seen, last_name, parent_of}
use Rattle.sn_model.specs.Tests.{plain, prefix, there, live, granted, writable_parent, sticky}
use Rattle.sn_model.specs.Tree.{Node as TreeNode}
use Rattle.sn_model.specs.World.{Descriptor, World, tree_in, trees_of}

-- ---- arguments

-- reading or writing has to be asked for, to append and to truncate are ways of writing, and only what is created can be exclusive
abbrev pub are_flags : OpenFlags → Bool
are_flags f = (f.read || f.write) && (not (f.append || f.truncate) || f.write) && (not f.exclusive || f.create)

abbrev pub flags_argument : OpenFlags → Result OpenFlags Refusal
flags_argument flags = if are_flags flags then Ok flags else Err (plain Einval)

-- how many bytes a call may read or write
abbrev pub count_argument : ℕ → Result ℕ Refusal
count_argument count = if nat_le count 65536 then Ok count else Err (plain Einval)

-- so many bytes, each below 256
abbrev pub bytes_argument : List ℕ → Result (List ℕ) Refusal
bytes_argument bytes = count_argument (length bytes) >>= (λ _. if list_all (λ b. nat_lt b 256) bytes then Ok bytes else Err (plain Einval))

-- ---- tests

-- not exclusive: what is there isn't to be created
abbrev pub not_exclusive : OpenFlags → Result (Unit {0}) Refusal
not_exclusive flags = if flags.exclusive then Err (plain Eexist) else Ok tt

-- creating: what isn't there is to be created
abbrev pub creating : OpenFlags → Result (Unit {0}) Refusal
creating flags = if flags.create then Ok tt else Err (plain Enoent)

-- a file: only a file is opened
abbrev pub file_of : Found → Object → Result (Home × ℕ) Refusal
file_of found Snapshots = Err (plain Eisdir)
file_of found (Node home number) = if is_directory found.attributes.kind then Err (plain Eisdir) else Ok (home, number)

abbrev pub file : Found → Result (Home × ℕ) Refusal
file found = file_of found found.object

-- no directory: only a file's name is unlinked, and no right is lacking
abbrev pub no_directory : Found → Result (Unit {0}) Refusal
no_directory found = if is_directory found.attributes.kind then Err (plain Eperm) else Ok tt

-- within the largest file
abbrev pub is_size : Limits → ℕ → Result (Unit {0}) Refusal
is_size limits size = if nat_le size limits.largest_file then Ok tt else Err (plain Efbig)

-- ---- what is opened, read and written

abbrev pub access_of : OpenFlags → Access
access_of flags = record { read = flags.read; write = flags.write; execute = false }

-- the charge for one node and its bytes
abbrev pub file_charge : Limits → ℕ → ℕ
file_charge limits blocks = limits.inode_charge + limits.block_charge * blocks

abbrev pub opens_there : Limits → OpenFlags → ℕ → Home → ℕ → Outcome
opens_there limits flags fd home number =
    if flags.truncate
    then record { charge = file_charge limits 1; change = Does (SetSize number 0); caller = Opens fd home number flags; told = Number fd; point = Unasked }
    else asks (Opens fd home number flags) (Number fd)

-- a new node: its owner is the caller's; its group is a set-gid parent's, else the caller's; its ACL is inherited, and so are a directory's S_ISGID and its default ACL
abbrev pub first_ownership : Kind → Session → Mode → Attributes → Option (List Entry) → Ownership
first_ownership kind session mode parent default_acl = record {
  owner = session.cred.uid;
  group = if parent.set_gid then parent.group else session.cred.gid;
  set_gid = is_directory kind && parent.set_gid;
  sticky = false;
  acl = inherited_access default_acl mode session.umask;
  default_acl = inherited_default default_acl (is_directory kind);
}

abbrev pub opens_new : Limits → OpenFlags → ℕ → ℕ → List ℕ → Ownership → Outcome
opens_new limits flags fd directory name o = record (asks (OpensNew fd flags) (Number fd)) {
  charge = 2 * limits.inode_charge + limits.block_charge;
  change = Makes directory name File o;
}

-- the bytes of an open file
abbrev pub bytes_of : Option TreeNode → List ℕ
bytes_of found = option_map_or (λ node. node.bytes) found []

abbrev pub open_bytes : World → Descriptor → List ℕ
open_bytes world d = bytes_of (option_and_then (λ tree. map.get tree.nodes d.number) (tree_in (trees_of world) d.home))

abbrev pub reads : ℕ → Descriptor → List ℕ → Outcome
reads fd d bytes = asks (Moves fd (d.offset + length bytes)) (Content bytes)

-- where a write begins: with O_APPEND at the file's end
abbrev pub write_offset : Descriptor → List ℕ → ℕ
write_offset d bytes = if d.appends then length bytes else d.offset

-- how many blocks of 4,096 bytes bytes from an offset on lie in
abbrev pub blocks_spanned : ℕ → ℕ → ℕ
blocks_spanned offset count = (offset + count - 1) / 4096 - offset / 4096 + 1

abbrev pub writes : Limits → ℕ → ℕ → ℕ → List ℕ → Outcome
writes limits fd number offset bytes = record (asks (Moves fd (offset + length bytes)) (Number (length bytes))) {
  charge = file_charge limits (blocks_spanned offset (length bytes));
  change = Does (Write number offset bytes);
}

-- ---- the calls

-- open of what is there: not exclusive; a file; live where it is to be written; the access, in one
unfoldable pub open_there : Limits → Session → ℕ → OpenFlags → Found → Result Outcome Refusal
open_there limits session fd flags found = do
  _ ← not_exclusive flags
  at ← file found
  _ ← live_if flags.write found.object
  _ ← granted session.cred 1 found.place (access_of flags) (Some found.attributes)
  Ok (opens_there limits flags fd at.0 at.1)

-- a new file in a directory at a place: live; w(p); room for a name and a number
abbrev pub open_in : Limits → Seen → Session → ℕ → OpenFlags → Mode → List (List ℕ) → Object → ℕ → Result Outcome Refusal
open_in limits seen session fd flags mode names at place = do
  directory ← live at
  parent ← writable_parent seen.trees session.cred 1 place at
  _ ← seen.room directory
  Ok (opens_new limits flags fd directory (last_name names) (first_ownership File session mode parent ((seen.trees.tree Live).default_acl directory)))

-- open of what isn't there: creating; then a new file
unfoldable pub open_absent : Limits → Seen → Session → ℕ → OpenFlags → Mode → List (List ℕ) → Walked → Result Outcome Refusal
open_absent limits seen session fd flags mode names walked = do
  _ ← creating flags
  at ← parent_of Enoent walked
  open_in limits seen session fd flags mode names at.0 at.1

abbrev pub open_found : Limits → Seen → Session → ℕ → OpenFlags → Mode → List (List ℕ) → Walked → Option Found → Result Outcome Refusal
open_found limits seen session fd flags mode names walked None = open_absent limits seen session fd flags mode names walked
open_found limits seen session fd flags mode names walked (Some found) = open_there limits session fd flags found

-- open under a descriptor: Prefix; then as the last name is there or not
abbrev pub open_as : Limits → Seen → Session → ℕ → List (List ℕ) → OpenFlags → Mode → Result Outcome Refusal
open_as limits seen session fd names flags mode = do
  walked ← prefix seen.trees session.cred 1 names
  open_found limits seen session fd flags mode names walked (found_at seen.trees walked)

-- open: a descriptor is left; then the rest
unfoldable pub open_outcome : Limits → Seen → Descriptors → ℕ → Session → List (List ℕ) → OpenFlags → Mode → Result Outcome Refusal
open_outcome limits seen table number session names flags mode = do
  fd ← next_descriptor table number
  open_as limits seen session fd names flags mode

-- close: EBADF
unfoldable pub close_outcome : Descriptors → ℕ → ℕ → Result Outcome Refusal
close_outcome table session fd = do
  _ ← descriptor_at table session fd
  Ok (asks (Closes fd) Done)

-- read: for reading; no right is asked for again
unfoldable pub read_outcome : World → ℕ → ℕ → ℕ → Result Outcome Refusal
read_outcome world session fd count = do
  d ← readable_at world.descriptors session fd
  Ok (reads fd d (take count (drop d.offset (open_bytes world d))))

-- a write of some bytes: within the largest file
unfoldable pub write_some : Limits → ℕ → ℕ → ℕ → List ℕ → Result Outcome Refusal
write_some limits fd number offset bytes = do
  _ ← is_size limits (offset + length bytes)
  Ok (writes limits fd number offset bytes)

-- write: for writing; of no bytes nothing is done; no right is asked for again
unfoldable pub write_outcome : Limits → World → ℕ → ℕ → List ℕ → Result Outcome Refusal
write_outcome limits world session fd bytes = do
  d ← writable_at world.descriptors session fd
  if length bytes == 0 then Ok (tells (Number 0)) else write_some limits fd d.number (write_offset d (open_bytes world d)) bytes

-- seek: EBADF; EINVAL over the largest size
unfoldable pub seek_outcome : Limits → Descriptors → ℕ → ℕ → ℕ → Result Outcome Refusal
seek_outcome limits table session fd offset = do
  _ ← descriptor_at table session fd
  to ← is_offset limits offset
  Ok (asks (Moves fd to) (Number to))

-- ftruncate: for writing; within the largest file
unfoldable pub ftruncate_outcome : Limits → Descriptors → ℕ → ℕ → ℕ → Result Outcome Refusal
ftruncate_outcome limits table session fd size = do
  d ← writable_at table session fd
  _ ← is_size limits size
  Ok (does (file_charge limits 1) (SetSize d.number size))

-- unlink: Full; no directory; live; w(p); sticky; the charge counts a file that may stay held
unfoldable pub unlink_outcome : Limits → ViewedTrees → Session → List (List ℕ) → Result Outcome Refusal
unlink_outcome limits trees session names = do
  walked ← prefix trees session.cred 1 names
  found ← there (found_at trees walked)
  _ ← no_directory found
  _ ← live found.object
  at ← parent_of Eperm walked
  parent ← writable_parent trees session.cred 1 at.1 at.0
  _ ← sticky session.cred 1 parent found
  Ok (does (3 * limits.inode_charge + limits.block_charge) (Remove (number_of at.0) (last_name names)))
