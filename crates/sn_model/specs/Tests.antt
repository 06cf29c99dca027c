-- The tests that calls are made of, in the words of the table of calls: POSIX.1-2017, 4.13 Pathname Resolution and 4.5 File Access Permissions, and acl(5) for the entry that denies. A test refuses, or hands on what it found.
use Rattle.std.specs.Prelude.{ℕ, ◌+◌, ◌/◌, ◌%◌, ◌==◌, ◌||◌, not, true, false, nat_lt, nat_le, List, Option, None, Some, Result, Ok, Err, slice_get, is_none, if◌then◌else◌, ok_or}
use Rattle.std.specs.Option.{option_map_or, option_flatten}
use Rattle.sn_acl.specs.declared.entries.Tag.{Tag}
use Rattle.sn_acl.specs.declared.entries.Entry.{Entry}
use Rattle.sn_acl.specs.declared.modes.Mode.{Mode}
use Rattle.sn_acl.specs.Credential.{Credential}
use Rattle.sn_acl.specs.Access.{denial_of}
use Rattle.sn_walk.specs.declared.fault.PathFault.{PathFault}
use Rattle.sn_walk.specs.declared.fault.PathFault.TheVariants.{Misspelt, TooLong}
use Rattle.sn_walk.specs.declared.object.Object.{Object}
use Rattle.sn_walk.specs.declared.view.Attributes.{Attributes}
use Rattle.sn_walk.specs.declared.walking.Found.{Found}
use Rattle.sn_walk.specs.declared.walking.Obstacle.{Obstacle}
use Rattle.sn_walk.specs.declared.walking.Obstacle.TheVariants.{NotADirectory, Denied, Missing}
use Rattle.sn_walk.specs.declared.walking.WalkRefusal.{WalkRefusal}
use Rattle.sn_walk.specs.declared.walking.Walked.{Walked}
use Rattle.sn_walk.specs.declared.walking.Walked.TheVariants.{Root, Name}
use Rattle.sn_walk.specs.Chains.{◌>>=◌}
use Rattle.sn_walk.specs.Objects.{is_in_tree_of, number_of, root}
use Rattle.sn_walk.specs.Paths.{parsed}
use Rattle.sn_walk.specs.Views.{ViewedTrees, attributes_at}
use Rattle.sn_walk.specs.Walks.{found_at, walk_of}
use Rattle.sn_model.specs.declared.reply.Access.{Access}
use Rattle.sn_model.specs.declared.reply.Errno.{Errno}
use Rattle.sn_model.specs.declared.reply.Errno.TheVariants.{Eacces, Enoent, Enotdir, Eperm, Eexist, Einval, Enametoolong, Erofs, Exdev, Ebusy, Ebadf, Elimit}
use Rattle.sn_model.specs.declared.reply.Rule.{Rule}
use Rattle.sn_model.specs.declared.reply.Rule.TheVariants as rule
use Rattle.sn_model.specs.declared.reply.Refusal.{Refusal}
use Rattle.sn_limits.specs.declared.limits.Limits.{Limits}
use Rattle.sn_model.specs.Tree.{Tree, names_in, least_unused}
use Rattle.sn_model.specs.declared.session.Session.{Session}
use Rattle.sn_model.specs.World.{World}

-- a refusal that isn't for lack of a right
abbrev pub plain : Errno → Refusal
plain errno = record { errno = errno; denial = None }

abbrev pub search : Access
search = record { read = false; write = false; execute = true }

abbrev pub write : Access
write = record { read = false; write = true; execute = false }

-- the rights that an access needs: read is 4, write 2, execute 1
abbrev pub rights_of : Access → ℕ
rights_of want = (if want.read then 4 else 0) + (if want.write then 2 else 0) + (if want.execute then 1 else 0)

-- EACCES: the entry with this tag denies the access wanted at a place of a path
abbrev pub denied : ℕ → ℕ → Access → Tag → Refusal
denied path place want tag = record { errno = Eacces; denial = Some (record { path = path; place = place; want = want; rule = rule.Entry tag }) }

-- who is logged in under a number of a session, which is 0 to 63
abbrev pub session_at : World → ℕ → Result (Option Session) Refusal
session_at world session = if nat_lt session 64 then Ok (option_flatten (slice_get world.sessions session)) else Err (plain Einval)

abbrev pub logged_in : World → ℕ → Result Session Refusal
logged_in world session = session_at world session >>= (λ found. ok_or found (plain Ebadf))

abbrev pub logged_out : World → ℕ → Result (Unit {0}) Refusal
logged_out world session = session_at world session >>= (λ found. option_map_or (λ _. Err (plain Ebusy)) found (Ok tt))

-- an argument that is a path
abbrev pub read_path : Result (List (List ℕ)) PathFault → Result (List (List ℕ)) Refusal
read_path (Ok names) = Ok names
read_path (Err Misspelt) = Err (plain Einval)
read_path (Err TooLong) = Err (plain Enametoolong)

abbrev pub path_argument : List ℕ → Result (List (List ℕ)) Refusal
path_argument word = read_path (parsed word)

-- an argument that is the mode of a new object
abbrev pub mode_from_bits : ℕ → Mode
mode_from_bits bits = record { owner = bits / 64; group = bits / 8 % 8; other = bits % 8 }

abbrev pub new_mode_argument : ℕ → Result Mode Refusal
new_mode_argument bits = if nat_lt bits 512 then Ok (mode_from_bits bits) else Err (plain Einval)

-- a walk's refusal, as one of a call's first or second path
abbrev pub obstacle_refusal : ℕ → ℕ → Obstacle → Refusal
obstacle_refusal path place NotADirectory = plain Enotdir
obstacle_refusal path place (Denied tag) = denied path place search tag
obstacle_refusal path place Missing = plain Enoent

abbrev pub walked : ℕ → Result Walked WalkRefusal → Result Walked Refusal
walked path (Ok w) = Ok w
walked path (Err r) = Err (obstacle_refusal path r.place r.obstacle)

-- Prefix: each place before the last is a directory that grants search and has the next name
abbrev pub prefix : ViewedTrees → Credential → ℕ → List (List ℕ) → Result Walked Refusal
prefix trees cred path names = walked path (walk_of trees cred names)

-- Full: Prefix, and the last name is there too
abbrev pub there : Option Found → Result Found Refusal
there found = ok_or found (plain Enoent)

abbrev pub full : ViewedTrees → Credential → ℕ → List (List ℕ) → Result Found Refusal
full trees cred path names = prefix trees cred path names >>= (λ walked. there (found_at trees walked))

-- the directory and the place of a name that isn't there yet
abbrev pub vacant : Object → ℕ → Option Object → Result (Object × ℕ) Refusal
vacant directory place last = option_map_or (λ found. Err (plain Eexist)) last (Ok (directory, place))

abbrev pub not_present : Walked → Result (Object × ℕ) Refusal
not_present Root = Err (plain Eexist)
not_present (Name directory place last) = vacant directory place last

-- live: what is to change is in the live tree
abbrev pub live : Object → Result ℕ Refusal
live object = if is_in_tree_of object root then Ok (number_of object) else Err (plain Erofs)

-- two names are in one tree, which is that of their directories
abbrev pub one_tree : Object → Object → Result (Unit {0}) Refusal
one_tree directory other = if is_in_tree_of directory other then Ok tt else Err (plain Exdev)

-- an access is asked of what is at a place
abbrev pub unless_denied : ℕ → ℕ → Access → Option Entry → Result (Unit {0}) Refusal
unless_denied path place want denial = option_map_or (λ entry. Err (denied path place want entry.tag)) denial (Ok tt)

abbrev pub granted : Credential → ℕ → ℕ → Access → Option Attributes → Result Attributes Refusal
granted cred path place want None = Err (plain Enoent)
granted cred path place want (Some a) = unless_denied path place want (denial_of cred a.owner a.group a.acl (rights_of want)) >>= (λ _. Ok a)

-- w(p): write is asked of the directory of a path's last name
abbrev pub writable_parent : ViewedTrees → Credential → ℕ → ℕ → Object → Result Attributes Refusal
writable_parent trees cred path place directory = granted cred path place write (attributes_at trees directory)

-- EPERM: a rule that is no entry of an ACL denies at a place of a path
abbrev pub forbidden : ℕ → ℕ → Rule → Refusal
forbidden path place r = record { errno = Eperm; denial = Some (record { path = path; place = place; want = record { read = false; write = false; execute = false }; rule = r }) }

-- sticky: from a directory with S_ISVTX a caller removes only what it owns, or any object where it owns the directory; the user 0 is held by no rule
abbrev pub sticky : Credential → ℕ → Attributes → Found → Result (Unit {0}) Refusal
sticky cred path parent found =
    if not parent.sticky || cred.uid == 0 || cred.uid == found.attributes.owner || cred.uid == parent.owner then Ok tt else Err (forbidden path found.place rule.Sticky)

-- a directory may get one more name, of a new node
abbrev pub has_room : Limits → Tree → ℕ → Result (Unit {0}) Refusal
has_room limits tree directory = if is_none (least_unused limits tree) then Err (plain Elimit) else (if nat_le limits.names (names_in tree directory) then Err (plain Elimit) else Ok tt)
