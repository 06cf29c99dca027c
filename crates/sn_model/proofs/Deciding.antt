-- What decides each call whose session and arguments have passed, by a name.
use Rattle.std.specs.Prelude.{ℕ, List, Option, Ok}
use Rattle.sn_acl.specs.declared.modes.Mode.{Mode}
use Rattle.sn_model.specs.declared.reply.Access.{Access}
use Rattle.sn_model.specs.declared.reply.Reply.TheVariants as reply
use Rattle.std.specs.FinMap as map
use Rattle.sn_model.specs.Outcomes.{LogsIn, LogsOut, Plain, SetsUmask, asks, tells, points}
use Rattle.sn_model.specs.AccessCalls.{AclKind, ModeBits, NewAcl, access_outcome, chmod_outcome, chown_outcome, getacl_outcome, setacl_outcome}
use Rattle.sn_model.specs.declared.session.Session.{Session}
use Rattle.sn_model.specs.World.{trees_of, viewed_trees}
use Rattle.sn_model.specs.FileCalls.{OpenFlags, close_outcome, ftruncate_outcome, open_outcome, read_outcome, seek_outcome, unlink_outcome, write_outcome}
use Rattle.sn_model.specs.NameCalls.{link_outcome, readdir_outcome, rename_outcome, rmdir_outcome}
use Rattle.sn_model.specs.SnapshotCalls.{snap_create_outcome, snap_delete_outcome, snap_restore_outcome}
use Rattle.sn_model.specs.Seen.{seen}
use Rattle.sn_model.specs.Calls.{Ready, mkdir_outcome, stat_outcome}

abbrev pub login : Session → Ready
login session = λ limits w. Ok (asks (LogsIn session) reply.Done)

abbrev pub umask : Session → Mode → Ready
umask session mask = λ limits w. Ok (asks (SetsUmask mask) (reply.Mode session.umask))

abbrev pub mkdir : Session → List (List ℕ) → Mode → Ready
mkdir session names mode = λ limits w. mkdir_outcome limits (seen limits w) session names mode

abbrev pub chmod : Session → List (List ℕ) → ModeBits → Ready
chmod session names bits = λ limits w. chmod_outcome limits (viewed_trees (trees_of w)) session names bits

abbrev pub chown : Session → List (List ℕ) → Option ℕ → Option ℕ → Ready
chown session names uid gid = λ limits w. chown_outcome limits (viewed_trees (trees_of w)) session names uid gid

abbrev pub stat : Session → List (List ℕ) → Ready
stat session names = λ limits w. stat_outcome (viewed_trees (trees_of w)) session names

abbrev pub access : Session → List (List ℕ) → Access → Ready
access session names want = λ limits w. access_outcome (viewed_trees (trees_of w)) session names want

abbrev pub getacl : Session → List (List ℕ) → AclKind → Ready
getacl session names kind = λ limits w. getacl_outcome (viewed_trees (trees_of w)) session names kind

abbrev pub setacl : Session → List (List ℕ) → NewAcl → Ready
setacl session names acl = λ limits w. setacl_outcome limits (viewed_trees (trees_of w)) session names acl

abbrev pub rmdir : Session → List (List ℕ) → Ready
rmdir session names = λ limits w. rmdir_outcome limits (seen limits w) session names

abbrev pub unlink : Session → List (List ℕ) → Ready
unlink session names = λ limits w. unlink_outcome limits (viewed_trees (trees_of w)) session names

abbrev pub link : Session → List (List ℕ) → List (List ℕ) → Ready
link session names others = λ limits w. link_outcome limits (seen limits w) session names others

abbrev pub rename : Session → List (List ℕ) → List (List ℕ) → Ready
rename session names others = λ limits w. rename_outcome limits (seen limits w) session names others

abbrev pub readdir : Session → List (List ℕ) → Ready
readdir session names = λ limits w. readdir_outcome (seen limits w) session names

abbrev pub logout : Ready
logout = λ limits w. Ok (asks LogsOut reply.Done)

abbrev pub opening : ℕ → Session → List (List ℕ) → OpenFlags → Mode → Ready
opening number session names flags mode = λ limits w. open_outcome limits (seen limits w) w.descriptors number session names flags mode

abbrev pub close : ℕ → ℕ → Ready
close session fd = λ limits w. close_outcome w.descriptors session fd

abbrev pub read : ℕ → ℕ → ℕ → Ready
read session fd count = λ limits w. read_outcome w session fd count

abbrev pub write : ℕ → ℕ → List ℕ → Ready
write session fd bytes = λ limits w. write_outcome limits w session fd bytes

abbrev pub seek : ℕ → ℕ → ℕ → Ready
seek session fd offset = λ limits w. seek_outcome limits w.descriptors session fd offset

abbrev pub ftruncate : ℕ → ℕ → ℕ → Ready
ftruncate session fd size = λ limits w. ftruncate_outcome limits w.descriptors session fd size

abbrev pub sync : Ready
sync = λ limits w. Ok (points Plain)

abbrev pub snap_create : Session → List ℕ → Ready
snap_create session name = λ limits w. snap_create_outcome limits w session name

abbrev pub snap_delete : Session → List ℕ → Ready
snap_delete session name = λ limits w. snap_delete_outcome w session name

abbrev pub snap_restore : Session → List ℕ → Ready
snap_restore session name = λ limits w. snap_restore_outcome limits w session name

abbrev pub snap_list : Ready
snap_list = λ limits w. Ok (tells (reply.Names (map.keys w.frozen)))
