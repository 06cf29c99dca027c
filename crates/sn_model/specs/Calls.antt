-- Each call as the list of its tests, in their order, with its outcome where all pass: POSIX.1-2017, mkdir() and stat(); sessions and the order of the tests are rules of this project. The calls that ask for rights and set them are in `AccessCalls`.
use Rattle.std.specs.Prelude.{ℕ, ◌+◌, ◌*◌, List, Result, Ok}
use Rattle.sn_acl.specs.declared.modes.Mode.{Mode}
use Rattle.sn_acl.specs.Modes.{mode_of}
use Rattle.sn_limits.specs.declared.kind.Kind.TheVariants.{Directory}
use Rattle.sn_walk.specs.declared.view.Attributes.{Attributes}
use Rattle.sn_walk.specs.declared.object.Home.TheVariants.{Live}
use Rattle.sn_walk.specs.Objects.{number_of}
use Rattle.sn_model.specs.declared.call.Call.{Call}
use Rattle.sn_model.specs.declared.call.Call.TheVariants as call
use Rattle.sn_model.specs.declared.reply.Refusal.{Refusal}
use Rattle.sn_model.specs.declared.reply.Reply.TheVariants as reply
use Rattle.std.specs.FinMap as map
use Rattle.sn_model.specs.declared.reply.FileStatus as status
use Rattle.sn_limits.specs.declared.limits.Limits.{Limits}
use Rattle.sn_model.specs.Outcomes.{LogsIn, LogsOut, Outcome, Plain, SetsUmask, asks, tells, makes, points}
use Rattle.sn_model.specs.AccessCalls.{access_outcome, acl_argument, chmod_outcome, chown_outcome, getacl_outcome, id_argument, mode_bits_argument, setacl_outcome}
use Rattle.sn_model.specs.Tree.{link_to}
use Rattle.sn_model.specs.declared.session.Session.{Session}
use Rattle.sn_model.specs.World.{World, trees_of, viewed_trees}
use Rattle.sn_walk.specs.Views.{ViewedTrees}
use Rattle.sn_model.specs.FileCalls.{bytes_argument, close_outcome, count_argument, first_ownership, flags_argument, ftruncate_outcome, open_outcome, read_outcome, seek_outcome, unlink_outcome, write_outcome}
use Rattle.sn_model.specs.NameCalls.{link_outcome, readdir_outcome, rename_outcome, rmdir_outcome}
use Rattle.sn_model.specs.SnapshotCalls.{snap_create_outcome, snap_delete_outcome, snap_restore_outcome, snapshot_argument}
pub use Rattle.sn_model.specs.Seen.{Seen, last_name, seen}
use Rattle.sn_walk.specs.Chains.{◌>>=◌}
use Rattle.sn_model.specs.Tests.{logged_in, logged_out, path_argument, new_mode_argument, prefix, full, not_present, live, writable_parent}

-- Its umask is 0022.
abbrev pub new_session : ℕ → ℕ → List ℕ → Session
new_session uid gid groups = record { cred = record { uid = uid; gid = gid; groups = groups }; umask = record { owner = 0; group = 2; other = 2 } }

-- mkdir: Prefix; not present; live; w(p); room for a name and a number
unfoldable pub mkdir_outcome : Limits → Seen → Session → List (List ℕ) → Mode → Result Outcome Refusal
mkdir_outcome limits seen session names mode = do
  walked ← prefix seen.trees session.cred 1 names
  at ← not_present walked
  directory ← live at.0
  parent ← writable_parent seen.trees session.cred 1 at.1 at.0
  _ ← seen.room directory
  Ok (makes (2 * limits.inode_charge + limits.block_charge) (link_to directory (last_name names)) Directory (first_ownership Directory session mode parent ((seen.trees.tree Live).default_acl directory)))

abbrev pub status_of : ℕ → Attributes → status.FileStatus
status_of number a = record {
  kind = a.kind;
  set_gid = a.set_gid;
  sticky = a.sticky;
  mode = mode_of a.acl;
  links = a.links;
  owner = a.owner;
  group = a.group;
  size = a.size;
  number = number;
}

-- stat: Full
unfoldable pub stat_outcome : ViewedTrees → Session → List (List ℕ) → Result Outcome Refusal
stat_outcome trees session names = do
  found ← full trees session.cred 1 names
  Ok (tells (reply.Status (status_of (number_of found.object) found.attributes)))

-- What decides a call whose session and arguments have passed, under limits and in a world.
abbrev pub Ready : Type 0
Ready = Limits → World → Result Outcome Refusal

-- a call of a session that is logged in, whose first argument is a path
abbrev pub with_path : World → ℕ → List ℕ → (Session → List (List ℕ) → Result Ready Refusal) → Result Ready Refusal
with_path world session path more = logged_in world session >>= (λ s. path_argument path >>= (λ names. more s names))

-- the tests of the session, and of the arguments in the order in which they are written, and what decides the call where they pass
abbrev pub ready : World → ℕ → Call → Result Ready Refusal
ready world session (call.Login uid gid groups) = logged_out world session >>= (λ _. Ok (λ limits w. Ok (asks (LogsIn (new_session uid gid groups)) reply.Done)))
ready world session (call.Umask mask) = logged_in world session >>= (λ s. new_mode_argument mask >>= (λ bits. Ok (λ limits w. Ok (asks (SetsUmask bits) (reply.Mode s.umask)))))
ready world session (call.Mkdir path mode) = with_path world session path (λ s names. new_mode_argument mode >>= (λ bits. Ok (λ limits w. mkdir_outcome limits (seen limits w) s names bits)))
ready world session (call.Chmod path mode) = with_path world session path (λ s names. mode_bits_argument mode >>= (λ bits. Ok (λ limits w. chmod_outcome limits (viewed_trees (trees_of w)) s names bits)))
ready world session (call.Chown path uid gid) = with_path world session path (λ s names. id_argument uid >>= (λ owner. id_argument gid >>= (λ group. Ok (λ limits w. chown_outcome limits (viewed_trees (trees_of w)) s names owner group))))
ready world session (call.Stat path) = with_path world session path (λ s names. Ok (λ limits w. stat_outcome (viewed_trees (trees_of w)) s names))
ready world session (call.Access path want) = with_path world session path (λ s names. Ok (λ limits w. access_outcome (viewed_trees (trees_of w)) s names want))
ready world session (call.GetAcl path kind) = with_path world session path (λ s names. Ok (λ limits w. getacl_outcome (viewed_trees (trees_of w)) s names kind))
ready world session (call.SetAcl path kind acl) = with_path world session path (λ s names. acl_argument kind acl >>= (λ new. Ok (λ limits w. setacl_outcome limits (viewed_trees (trees_of w)) s names new)))
ready world session (call.Rmdir path) = with_path world session path (λ s names. Ok (λ limits w. rmdir_outcome limits (seen limits w) s names))
ready world session (call.Unlink path) = with_path world session path (λ s names. Ok (λ limits w. unlink_outcome limits (viewed_trees (trees_of w)) s names))
ready world session (call.Link old new) = with_path world session old (λ s names. path_argument new >>= (λ others. Ok (λ limits w. link_outcome limits (seen limits w) s names others)))
ready world session (call.Rename old new) = with_path world session old (λ s names. path_argument new >>= (λ others. Ok (λ limits w. rename_outcome limits (seen limits w) s names others)))
ready world session (call.Readdir path) = with_path world session path (λ s names. Ok (λ limits w. readdir_outcome (seen limits w) s names))
ready world session call.Logout = logged_in world session >>= (λ _. Ok (λ limits w. Ok (asks LogsOut reply.Done)))
ready world session (call.Open path flags mode) = with_path world session path (λ s names. flags_argument flags >>= (λ asked. new_mode_argument mode >>= (λ bits. Ok (λ limits w. open_outcome limits (seen limits w) w.descriptors session s names asked bits))))
ready world session (call.Close fd) = logged_in world session >>= (λ _. Ok (λ limits w. close_outcome w.descriptors session fd))
ready world session (call.Read fd count) = logged_in world session >>= (λ _. count_argument count >>= (λ many. Ok (λ limits w. read_outcome w session fd many)))
ready world session (call.Write fd bytes) = logged_in world session >>= (λ _. bytes_argument bytes >>= (λ new. Ok (λ limits w. write_outcome limits w session fd new)))
ready world session (call.Seek fd offset) = logged_in world session >>= (λ _. Ok (λ limits w. seek_outcome limits w.descriptors session fd offset))
ready world session (call.Ftruncate fd size) = logged_in world session >>= (λ _. Ok (λ limits w. ftruncate_outcome limits w.descriptors session fd size))
ready world session call.Sync = logged_in world session >>= (λ _. Ok (λ limits w. Ok (points Plain)))
ready world session (call.SnapCreate name) = logged_in world session >>= (λ s. snapshot_argument name >>= (λ new. Ok (λ limits w. snap_create_outcome limits w s new)))
ready world session (call.SnapDelete name) = logged_in world session >>= (λ s. snapshot_argument name >>= (λ old. Ok (λ limits w. snap_delete_outcome w s old)))
ready world session (call.SnapRestore name) = logged_in world session >>= (λ s. snapshot_argument name >>= (λ old. Ok (λ limits w. snap_restore_outcome limits w s old)))
ready world session call.SnapList = logged_in world session >>= (λ _. Ok (λ limits w. Ok (tells (reply.Names (map.keys w.frozen)))))

abbrev pub outcome_of : Limits → World → Ready → Result Outcome Refusal
outcome_of limits world decides = decides limits world
