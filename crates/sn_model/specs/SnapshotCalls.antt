-- The calls on snapshots, each as the list of its tests, in their order, with its outcome where all pass. They are this project's own; snapshots are those of Hitz, Lau and Malcolm 1994.
use Rattle.std.specs.Prelude.{ℕ, ◌*◌, ◌==◌, Bool, nat_le, List, Result, Ok, Err, if◌then◌else◌}
use Rattle.std.specs.FinMap as map
use Rattle.std.specs.List.{list_any}
use Rattle.sn_acl.specs.Credential.{Credential}
use Rattle.sn_limits.specs.SnapshotName.{is_snapshot_name}
use Rattle.sn_limits.specs.declared.limits.Limits.{Limits}
use Rattle.sn_walk.specs.Chains.{◌>>=◌}
use Rattle.sn_walk.specs.Objects.{is_same}
use Rattle.sn_walk.specs.Views.{ViewedTrees}
use Rattle.sn_walk.specs.declared.object.Home.{Home}
use Rattle.sn_walk.specs.declared.object.Home.TheVariants.{Live, Frozen}
use Rattle.sn_model.specs.declared.reply.Errno.TheVariants.{Ebusy, Eexist, Einval, Elimit, Enoent}
use Rattle.sn_model.specs.declared.reply.Refusal.{Refusal}
use Rattle.sn_model.specs.declared.reply.Rule.TheVariants as rule
use Rattle.sn_model.specs.declared.session.Session.{Session}
use Rattle.sn_model.specs.Descriptors.{Descriptors}
use Rattle.sn_model.specs.Outcomes.{Outcome, Freezes, Thaws, Restores, points, points_for}
use Rattle.sn_model.specs.Settling.{nameless_if}
use Rattle.sn_model.specs.Tests.{forbidden, plain}
use Rattle.sn_model.specs.World.{World, trees_of, viewed_trees}

-- an argument that is the name of a snapshot
abbrev pub snapshot_argument : List ℕ → Result (List ℕ) Refusal
snapshot_argument word = if is_snapshot_name word then Ok word else Err (plain Einval)

-- the user 0 alone; there is no path, so that path and place are 0
abbrev pub user_0 : Credential → Result (Unit {0}) Refusal
user_0 cred = if cred.uid == 0 then Ok tt else Err (forbidden 0 0 rule.NotRoot)

-- no snapshot has the name
abbrev pub vacant_snapshot : ViewedTrees → List ℕ → Result (Unit {0}) Refusal
vacant_snapshot trees name = if trees.has_snapshot name then Err (plain Eexist) else Ok tt

-- beside so many one more is allowed
abbrev pub room_for_snapshot : Limits → ℕ → Result (Unit {0}) Refusal
room_for_snapshot limits count = if nat_le limits.snapshots count then Err (plain Elimit) else Ok tt

-- a snapshot has the name
abbrev pub present_snapshot : ViewedTrees → List ℕ → Result (Unit {0}) Refusal
present_snapshot trees name = if trees.has_snapshot name then Ok tt else Err (plain Enoent)

-- whether any descriptor, of whatever session, has a file of a tree
abbrev pub has_open : Descriptors → Home → Bool
has_open table home = list_any (λ e. is_same home e.1.home) (map.entries table)

-- nobody has a file of the tree open
abbrev pub closed_tree : World → Home → Result (Unit {0}) Refusal
closed_tree world home = if has_open world.descriptors home then Err (plain Ebusy) else Ok tt

-- ---- the calls

-- snap-create: user 0; vacant; room
unfoldable pub snap_create_outcome : Limits → World → Session → List ℕ → Result Outcome Refusal
snap_create_outcome limits world session name = do
  _ ← user_0 session.cred
  _ ← vacant_snapshot (viewed_trees (trees_of world)) name
  _ ← room_for_snapshot limits (map.len world.frozen)
  Ok (points (Freezes name))

-- snap-delete: user 0; present; closed
unfoldable pub snap_delete_outcome : World → Session → List ℕ → Result Outcome Refusal
snap_delete_outcome world session name = do
  _ ← user_0 session.cred
  _ ← present_snapshot (viewed_trees (trees_of world)) name
  _ ← closed_tree world (Frozen name)
  Ok (points (Thaws name))

-- snap-restore: user 0; present; nothing of the live tree open; a charge for each file without names of the snapshot's tree
unfoldable pub snap_restore_outcome : Limits → World → Session → List ℕ → Result Outcome Refusal
snap_restore_outcome limits world session name = do
  _ ← user_0 session.cred
  _ ← present_snapshot (viewed_trees (trees_of world)) name
  _ ← closed_tree world Live
  Ok (points_for (limits.inode_charge * nameless_if (map.get world.frozen name)) (Restores name))
