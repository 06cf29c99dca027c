-- What holds of a mount that runs, between two points or with one in progress.
use Rattle.std.proofs.Common.{◌≡◌, ◌⊎◌, inl, ℕ, ◌+◌, ◌≤◌, Bool, Option, None, Some, sym, subst}
use Rattle.sn_device.specs.Sectors.{AreSectors}
use Rattle.sn_device.specs.Disk.{Always, IsSynced, reads}
use Rattle.sn_device.specs.Crash.{Touches}
use Rattle.sn_device.specs.declared.status.Status.{Status}
use Rattle.sn_device.proofs.CrashLemmas.{LeavesOnly-start}
use Rattle.sn_limits.specs.Versions.{limits_written}
use Rattle.sn_log.specs.Positions.{base_at, behind}
use Rattle.sn_model.specs.declared.change.Change.{Change}
use Rattle.sn_model.specs.Changes.{apply}
use Rattle.sn_model.specs.Charges.{charge_for}
use Rattle.sn_model.specs.Machine.{State, Running, Stopped}
use Rattle.sn_model.specs.NameTree.{IsHierarchy, IsTree}
use Rattle.sn_model.specs.Tree.{Tree}
use Rattle.sn_model.specs.World.{World}
use Rattle.sn_ondisk.specs.LogHalf.{InHalf}
use Rattle.sn_opening.specs.Worlds.{FrozenTrees}
use Rattle.sn_model.specs.Settling.{nameless_in}
use Rattle.sn_record.specs.Payload.{IsSpelled}
use Rattle.sn_held.specs.Rooms.{dropping, logged}
use Rattle.sn_sound.specs.Logs.{HasAgeLeft}
use Rattle.sn_held.specs.Events.{IsOfTree, LeavesMore}
use Rattle.sn_held.specs.Held.{CarriesOn, Going, Held, Kept, Runs}
use Rattle.sn_held.specs.Moments.{LastsOver, ShowsState}
use Rattle.sn_held.specs.Room.{HasRoomFor}
use Rattle.sn_held.proofs.EventLemmas.{appends_ready, drops_ready, ready_with, runs_beside, runs_show}
use Rattle.sn_cp_progress.specs.Meaning.{Means, RunsWith, progress_over}
use Rattle.sn_cp_progress.specs.Progress.{Progress, RunsOn}
use Rattle.sn_cp_progress.proofs.CallLemmas.{appends_go_on, drops_go_on}

module _ (h : Held) (world : World) where
  -- it rests on the root that counts
  abbrev pub runs_with : (point : Option Going) → RunsWith point h world → Runs h world
  runs_with None ready = ready.runs
  runs_with (Some going) (built, on) = on.runs

  -- of which what is kept is
  pub root_with : (point : Option Going) (r : RunsWith point h world) → h.base.root ≡ (runs_with point r).root
  root_with None ready = ready.ready.root
  root_with (Some going) (built, on) = on.point.root

  pub tree_with : (point : Option Going) → RunsWith point h world → IsTree limits_written world.live
  tree_with None ready = ready.ready.tree
  tree_with (Some going) (built, on) = on.point.tree

-- ---- what a crash leaves

pub means_show : (h : Held) (has_stopped : Bool) (s : State) → Means h has_stopped s → Always h.disk (ShowsState s)
means_show h has_stopped (Running w) m = runs_show h w (runs_with h w h.point m.1)
means_show h has_stopped (Stopped before after) m = m.1

-- an event that leaves state and disk as they are
pub stays_lasts : (h : Held) (has_stopped : Bool) (s : State) → Means h has_stopped s → LastsOver s s h.disk h.disk
stays_lasts h has_stopped s m =
    let shows = means_show h has_stopped s m in
    record { moments = LeavesOnly-start h.disk (λ c. ShowsState s c ⊎ ShowsState s c) (λ c crash. inl (shows c crash)); answered = shows }

-- ---- calls

-- a point in progress of this tree, which leaves the snapshots as they are
abbrev point_over : Going → Tree → World → Progress
point_over going built world = progress_over going (record { live = built; frozen = world.frozen })

-- what leaves the frozen trees leaves them to its root too
still : (h : Held) (world next : World) (going : Going) (built : Tree) → next.frozen ≡ world.frozen → RunsOn h next (point_over going built world) → RunsOn h next (point_over going built next)
still h world next going built same on = subst (λ (f : FrozenTrees). RunsOn h next (progress_over going (record { live = built; frozen = f }))) (sym same) on

-- a change that is appended
pub appends_with : (point : Option Going) (old new : Held) (world next : World) (change : Change) (tree : Tree) → RunsWith point old world → IsSpelled change → apply limits_written change world.live ≡ Some tree → IsOfTree world tree next → IsHierarchy world.live → HasRoomFor old.room world.live change → HasAgeLeft old.base.root
    → Touches (InHalf (base_at old.at)) old.disk new.disk → LeavesMore old.at change old.disk new.disk
    → AreSectors (reads new.disk) → IsSynced new.disk → new.at ≡ behind old.at change → new.room ≡ logged (charge_for limits_written world.live change) old.room → new.world ≡ next → nameless_in world.live ≤ nameless_in next.live
    → ((figure : ℕ) → CarriesOn old.base world.live figure new.base next.live (figure + charge_for limits_written world.live change)) → IsTree limits_written next.live → RunsWith point new next
appends_with None old new world next change tree ready spelled applied of hierarchy has_room aged touched leaves whole synced at charged is no_fewer carried hierarchic =
    appends_ready old new world next change tree ready spelled applied of hierarchy has_room aged touched leaves whole synced at charged is no_fewer (carried old.room.charged) hierarchic
appends_with (Some going) old new world next change tree (built, on) spelled applied of hierarchy has_room aged touched leaves whole synced at charged is no_fewer carried hierarchic = (
  built,
  still new world next going built of.frozen
      (appends_go_on old new world next (point_over going built world) change tree on spelled applied of hierarchy has_room (subst HasAgeLeft on.point.root aged) touched leaves whole at charged is no_fewer (carried old.room.charged_since) hierarchic),
)

-- files without names that are dropped
pub drops_with : (point : Option Going) (h : Held) (world next : World) (kept since : ℕ → Bool) (count : ℕ) (base : Kept) → RunsWith point h world → IsOfTree world world.live next → nameless_in world.live ≤ nameless_in next.live + count
    → ((figure : ℕ) → CarriesOn h.base world.live figure base next.live figure) → IsTree limits_written next.live → RunsWith point (record h { world = next; kept = kept; kept_since = since; room = dropping count h.room; base = base }) next
drops_with None h world next kept since count base ready of counted carried hierarchic = drops_ready h world next kept since count base ready of counted (carried h.room.charged) hierarchic
drops_with (Some going) h world next kept since count base (built, on) of counted carried hierarchic = (
  built,
  still _ world next going built of.frozen (drops_go_on h world next (point_over going built world) kept since count base on of counted (carried h.room.charged_since) hierarchic),
)

-- ---- what says nothing of a point in progress

-- whatever numbers are kept back, and whatever the device has counted
pub on_with : (h : Held) (world : World) (p : Progress) (kept since : ℕ → Bool) (point : Option Going) (status : Status) → RunsOn h world p → RunsOn (record h { kept = kept; kept_since = since; point = point; status = status }) world p
unfolding runs_beside
on_with h world p kept since point status on =
    let q = on.point in
    record {
      runs = runs_beside h world kept since h.base point status on.runs;
      point = record {
        of = q.of;
        within = q.within;
        stands = q.stands;
        epoch = q.epoch;
        ready = q.ready;
        none_later = q.none_later;
        cover = q.cover;
        charged = q.charged;
        takes = q.takes;
        slot = q.slot;
        root = q.root;
        changed = q.changed;
        tree = q.tree;
      };
    }

pub counted_with : (point : Option Going) (h : Held) (world : World) (status : Status) → RunsWith point h world → RunsWith point (record h { status = status }) world
counted_with None h world status ready = ready_with h world h.base h.kept h.kept_since h.base h.point status ready
counted_with (Some going) h world status (built, on) = (built, on_with h world (point_over going built world) h.kept h.kept_since h.point status on)
