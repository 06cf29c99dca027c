-- What a call between two steps of a point leaves of the point.
use Rattle.std.proofs.Common.{◌≡◌, ◌⊎◌, inr, ℕ, ◌+◌, ◌≤◌, Bool, true, if◌then◌else◌, List, [], ◌∷◌, ◌++◌, Some, refl, sym, ap, subst, ◌∙◌, append_assoc, arith, le-leb, leb-true}
use Rattle.sn_device.specs.Sectors.{AreSectors}
use Rattle.sn_device.specs.Disk.{Always, reads}
use Rattle.sn_device.specs.Crash.{LeavesOnly, Touches}
use Rattle.sn_device.proofs.CrashLemmas.{Always-kept, Always-reads, LeavesOnly-now}
use Rattle.sn_layout.specs.declared.root.RootBody.{RootBody}
use Rattle.sn_limits.specs.Versions.{limits_written}
use Rattle.sn_log.specs.Positions.{IsReadyAt, base_at, behind}
use Rattle.sn_model.specs.declared.change.Change.{Change}
use Rattle.sn_model.specs.Changes.{apply}
use Rattle.sn_model.specs.Charges.{charge_for}
use Rattle.sn_model.specs.NameTree.{IsHierarchy, IsTree}
use Rattle.sn_model.specs.declared.outcome.Outcome.{Outcome}
use Rattle.sn_model.specs.Settling.{nameless_in, settle}
use Rattle.sn_model.specs.Tree.{Tree}
use Rattle.sn_model.specs.World.{World}
use Rattle.sn_ondisk.specs.LogHalf.{HasNoLater, InHalf, base_of}
use Rattle.sn_ondisk.specs.Trees.{Store}
use Rattle.sn_ondisk.proofs.PlaceLemmas.{halves_apart}
use Rattle.sn_image.specs.Image.{image}
use Rattle.sn_opening.specs.Covering.{MakesCover}
use Rattle.sn_opening.specs.Opens.{IsDisk}
use Rattle.sn_opening.proofs.CoveringLemmas.{one_more_covers}
use Rattle.sn_opening.proofs.LogLemmas.{of_position}
use Rattle.sn_opening.proofs.SpelledLemmas.{spelled_more}
use Rattle.sn_record.specs.Payload.{IsSpelled}
use Rattle.sn_held.specs.Rooms.{RoomCounts, charged_behind, done, dropping, fits, gives_back, logged}
use Rattle.sn_sound.specs.Logs.{HasAgeLeft}
use Rattle.sn_held.specs.Events.{IsOfTree, LeavesEither, LeavesMore}
use Rattle.sn_held.specs.Held.{CarriesOn, Held, Kept, Runs}
use Rattle.sn_held.specs.Images.{IsImage}
use Rattle.sn_held.specs.Room.{HasRoomFor, IsCharged}
use Rattle.sn_held.proofs.EventLemmas.{disk_always, dropped_runs, leaves_either, left_covers}
use Rattle.sn_held.proofs.HeldLemmas.{Rests, newer_none, newer_shows, rests_stay}
use Rattle.sn_held.proofs.RoomLemmas.{one_more_charged, one_more_fits}
use Rattle.sn_cp.proofs.LogLemmas.{log_keeps}
use Rattle.sn_cp_held.proofs.WholeLemmas.{no_later_depends}
use Rattle.sn_cp_progress.specs.Progress.{Progress, RunsOn}
use Rattle.sn_cp_progress.proofs.StepLemmas.{lie}

-- ---- what fits

pub fits_on_next : (h : Held) (world : World) (p : Progress) (nameless : ℕ) (o : Outcome) → RunsOn h world p → fits limits_written h.room nameless o ≡ true → fits limits_written (done p.free h.room) nameless o ≡ true
fits_on_next h world p nameless o ro it_fits =
    let rest = if gives_back o.change then 0 else limits_written.reserve in
    le-leb (charged_behind limits_written (done p.free h.room) nameless o + rest) p.free (omega (arith, leb-true (charged_behind limits_written h.room nameless o + rest) h.room.free it_fits, ro.point.takes))

-- ---- a change that is appended

module _ (old new : Held) (world next : World) (p : Progress) (change : Change) (tree : Tree) (ro : RunsOn old world p) (spelled : IsSpelled change) (applied : apply limits_written change world.live ≡ Some tree) (of : IsOfTree world tree next)
    (hierarchy : IsHierarchy world.live) (has_room : HasRoomFor old.room world.live change) (aged : HasAgeLeft ro.runs.root) (touched : Touches (InHalf (base_at old.at)) old.disk new.disk) where
  abbrev n : ℕ
  n = old.at.blocks

  abbrev r : Runs old world
  r = ro.runs

  appends_either : LeavesEither old.at change old.disk new.disk → LeavesOnly old.disk new.disk (λ c. IsImage c (settle world) ⊎ IsImage c (settle next))
  appends_either leaves = leaves_either old new world next change tree r spelled applied of hierarchy has_room aged touched leaves

  -- one more covers the live tree, over the old root and over the tree that the point was built from
  old_cover : MakesCover limits_written (r.older ++ (r.newer ++ change ∷ [])) (image r.store r.root.inode_file) next.live
  old_cover =
      subst (λ (cs : List Change). MakesCover limits_written cs (image r.store r.root.inode_file) next.live) (append_assoc r.older r.newer (change ∷ []))
      (left_covers ((r.older ++ r.newer) ++ change ∷ []) (image r.store r.root.inode_file) tree next.live of.held of.live
      (one_more_covers limits_written (r.older ++ r.newer) change (image r.store r.root.inode_file) world.live tree r.cover applied))

  new_cover : MakesCover limits_written (r.newer ++ change ∷ []) p.trees.live next.live
  new_cover = left_covers (r.newer ++ change ∷ []) p.trees.live tree next.live of.held of.live (one_more_covers limits_written r.newer change p.trees.live world.live tree ro.point.cover applied)

  -- it is charged on some root
  one_charged : (room : RoomCounts) (s : Store) (root : RootBody) (changes : List Change) → IsCharged room n s root changes world.live → MakesCover limits_written changes (image s root.inode_file) world.live
      → HasRoomFor room world.live change → nameless_in world.live ≤ nameless_in next.live → IsCharged (logged (charge_for limits_written world.live change) room) n s root (changes ++ change ∷ []) next.live
  one_charged room s root changes charged cover room_for no_fewer = record {
    free = charged.free;
    charged = sym (one_more_charged changes change (image s root.inode_file) world.live cover hierarchy ∙ ap (λ (k : ℕ). k + charge_for limits_written world.live change) (sym charged.charged));
    parked = omega (arith, charged.parked, no_fewer);
    fits = one_more_fits room n s root changes change world.live charged cover hierarchy room_for;
  }

  rest : LeavesOnly old.disk new.disk (Rests n r.store r.slot r.root r.words r.root.epoch r.older)
  rest =
      rests_stay n r.store r.slot r.root r.words r.root.epoch r.older (r.root.epoch + 1) (lie old world p ro) (λ i one two. halves_apart n r.root.epoch i two one) old.disk new.disk r.stands.disk.whole
      (λ c crash. let shows = r.stands.shows c crash in record { disk = disk_always n old.disk r.stands.disk c crash; spelled = r.formatted c crash; newest = shows.shown.newest; same = shows.same; map = r.stands.map c crash; found = shows.shown.has_older; none = r.none_later r.root.epoch c crash })
      (of_position n (r.root.epoch + 1) old.at old.disk new.disk refl ro.point.epoch touched)

  rest_now : Always new.disk (Rests n r.store r.slot r.root r.words r.root.epoch r.older)
  rest_now = LeavesOnly-now old.disk new.disk (Rests n r.store r.slot r.root r.words r.root.epoch r.older) rest

  module _ (leaves : LeavesMore old.at change old.disk new.disk) (whole : AreSectors (reads new.disk)) (no_fewer : nameless_in world.live ≤ nameless_in next.live)
      (carried : CarriesOn old.base world.live old.room.charged_since new.base next.live (old.room.charged_since + charge_for limits_written world.live change)) (hierarchic : IsTree limits_written next.live) where
    abbrev after : Held
    after = record new { at = behind old.at change; room = logged (charge_for limits_written world.live change) old.room; world = next }

    more : Always new.disk (IsReadyAt (behind old.at change) (r.newer ++ change ∷ []))
    more = leaves r.newer ro.point.ready

    after_runs : Runs after next
    after_runs = record {
      is = refl;
      store = r.store;
      slot = r.slot;
      root = r.root;
      words = r.words;
      older = r.older;
      newer = r.newer ++ change ∷ [];
      older_spelled = r.older_spelled;
      newer_spelled = spelled_more r.newer change r.newer_spelled spelled;
      limits = r.limits;
      formatted = λ c crash. (rest_now c crash).spelled;
      stands = record {
        disk = Always-reads new.disk (IsDisk n) whole (λ c crash. (rest_now c crash).disk);
        shows = λ c crash. newer_shows n r.store r.slot r.root r.words r.older (r.newer ++ change ∷ []) c (behind old.at change) (rest_now c crash) refl ro.point.epoch (more c crash);
        map = λ c crash. (rest_now c crash).map;
        sound = r.stands.sound;
      };
      none_later = λ e c crash. newer_none n r.store r.slot r.root r.words r.older (r.newer ++ change ∷ []) c (behind old.at change) (rest_now c crash) refl ro.point.epoch (more c crash) e;
      log = inr (ro.point.epoch, more);
      cover = old_cover;
      charged = subst (λ (cs : List Change). IsCharged (logged (charge_for limits_written world.live change) old.room) n r.store r.root cs next.live) (append_assoc r.older r.newer (change ∷ []))
          (one_charged old.room r.store r.root (r.older ++ r.newer) r.charged r.cover has_room no_fewer);
      age = λ recovers. aged;
      frozen = of.frozen ∙ r.frozen;
    }

    after_on : RunsOn after next p
    unfolding after_runs
    after_on =
        let written = of_position n (r.root.epoch + 1) old.at old.disk new.disk refl ro.point.epoch touched in
        record {
          runs = after_runs;
          point = record {
            of = ro.point.of;
            within = ro.point.within;
            stands = log_keeps p.work p.stage (r.root.epoch + 1) old.disk new.disk r.stands.disk.whole ro.point.of.whole ro.point.within
                (subst (λ (m : ℕ). Touches (InHalf (base_of m (r.root.epoch + 1))) old.disk new.disk) (sym ro.point.of.blocks) written) ro.point.stands;
            epoch = ro.point.epoch;
            ready = more;
            none_later = Always-kept (InHalf (base_of n (r.root.epoch + 1))) (InHalf (base_of n r.root.epoch)) (λ c. HasNoLater c (base_of n r.root.epoch) r.root.epoch) (no_later_depends n r.root.epoch r.root.epoch)
                (λ i one two. halves_apart n r.root.epoch i two one) old.disk new.disk r.stands.disk.whole ro.point.none_later written;
            cover = new_cover;
            charged = λ t same holds. one_charged (done p.free old.room) t p.work.plan.next r.newer (ro.point.charged t same holds)
                (subst (λ (from : Tree). MakesCover limits_written r.newer from world.live) (sym (ro.point.of.built.tree t same holds)) ro.point.cover) (omega (arith, has_room, ro.point.takes)) no_fewer;
            takes = omega (arith, ro.point.takes);
            slot = carried.slot ∙ ro.point.slot;
            root = carried.root ∙ ro.point.root;
            changed = carried.changed p.trees.live ro.point.changed;
            tree = hierarchic;
          };
        }

pub appends_leave : (old new : Held) (world next : World) (p : Progress) (change : Change) (tree : Tree) (r : RunsOn old world p) → IsSpelled change → apply limits_written change world.live ≡ Some tree → IsOfTree world tree next → IsHierarchy world.live → HasRoomFor old.room world.live change → HasAgeLeft r.runs.root
    → Touches (InHalf (base_at old.at)) old.disk new.disk → LeavesEither old.at change old.disk new.disk
    → LeavesOnly old.disk new.disk (λ c. IsImage c (settle world) ⊎ IsImage c (settle next))
appends_leave old new world next p change tree ro spelled applied of hierarchy has_room aged touched leaves = appends_either old new world next p change tree ro spelled applied of hierarchy has_room aged touched leaves

pub appends_go_on : (old new : Held) (world next : World) (p : Progress) (change : Change) (tree : Tree) (r : RunsOn old world p) → IsSpelled change → apply limits_written change world.live ≡ Some tree → IsOfTree world tree next → IsHierarchy world.live → HasRoomFor old.room world.live change → HasAgeLeft r.runs.root
    → Touches (InHalf (base_at old.at)) old.disk new.disk → LeavesMore old.at change old.disk new.disk → AreSectors (reads new.disk)
    → new.at ≡ behind old.at change → new.room ≡ logged (charge_for limits_written world.live change) old.room → new.world ≡ next → nameless_in world.live ≤ nameless_in next.live
    → CarriesOn old.base world.live old.room.charged_since new.base next.live (old.room.charged_since + charge_for limits_written world.live change) → IsTree limits_written next.live
    → RunsOn new next p
appends_go_on old new world next p change tree ro spelled applied of hierarchy has_room aged touched leaves whole at charged is no_fewer carried hierarchic =
    subst (λ (h : Held). RunsOn h next p) (λ i. record new { at = sym at i; room = sym charged i; world = sym is i })
    (after_on old new world next p change tree ro spelled applied of hierarchy has_room aged touched leaves whole no_fewer carried hierarchic)

-- ---- files without names that go

module _ (h : Held) (world next : World) (p : Progress) (kept since : ℕ → Bool) (count : ℕ) (base : Kept) (ro : RunsOn h world p) (of : IsOfTree world world.live next) (counted : nameless_in world.live ≤ nameless_in next.live + count) where
  module _ (carried : CarriesOn h.base world.live h.room.charged_since base next.live h.room.charged_since) (hierarchic : IsTree limits_written next.live) where
    drop_on : RunsOn (record h { world = next; kept = kept; kept_since = since; room = dropping count h.room; base = base }) next p
    unfolding dropped_runs
    drop_on =
        let q = ro.point in
        record {
          runs = dropped_runs h world next kept since count base ro.runs of counted;
          point = record {
            of = q.of;
            within = q.within;
            stands = q.stands;
            epoch = q.epoch;
            ready = q.ready;
            none_later = q.none_later;
            cover = left_covers ro.runs.newer p.trees.live world.live next.live of.held of.live q.cover;
            charged = λ t same holds. let it = q.charged t same holds in record { free = it.free; charged = it.charged; parked = omega (arith, it.parked, counted); fits = it.fits };
            takes = omega (arith, q.takes);
            slot = carried.slot ∙ q.slot;
            root = carried.root ∙ q.root;
            changed = carried.changed p.trees.live q.changed;
            tree = hierarchic;
          };
        }

pub drops_go_on : (h : Held) (world next : World) (p : Progress) (kept since : ℕ → Bool) (count : ℕ) (base : Kept) → RunsOn h world p → IsOfTree world world.live next → nameless_in world.live ≤ nameless_in next.live + count
    → CarriesOn h.base world.live h.room.charged_since base next.live h.room.charged_since → IsTree limits_written next.live
    → RunsOn (record h { world = next; kept = kept; kept_since = since; room = dropping count h.room; base = base }) next p
drops_go_on h world next p kept since count base ro of counted carried hierarchic = drop_on h world next p kept since count base ro of counted carried hierarchic
