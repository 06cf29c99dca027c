-- What a mount answers to a restart.
use Rattle.std.proofs.Common.{◌≡◌, ◌⊎◌, inl, inr, ℕ, ◌*◌, ◌<◌, ◌≤◌, Bool, false, true, length, [], Some, None, refl, sym, ap, subst, ◌∙◌, arith}
use Rattle.std.proofs.lemmas.Bool.{true≢false}
use Rattle.std.proofs.lemmas.List.{same_lists, get_or_default}
use Rattle.sn_device.specs.Sectors.{AgreesOutside, AreSectors, Contents}
use Rattle.sn_device.specs.Disk.{Disk, Always, reads}
use Rattle.sn_device.specs.Crash.{LeavesOnly, Touches}
use Rattle.sn_device.proofs.CrashLemmas.{Always-reads, LeavesOnly-join, LeavesOnly-now, LeavesOnly-torn, LeavesOnly-weaker}
use Rattle.sn_block.specs.Counts.{IsLater}
use Rattle.sn_block.specs.Effects.{Nowhere}
use Rattle.sn_block.proofs.CountLemmas.{later-is, later-join}
use Rattle.sn_device.specs.declared.status.Status.{Status}
use Rattle.sn_model.specs.declared.call.Event.TheVariants as event
use Rattle.sn_model.specs.declared.fault.Damage.{Damage}
use Rattle.sn_model.specs.declared.fault.MountFault.{MountFault}
use Rattle.sn_model.specs.declared.fault.MountFault.TheVariants as fault
use Rattle.sn_model.specs.declared.reply.Reply.{Reply}
use Rattle.sn_model.specs.declared.reply.Reply.TheVariants as answer
use Rattle.sn_model.specs.Machine.{State, Running, Stopped, Mishap, Memory, Read, mount_fault_of}
use Rattle.sn_model.specs.Settling.{settle}
use Rattle.sn_model.specs.World.{World}
use Rattle.sn_held.specs.Held.{Held}
use Rattle.sn_cp_progress.specs.Meaning.{EitherImage, RunsWith}
use Rattle.sn_held.specs.Images.{IsImage}
use Rattle.sn_held.specs.Moments.{LastsOver, ShowsState}
use Rattle.sn_examine.specs.Failing.{IsSoOf}
use Rattle.sn_mount.specs.Recovering.{LeavesTheWorld, WritesAtFault}
use Rattle.sn_sound.specs.Disks.{IsOfDevice}
use Rattle.sn_sound.specs.Verdicts.{IsFaulty}
use Rattle.sn_sound.proofs.VerdictLemmas.{never_both}
use Rattle.sn_examine.proofs.ImageLemmas.{image_clean}
use Rattle.sn_check.specs.Verdicts.{IsCause}
use Rattle.sn_events.specs.Answers.{Answers, AnswersFrom, BuildsLast, CostsMountOf, HasMadeLast, MayMeet, HasNotMounted, LeavesRestart}
use Rattle.sn_events.specs.Mounting.{IsLeft, WritesToMount}
use Rattle.sn_events.specs.Pointing.{IsPointedLast}
use Rattle.sn_events.specs.Unmounting.{HasUnmounted, IsUnmountedTo}
use Rattle.sn_events.proofs.FinishLemmas.{IsFin, behind_finish, is_fin}
use Rattle.sn_events.proofs.PointLemmas.{in_any_world, made_point, none_failed, settles_same, some_failed}
use Rattle.sn_run.specs.Restarting.{IsNotRemounted, IsRemounted, IsWholeDisk, Remounts}
use Rattle.sn_run.specs.Runs.{LacksRoot}
use Rattle.sn_run.proofs.CutLemmas.{found_settled}
use Rattle.sn_run.proofs.UnfitLemmas.{lacks_none}

-- ---- mounts

agrees_same : (c d : Contents) → AgreesOutside Nowhere c d → c ≡ d
agrees_same c d agrees = sym (same_lists d c agrees.count (λ k x within.
    let inside : k < length c = omega (arith, agrees.count, within) in
    get_or_default d k x [] within ∙ agrees.same k (λ none. none) ∙ sym (get_or_default c k x [] inside)))

-- where nothing was written, a crash leaves what it would have left before
nowhere_leaves : (P : Contents → Type 0) (old new : Disk) → AreSectors (reads old) → Always old P → Touches Nowhere old new → LeavesOnly old new P
nowhere_leaves P old new whole here touches =
    LeavesOnly-torn Nowhere P P (λ c d whole_c whole_d agrees h. subst P (agrees_same c d agrees) h) old new whole here touches

-- and where a world was left
kept_leaves : (P : Contents → Type 0) (old new : Disk) (world : World) → AreSectors (reads old) → Always old P → ((c : Contents) → IsImage c world → P c)
    → Touches Nowhere old new ⊎ LeavesTheWorld old new world → LeavesOnly old new P
kept_leaves P old new world whole here so (inl touches) = nowhere_leaves P old new whole here touches
kept_leaves P old new world whole here so (inr leaves) =
    LeavesOnly-join old leaves.mid new P (nowhere_leaves P old leaves.mid whole here leaves.first)
    (LeavesOnly-weaker leaves.mid new (λ c. IsImage c world) P so leaves.moments)

mount_unfailing : (old new : Status) → CostsMountOf old new → new.failures ≡ old.failures
mount_unfailing old new (n, within, inl is) = ap (λ (x : Status). x.failures) is
mount_unfailing old new (n, within, inr (count, few, gate, is)) = ap (λ (x : Status). x.failures) is

mount_later : (old new : Status) → CostsMountOf old new → IsLater old new
mount_later old new (n, within, inl is) = later-is 1 2 old new is
mount_later old new (n, within, inr (count, few, gate, is)) = later-is _ _ old new is

-- the mount runs over the world that the disk was an image of
module _ (old new : Held) (whole : AreSectors (reads old.disk)) where
  mounted_lasts : (s : State) (world : World) → Always old.disk (λ c. ShowsState s c) → IsImage (reads old.disk) world → LeavesTheWorld old.disk new.disk world → LastsOver s (Running world) old.disk new.disk
  mounted_lasts s world shows image leaves =
      let settled = found_settled (reads old.disk) world image in
      let P = λ (c : Contents). ShowsState s c ⊎ ShowsState (Running world) c in
      let later = LeavesOnly-weaker leaves.mid new.disk (λ c. IsImage c world) (λ c. ShowsState (Running world) c) (λ c h. subst (IsImage c) (sym settled) h) leaves.moments in
      record {
        moments = LeavesOnly-join old.disk leaves.mid new.disk P
            (LeavesOnly-weaker old.disk leaves.mid (λ c. ShowsState s c) P (λ c h. inl h) (nowhere_leaves (λ c. ShowsState s c) old.disk leaves.mid whole shows leaves.first))
            (LeavesOnly-weaker leaves.mid new.disk (λ c. ShowsState (Running world) c) P (λ c h. inr h) later);
        answered = LeavesOnly-now leaves.mid new.disk (λ c. ShowsState (Running world) c) later;
      }

  -- a mount that had stopped, or failed
  pub mounted_answers : (has : Bool) → IsRemounted old.status old.disk new has → Answers event.Restart answer.Done old true new has
  mounted_answers has m (Running w) means = absurd (true≢false means.0)
  mounted_answers has m (Stopped before after) means = told (Always-reads old.disk (λ c. ShowsState (Stopped before after) c) whole means.1)
    where
      answers : (world : World) → (Running world ≡ Running before) ⊎ (Running world ≡ Running after) → IsImage (reads old.disk) world → AnswersFrom (Stopped before after) event.Restart answer.Done old new has
      answers world same image =
          let it = m.mounts.runs world image in
          record {
            met = None;
            fin = old;
            finish = inl refl;
            mid = old;
            point = inl refl;
            may = mount_unfailing old.status new.status m.costs;
            next = Running world;
            step = (refl, same);
            means = it.means;
            lasts = mounted_lasts (Stopped before after) world means.1 image it.leaves;
            later = mount_later old.status new.status m.costs;
            leaves = record { fresh = m.mounts.fresh; room = it.room; leaves = it.leaves; touched = m.mounts.touched; root = m.root world; costs = m.costs };
          }

      told : IsImage (reads old.disk) before ⊎ IsImage (reads old.disk) after → AnswersFrom (Stopped before after) event.Restart answer.Done old new has
      told (inl h) = answers before (inl refl) h
      told (inr h) = answers after (inr refl) h

-- ---- mounts after the point of an unmount

module _ (old mid new : Held) (whole : AreSectors (reads mid.disk)) (p : IsPointedLast old mid) where
  settled_here : LeavesOnly old.disk mid.disk (λ c. IsImage c (settle old.world))
  settled_here = LeavesOnly-weaker old.disk mid.disk (EitherImage old.world (settle old.world)) (λ c. IsImage c (settle old.world)) (λ c either. settles_same old.world either) p.moments

  settled_now : Always mid.disk (λ c. IsImage c (settle old.world))
  settled_now = LeavesOnly-now old.disk mid.disk (λ c. IsImage c (settle old.world)) settled_here

  is_image : IsImage (reads mid.disk) (settle old.world)
  is_image = Always-reads mid.disk (λ c. IsImage c (settle old.world)) whole settled_now

  point_made : HasMadeLast old mid
  point_made = made_point (settle old.world) (BuildsLast old) old mid p

  same_failures : mid.status.failures ≡ old.status.failures
  same_failures = ap (λ (s : Status). s.failures) p.costs

  point_later : IsLater old.status mid.status
  point_later = later-is _ _ old.status mid.status p.costs

  remounted_from : (has : Bool) → IsRemounted mid.status mid.disk new has → AnswersFrom (Running old.world) event.Restart answer.Done old new has
  remounted_from has m =
      let it = m.mounts.runs (settle old.world) is_image in
      let over = mounted_lasts mid new whole (Running old.world) (settle old.world) settled_now is_image it.leaves in
      let P = λ (c : Contents). ShowsState (Running old.world) c ⊎ ShowsState (Running (settle old.world)) c in
      record {
        met = None;
        fin = old;
        finish = inl refl;
        mid = mid;
        point = inr point_made;
        may = none_failed old.status mid.status new.status same_failures (mount_unfailing mid.status new.status m.costs);
        next = Running (settle old.world);
        step = (refl, refl);
        means = it.means;
        lasts = record {
          moments = LeavesOnly-join old.disk mid.disk new.disk P (LeavesOnly-weaker old.disk mid.disk (λ c. IsImage c (settle old.world)) P (λ c h. inl h) settled_here) over.moments;
          answered = over.answered;
        };
        later = later-join old.status mid.status new.status point_later (mount_later mid.status new.status m.costs);
        leaves = (point_made, record { fresh = m.mounts.fresh; room = it.room; leaves = it.leaves; touched = m.mounts.touched; root = m.root (settle old.world); costs = m.costs });
      }

-- ---- mounts that fail

-- an image has no fault
never_faulty : (damage : Damage) (sectors : ℕ) (c : Contents) (block : ℕ) (world : World) → IsOfDevice sectors c → IsImage c world → IsFaulty sectors c damage block → ⊥
never_faulty damage sectors c block world device im faulty = let clean = image_clean sectors c world device im in never_both sectors c clean.0 damage block device clean.1 faulty

-- an image has a root
pub found_root : (f : MountFault) (sectors : ℕ) (c : Contents) (world : World) → IsImage c world → length c ≡ sectors → LacksRoot sectors c f → ⊥
found_root f sectors c world im count lacks =
    lacks_none f sectors c im.blocks im.opens.slot im.opens.root (record { size = im.disk.size; spelled = im.spelled; room = subst (λ (m : ℕ). 8 * im.blocks ≤ m) count im.disk.long }) im.opens.shown.newest lacks

-- the mishap of a fault, where the contents are an image of a world
pub met_with : (f : MountFault) (c : Contents) (world : World) (sectors : ℕ) (old new : Held) → IsImage c world → IsOfDevice sectors c → IsCause sectors c f → IsSoOf f old.status new.status
    → (m : Mishap) × (mount_fault_of m ≡ Some f) × MayMeet old old event.Restart (Some m) new.status
met_with (fault.Damaged damage block) c world sectors old new is device cause failed = absurd (never_faulty damage sectors c block world device is cause)
met_with fault.NotFormatted c world sectors old new is device cause failed = absurd (found_root fault.NotFormatted sectors c world is device.count cause)
met_with fault.Version c world sectors old new is device cause failed = absurd (found_root fault.Version sectors c world is device.count cause)
met_with fault.NoRoot c world sectors old new is device cause failed = absurd (found_root fault.NoRoot sectors c world is device.count cause)
met_with fault.Memory c world sectors old new is device cause failed = (Memory, refl, failed)
met_with fault.Device c world sectors old new is device cause failed = (Read, refl, failed)

writes_to_mount : (f : MountFault) (sectors : ℕ) (old new : Disk) → WritesAtFault f sectors old new → WritesToMount sectors old new
writes_to_mount (fault.Damaged damage block) sectors old new touched = inl touched
writes_to_mount fault.NotFormatted sectors old new touched = inl touched
writes_to_mount fault.Version sectors old new touched = inl touched
writes_to_mount fault.NoRoot sectors old new touched = inl touched
writes_to_mount fault.Memory sectors old new touched = touched
writes_to_mount fault.Device sectors old new touched = touched

-- and after the point of an unmount
met_behind : (f : MountFault) (c : Contents) (world : World) (sectors : ℕ) (old mid new : Held) (before after : World) → IsImage c world → IsOfDevice sectors c → IsCause sectors c f → IsSoOf f mid.status new.status → mid.status.failures ≡ old.status.failures → HasMadeLast old mid → HasNotMounted mid new
    → (m : Mishap) × (mount_fault_of m ≡ Some f) × MayMeet old mid event.Restart (Some m) new.status × LeavesRestart old mid (Some m) (Stopped before after) new
met_behind (fault.Damaged damage block) c world sectors old mid new before after is device cause failed same made unmounted = absurd (never_faulty damage sectors c block world device is cause)
met_behind fault.NotFormatted c world sectors old mid new before after is device cause failed same made unmounted = absurd (found_root fault.NotFormatted sectors c world is device.count cause)
met_behind fault.Version c world sectors old mid new before after is device cause failed same made unmounted = absurd (found_root fault.Version sectors c world is device.count cause)
met_behind fault.NoRoot c world sectors old mid new before after is device cause failed same made unmounted = absurd (found_root fault.NoRoot sectors c world is device.count cause)
met_behind fault.Memory c world sectors old mid new before after is device cause failed same made unmounted = (Memory, refl, none_failed old.status mid.status new.status same failed, (made, unmounted))
met_behind fault.Device c world sectors old mid new before after is device cause failed same made unmounted = (Read, refl, some_failed old.status mid.status new.status same failed, (made, unmounted))

-- where a mount failed a crash leaves what it would have left before
unmounted_over : (f : MountFault) (old new : Held) (before after world : World) → AreSectors (reads old.disk) → IsLeft f old.status.sectors old.disk new.disk → Always old.disk (λ c. ShowsState (Stopped before after) c) → IsImage (reads old.disk) world
    → ((c : Contents) → IsImage c world → ShowsState (Stopped before after) c) → LeavesOnly old.disk new.disk (λ c. ShowsState (Stopped before after) c)
unmounted_over f old new before after world whole left shows opens so = kept_leaves (λ c. ShowsState (Stopped before after) c) old.disk new.disk world whole shows so (left.keeps world opens)

module _ (old new : Held) (f : MountFault) (disk : IsWholeDisk old.status old.disk) (has : Bool) (n : IsNotRemounted f old.status old.disk new has) where
  pub unmounted_answers : Answers event.Restart (answer.Unmounted f) old true new true
  unmounted_answers (Running w) means = absurd (true≢false means.0)
  unmounted_answers (Stopped before after) means = told (Always-reads old.disk (λ c. ShowsState (Stopped before after) c) disk.whole means.1)
    where
      from : (world : World) → IsImage (reads old.disk) world → ((c : Contents) → IsImage c world → ShowsState (Stopped before after) c) → AnswersFrom (Stopped before after) event.Restart (answer.Unmounted f) old new true
      from world here so =
          let met = met_with f (reads old.disk) world old.status.sectors old new here (record { whole = disk.whole; count = disk.count }) n.left.cause n.failed in
          let all = unmounted_over f old new before after world disk.whole n.left means.1 here so in
          record {
            met = Some met.0;
            fin = old;
            finish = inl refl;
            mid = old;
            point = inl refl;
            may = met.2;
            next = Stopped before after;
            step = (f, met.1, refl, refl);
            means = (refl, LeavesOnly-now old.disk new.disk (λ c. ShowsState (Stopped before after) c) all);
            lasts = record {
              moments = LeavesOnly-weaker old.disk new.disk (λ c. ShowsState (Stopped before after) c) (λ c. ShowsState (Stopped before after) c ⊎ ShowsState (Stopped before after) c) (λ c h. inr h) all;
              answered = LeavesOnly-now old.disk new.disk (λ c. ShowsState (Stopped before after) c) all;
            };
            later = n.later;
            leaves = record { keeps = n.left.keeps; touched = writes_to_mount f old.status.sectors old.disk new.disk n.left.touched; costs = n.costs };
          }

      told : IsImage (reads old.disk) before ⊎ IsImage (reads old.disk) after → AnswersFrom (Stopped before after) event.Restart (answer.Unmounted f) old new true
      told (inl h) = from before h (λ c k. inl k)
      told (inr h) = from after h (λ c k. inr k)

module _ (old mid new : Held) (disk : IsWholeDisk mid.status mid.disk) (p : IsPointedLast old mid) (f : MountFault) (has : Bool) (n : IsNotRemounted f mid.status mid.disk new has) where
  unmounted_behind : AnswersFrom (Running old.world) event.Restart (answer.Unmounted f) old new true
  unmounted_behind =
      let w = settle old.world in
      let first = settled_here old mid new disk.whole p in
      let here = is_image old mid new disk.whole p in
      let made = point_made old mid new disk.whole p in
      let unmounted : HasNotMounted mid new = record { keeps = n.left.keeps; touched = writes_to_mount f mid.status.sectors mid.disk new.disk n.left.touched; costs = n.costs } in
      let met = met_behind f (reads mid.disk) w mid.status.sectors old mid new w w here (record { whole = disk.whole; count = disk.count }) n.left.cause n.failed (same_failures old mid new disk.whole p) made unmounted in
      let next = Stopped w w in
      let shows = settled_now old mid new disk.whole p in
      let all = unmounted_over f mid new w w w disk.whole n.left (λ c crash. inl (shows c crash)) here (λ c h. inl h) in
      let P = λ (c : Contents). ShowsState (Running old.world) c ⊎ ShowsState next c in
      record {
        met = Some met.0;
        fin = old;
        finish = inl refl;
        mid = mid;
        point = inr made;
        may = met.2;
        next = next;
        step = inr (f, met.1, refl, refl);
        means = (refl, LeavesOnly-now mid.disk new.disk (λ c. ShowsState next c) all);
        lasts = record {
          moments = LeavesOnly-join old.disk mid.disk new.disk P
              (LeavesOnly-weaker old.disk mid.disk (λ c. IsImage c w) P (λ c h. inl h) first)
              (LeavesOnly-weaker mid.disk new.disk (λ c. ShowsState next c) P (λ c h. inr h) all);
          answered = LeavesOnly-now mid.disk new.disk (λ c. ShowsState next c) all;
        };
        later = later-join old.status mid.status new.status (point_later old mid new disk.whole p) n.later;
        leaves = met.3;
      }

-- ---- a restart

abbrev Remounted : Status → Disk → Held → Bool → Reply → Type 0
Remounted status disk new has reply = ((reply ≡ answer.Done) × IsRemounted status disk new has) ⊎ ((f : MountFault) × (reply ≡ answer.Unmounted f) × IsNotRemounted f status disk new has)

-- of a mount that has stopped
pub restart_stopped : (old new : Held) (has : Bool) (reply : Reply) → Remounts reply old.status old.disk new has → Answers event.Restart reply old true new has
restart_stopped old new has reply r = told r.1
  where
    told : Remounted old.status old.disk new has reply → Answers event.Restart reply old true new has
    told (inl (is, m)) = subst (λ (x : Reply). Answers event.Restart x old true new has) (sym is) (mounted_answers old new r.0.whole has m)
    told (inr (f, is, n)) =
        subst (λ (x : Reply). Answers event.Restart x old true new has) (sym is)
        (subst (λ (b : Bool). Answers event.Restart (answer.Unmounted f) old true new b) (sym n.stopped) (unmounted_answers old new f r.0 has n))

-- of one that was unmounted first
pub restart_running : (old new : Held) (has : Bool) (reply : Reply) (disk : Disk) (status : Status) → HasUnmounted old disk status → Remounts reply status disk new has → Answers event.Restart reply old false new has
restart_running old new has reply disk status unmounts r = in_any_world event.Restart old new reply has (λ runs. at runs (unmounts runs))
  where
    at : RunsWith old.point old old.world → IsUnmountedTo old disk status → AnswersFrom (Running old.world) event.Restart reply old new has
    at runs u = behind_finish event.Restart old u.fin new f tt tt reply has (told whole_r.1)
      where
        f : IsFin old u.fin
        f = is_fin old u.fin u.finish runs

        whole_r : Remounts reply u.mid.status u.mid.disk new has
        whole_r = subst (λ (s : Status). Remounts reply s u.mid.disk new has) (sym u.status_is) (subst (λ (d : Disk). Remounts reply status d new has) (sym u.disk_is) r)

        told : Remounted u.mid.status u.mid.disk new has reply → AnswersFrom (Running u.fin.world) event.Restart reply u.fin new has
        told (inl (is, m)) = subst (λ (x : Reply). AnswersFrom (Running u.fin.world) event.Restart x u.fin new has) (sym is) (remounted_from u.fin u.mid new whole_r.0.whole u.pointed has m)
        told (inr (f, is, n)) =
            subst (λ (x : Reply). AnswersFrom (Running u.fin.world) event.Restart x u.fin new has) (sym is)
            (subst (λ (b : Bool). AnswersFrom (Running u.fin.world) event.Restart (answer.Unmounted f) u.fin new b) (sym n.stopped) (unmounted_behind u.fin u.mid new whole_r.0 u.pointed f has n))
