-- Whole runs.
use Rattle.std.proofs.Common.{◌≡◌, ◌⊎◌, ◌≤◌, ◌*◌, ℕ, inl, inr, Bool, false, None, List, [], ◌∷◌, ◌++◌, refl, sym, subst}
use Rattle.sn_device.specs.Sectors.{Contents}
use Rattle.sn_device.specs.Disk.{Disk, reads}
use Rattle.sn_device.specs.Crash.{Touches}
use Rattle.sn_device.specs.declared.status.Status.{Status}
use Rattle.sn_device.proofs.CrashLemmas.{LeavesOnly-now, LeavesOnly-start, LeavesOnly-weaker, Touches-start}
use Rattle.sn_mount.specs.Costs.{CostsMount}
use Rattle.sn_block.specs.Effects.{Nowhere}
use Rattle.sn_limits.specs.Versions.{limits_written}
use Rattle.sn_model.specs.declared.call.Event.{Event}
use Rattle.sn_model.specs.declared.end.End.{End}
use Rattle.sn_model.specs.declared.end.End.TheVariants as ending
use Rattle.sn_model.specs.declared.fault.MountFault.{MountFault}
use Rattle.sn_model.specs.declared.reply.Reply.{Reply}
use Rattle.sn_model.specs.Machine.{Running, Anything, CutRun, Lacks, Life, WholeRun}
use Rattle.sn_model.specs.World.{World, new_world}
use Rattle.sn_log.specs.Positions.{first_of}
use Rattle.sn_caller.proofs.StepLemmas.{run_more}
use Rattle.sn_held.specs.Rooms.{fresh}
use Rattle.sn_sound.specs.Disks.{IsOfDevice}
use Rattle.sn_held.specs.Held.{Held}
use Rattle.sn_cp_progress.specs.Meaning.{Means}
use Rattle.sn_held.specs.Images.{IsImage}
use Rattle.sn_held.proofs.EventLemmas.{images_one}
use Rattle.sn_mount.specs.Recovering.{LeavesTheWorld}
use Rattle.sn_events.specs.Answers.{Answers}
use Rattle.sn_events.specs.Mounting.{Mounts}
use Rattle.sn_run.specs.Ending.{EndsSo, IsLastEnd}
use Rattle.sn_run.specs.Servers.{no_base}
use Rattle.sn_run.specs.Laws.{LivesOn}
use Rattle.sn_run.specs.Runs.{AnswersAll, Goes, IsRunOf, IsServed, LacksRoot, LeavesFrom, LeavesItsRun, NotMounted, RunsTo, Served, ShowsCut, start}
use Rattle.sn_run.proofs.CutLemmas.{cut_now, found_settled, machine_run, place_of, places, run_leaves}
use Rattle.sn_run.proofs.RestartLemmas.{met_with}
use Rattle.sn_run.proofs.UnfitLemmas.{lacks_none, unfit_fault}
use Rattle.sn_mount.specs.Rooting.{MountsRoot}

-- ---- event by event

pub answers_none : (h : Held) (has : Bool) → AnswersAll [] [] h has h has
answers_none h has s means = record { state = s; means = means; run = refl }

pub answers_more : (events : List Event) (replies : List Reply) (e : Event) (reply : Reply) (old mid new : Held) (had was has : Bool) → AnswersAll events replies old had mid was → Answers e reply mid was new has
    → AnswersAll (events ++ e ∷ []) (replies ++ reply ∷ []) old had new has
answers_more events replies e reply old mid new had was has all next s means =
    let so_far = all s means in
    let x = next so_far.state so_far.means in
    record {
      state = x.next;
      means = x.means;
      run = run_more Goes (record { state = s; held = old; has_stopped = had }) (record { state = so_far.state; held = mid; has_stopped = was }) (record { state = x.next; held = new; has_stopped = has })
          events replies e reply so_far.run (record { answers = x; next = refl });
    }

-- ---- a run that was served

module _ (events : List Event) (replies : List Reply) (disk last_disk : Disk) (status last_status : Status) (h new : Held) (had has : Bool) (m : Mounts status.sectors disk h had) (root : (world : World) (im : IsImage (reads disk) world) → MountsRoot (reads disk) world im h.base status h.status) (n : ℕ) (within : 8 * n ≤ status.sectors) (costs : CostsMount n status h.status) (all : AnswersAll events replies h had new has) where
  served : (end : End) → EndsSo end new has last_disk last_status → Served events replies end disk status last_disk last_status
  served end ends = record {
    mounted = h;
    fresh = m.fresh;
    clean = m.clean;
    touched = m.touched;
    costs = (n, within, costs);
    served = λ world image.
        let it = m.runs world image in
        let a = subst (λ (b : Bool). AnswersAll events replies h b new has) m.running all (Running world) (subst (λ (b : Bool). Means h b (Running world)) m.running it.means) in
        record {
          means = subst (λ (b : Bool). Means h b (Running world)) m.running it.means;
          room = it.room;
          leaves = it.leaves;
          root = root world;
          last = record { state = a.state; held = new; has_stopped = has };
          run = a.run;
          ended = ends a.state a.means;
        };
  }

  pub served_to : (end : End) → IsLastEnd end → EndsSo end new has last_disk last_status → RunsTo end events replies disk status last_disk last_status
  served_to ending.Clean told ends = served ending.Clean ends
  served_to ending.Stopped told ends = served ending.Stopped ends
  served_to ending.Memory told ends = inr (served ending.Memory ends)
  served_to (ending.Mount fault) told ends = absurd told

-- ---- in the machine's words

-- a device alone
abbrev device_alone : Disk → Status → Held
device_alone disk status = record { world = new_world; kept = λ number. false; kept_since = λ number. false; room = fresh 0; at = first_of 256 1; base = no_base; point = None; disk = disk; status = status }

module _ (events : List Event) (replies : List Reply) (disk last_disk : Disk) (status last_status : Status) (world : World) (device : IsOfDevice status.sectors (reads disk)) (image : IsImage (reads disk) world) where
  served_leaves : (end : End) (mounted : Held) → IsServed world events replies end disk status mounted last_disk last_status → LeavesItsRun world events replies disk last_disk
  served_leaves end mounted s =
      record {
        mounted = mounted.disk;
        mounts = s.leaves;
        moments = run_leaves (place_of (start world mounted)) (place_of (start world mounted)) (place_of s.last) [] events [] replies last_disk tt refl (places (start world mounted) s.last events replies s.run) s.ended.lasts;
      }

  served_run : (end : End) → Served events replies end disk status last_disk last_status → IsRunOf world events replies end disk last_disk
  served_run end s =
      let it = s.served world image in
      record {
        run = inr (inr (it.last.state, machine_run (place_of (start world s.mounted)) (place_of it.last) events replies (places (start world s.mounted) it.last events replies it.run), it.ended.met, tt, it.ended.ends));
        crash = inr (served_leaves end s.mounted it);
      }

  -- what a mount that failed leaves, before any event
  shows_cut : (c : Contents) → IsImage c world → ShowsCut (Running world) events [] c
  shows_cut c h = (world, h, cut_now world events (found_settled (reads disk) world image))

  left_so : replies ≡ [] → Touches Nowhere disk last_disk ⊎ LeavesTheWorld disk last_disk world → ((replies ≡ []) × Touches Nowhere disk last_disk) ⊎ LeavesItsRun world events replies disk last_disk
  left_so none (inl touches) = inl (none, touches)
  left_so none (inr leaves) = inr (record {
    mounted = last_disk;
    mounts = leaves;
    moments = subst (λ (said : List Reply). LeavesFrom (Running world) events [] said last_disk last_disk) (sym none)
        (LeavesOnly-start last_disk (ShowsCut (Running world) events [])
        (LeavesOnly-now leaves.mid last_disk (ShowsCut (Running world) events []) (LeavesOnly-weaker leaves.mid last_disk (λ c. IsImage c world) (ShowsCut (Running world) events []) shows_cut leaves.moments)));
  })

  unserved_run : (f : MountFault) → NotMounted f replies disk status last_disk last_status → IsRunOf world events replies (ending.Mount f) disk last_disk
  unserved_run f n =
      let met = met_with f (reads disk) world status.sectors (device_alone disk status) (device_alone last_disk last_status) image device n.left.cause n.failed in
      record {
        run = inr (inl (met.0, f, tt, met.1, (n.none, refl)));
        crash = left_so n.none (n.left.keeps world image);
      }

  pub is_run : (end : End) → RunsTo end events replies disk status last_disk last_status → IsRunOf world events replies end disk last_disk
  is_run ending.Clean h = served_run ending.Clean h
  is_run ending.Stopped h = served_run ending.Stopped h
  is_run ending.Memory (inr s) = served_run ending.Memory s
  is_run ending.Memory (inl h) = record {
    run = inl (tt, (h.0, refl));
    crash = inl (h.0, subst (λ (d : Disk). Touches Nowhere disk d) (sym h.1) (Touches-start Nowhere disk));
  }
  is_run (ending.Mount f) h = unserved_run f h

-- ---- a disk without a root

module _ (events : List Event) (replies : List Reply) (disk last_disk : Disk) (status last_status : Status) (f : MountFault) (lacks : LacksRoot status.sectors (reads disk) f) where
  never_served : (end : End) → Served events replies end disk status last_disk last_status → ⊥
  never_served end s = let t = s.touched in lacks_none f status.sectors (reads disk) t.blocks t.slot t.root t.formatted t.newest lacks

  -- the mount has reported why, or has failed
  pub is_unfit : (end : End) → RunsTo end events replies disk status last_disk last_status → WholeRun Anything limits_written (Lacks f) events replies end
  is_unfit ending.Clean h = absurd (never_served ending.Clean h)
  is_unfit ending.Stopped h = absurd (never_served ending.Stopped h)
  is_unfit ending.Memory (inr s) = absurd (never_served ending.Memory s)
  is_unfit ending.Memory (inl h) = inl (tt, (h.0, refl))
  is_unfit (ending.Mount g) h = inr (unfit_fault f g status.sectors (reads disk) events replies h.none lacks h.left.cause)

-- ---- lives

pub lives : (c last : Contents) (runs : List (List Event × List Reply)) (first : World) → IsImage c first → LivesOn c runs last → (world : World) × IsImage last world × Life Anything limits_written first runs world
lives c last [] first image life = (first, subst (λ (x : Contents). IsImage x first) (sym life) image, refl)
lives c last (r ∷ rs) first image life =
    let cut = life.1 in
    let same = images_one c cut.world first cut.image image in
    let rest = lives life.0 last rs cut.cut.0 cut.cut.1 life.2 in
    (rest.0, rest.1, (cut.cut.0, subst (λ (w : World). CutRun Anything limits_written (Running w) r.0 r.1 cut.cut.0) same cut.cut.2, rest.2))
