-- The last unmount.
use Rattle.std.proofs.Common.{◌≡◌, inl, inr, Bool, true, false, Option, Some, None, Err, refl, sym, ap, subst}
use Rattle.std.proofs.lemmas.Bool.{true≢false}
use Rattle.sn_device.specs.Disk.{Disk, Always}
use Rattle.sn_device.specs.Crash.{LeavesOnly}
use Rattle.sn_device.specs.declared.status.Status.{Status}
use Rattle.sn_device.proofs.CrashLemmas.{LeavesOnly-join, LeavesOnly-start, LeavesOnly-weaker}
use Rattle.sn_block.specs.Counts.{IsLater}
use Rattle.sn_block.proofs.CountLemmas.{later-is, later-join, later-same}
use Rattle.sn_model.specs.declared.call.Event.TheVariants as event
use Rattle.sn_model.specs.declared.end.End.{End}
use Rattle.sn_model.specs.declared.end.End.TheVariants as ending
use Rattle.sn_model.specs.declared.reply.Errno.{Errno}
use Rattle.sn_model.specs.declared.reply.Errno.TheVariants.{Eio, Elimit, Enomem, Estopped}
use Rattle.sn_model.specs.declared.reply.Refusal.{Refusal}
use Rattle.sn_model.specs.declared.reply.Reply.TheVariants as answer
use Rattle.sn_model.specs.Machine.{Running, Stopped, Memory, Read, Write, Age, refused}
use Rattle.sn_model.specs.Settling.{settle}
use Rattle.sn_model.specs.Tests.{plain}
use Rattle.sn_model.specs.World.{World}
use Rattle.sn_held.specs.Held.{Going, Held, RunsReady}
use Rattle.sn_cp_progress.specs.Meaning.{EitherImage, RunsWith}
use Rattle.sn_cp_progress.proofs.MeaningLemmas.{runs_with}
use Rattle.sn_held.specs.Images.{IsImage}
use Rattle.sn_held.specs.Moments.{ShowsState}
use Rattle.sn_held.proofs.EventLemmas.{runs_show}
use Rattle.sn_cp_whole.specs.declared.fault.PointFault.{PointFault}
use Rattle.sn_cp_whole.specs.declared.fault.PointFault.TheVariants as point
use Rattle.sn_events.specs.Answers.{BuildsLast, HasMadeLast, IsCutLast, MayMeet}
use Rattle.sn_events.specs.Pointing.{FinishesSo, IsUnpointedLast, errno_of_point}
use Rattle.sn_events.proofs.FinishLemmas.{IsFin, is_fin, one_finish}
use Rattle.sn_events.specs.Unmounting.{HasUnmounted, IsRefusedFor, IsRefusedTo, IsUnmountedTo}
use Rattle.sn_events.proofs.PointLemmas.{made_point, settles_same}
use Rattle.sn_events.proofs.ReadLemmas.{fails_read}
use Rattle.sn_run.specs.Ending.{EndsSo, IsEnded, end_for}
use Rattle.sn_events.specs.Durable.{IsInItsRoot}
use Rattle.sn_events.proofs.DurableLemmas.{in_its_root}
use Rattle.sn_events.proofs.UnmountLemmas.{settles_twice}

done_is_refused : (errno : Errno) → refused errno ≡ answer.Done → ⊥
done_is_refused errno e = cc

-- an error other than a lack of memory
is_memory : (errno : Errno) → (errno ≡ Enomem → ⊥) → refused errno ≡ refused Enomem → ⊥
is_memory errno apart e =
    let same : plain errno ≡ plain Enomem = cc in
    apart (ap (λ (r : Refusal). r.errno) same)

-- what holds of the world that is held holds of the one that is meant
in_its_world : (last : Held) (end : End) (disk : Disk) (status : Status) → (RunsWith last.point last last.world → IsEnded (Running last.world) last end disk status) → EndsSo end last false disk status
in_its_world last end disk status f (Running w) m =
    let is = (runs_with last w last.point m.1).is in
    subst (λ (x : World). IsEnded (Running x) last end disk status) is (f (subst (λ (x : World). RunsWith last.point last x) (sym is) m.1))
in_its_world last end disk status f (Stopped before after) m = absurd (true≢false (sym m.0))

-- what ends after the point in progress, once that is finished
ended_behind : (last fin : Held) → IsFin last fin → (end : End) (disk : Disk) (status : Status) → IsEnded (Running fin.world) fin end disk status → IsEnded (Running last.world) last end disk status
ended_behind last fin f end disk status e = subst (λ (w : World). IsEnded (Running w) last end disk status) f.world (record {
  met = e.met;
  ends = e.ends;
  fin = e.fin;
  finish = one_finish (Running fin.world) event.Restart last fin e.fin f tt tt e.finish;
  mid = e.mid;
  point = e.point;
  may = e.may;
  lasts = LeavesOnly-join last.disk fin.disk disk (ShowsState (Running fin.world))
      (LeavesOnly-weaker last.disk fin.disk (λ c. IsImage c (settle last.world)) (ShowsState (Running fin.world))
      (λ c im. subst (λ (w : World). IsImage c (settle w)) (sym f.world) im) f.moments) e.lasts;
  later = later-join last.status fin.status status f.later e.later;
  new = e.new;
  disk_is = e.disk_is;
  status_is = e.status_is;
  leaves = e.leaves;
})

-- one that has stopped calls nothing
pub ends_stopped : (last : Held) → EndsSo ending.Stopped last true last.disk last.status
ends_stopped last (Running w) m = absurd (true≢false m.0)
ends_stopped last (Stopped before after) m = record {
  met = None;
  ends = (refused Estopped, refl, (done_is_refused Estopped, is_memory Estopped (λ e. cc e)));
  fin = last;
  finish = inl refl;
  mid = last;
  point = inl refl;
  may = refl;
  lasts = LeavesOnly-start last.disk (ShowsState (Stopped before after)) m.1;
  later = later-same last.status last.status refl;
  new = last;
  disk_is = refl;
  status_is = refl;
  leaves = refl;
}

-- at no moment of its point does a crash leave another world
settled_last : (old new : Held) → LeavesOnly old.disk new.disk (EitherImage old.world (settle old.world)) → LeavesOnly old.disk new.disk (λ c. IsImage c (settle old.world))
settled_last old new moments = LeavesOnly-weaker old.disk new.disk (EitherImage old.world (settle old.world)) (λ c. IsImage c (settle old.world)) (λ c either. settles_same old.world either) moments

-- one that is made
pub ends_clean : (last : Held) (disk : Disk) (status : Status) → HasUnmounted last disk status → EndsSo ending.Clean last false disk status
ends_clean last disk status unmounts = in_its_world last ending.Clean disk status (λ r. let u = unmounts r in ended_behind last u.fin (is_fin last u.fin u.finish r) ending.Clean disk status (at u))
  where
    at : (u : IsUnmountedTo last disk status) → IsEnded (Running u.fin.world) u.fin ending.Clean disk status
    at u =
        let p = u.pointed in
        let made : HasMadeLast u.fin u.mid = made_point (settle u.fin.world) (BuildsLast u.fin) u.fin u.mid p in
        let over : IsEnded (Running u.fin.world) u.fin ending.Clean u.mid.disk u.mid.status = record {
          met = None;
          ends = (answer.Done, refl, refl);
          fin = u.fin;
          finish = inl refl;
          mid = u.mid;
          point = inr made;
          may = ap (λ (s : Status). s.failures) p.costs;
          lasts = settled_last u.fin u.mid p.moments;
          later = later-is _ _ u.fin.status u.mid.status p.costs;
          new = u.mid;
          disk_is = refl;
          status_is = refl;
          leaves = (made, refl, subst (λ (w : World). Always u.mid.disk (IsInItsRoot (settle u.fin.world).live w)) (settles_twice u.fin.world) (in_its_root u.mid (settle u.fin.world) p.runs p.fresh));
        } in
        subst (λ (s : Status). IsEnded (Running u.fin.world) u.fin ending.Clean disk s) u.status_is (subst (λ (d : Disk). IsEnded (Running u.fin.world) u.fin ending.Clean d u.mid.status) u.disk_is over)

-- ---- one that is cut off

-- the device failed while a point was made or finished, at no moment of which does a crash leave another world
ends_cut_off : (last new : Held) → MayMeet last last event.Restart (Some Write) new.status → LeavesOnly last.disk new.disk (λ c. IsImage c (settle last.world))
    → IsLater last.status new.status → IsCutLast last new.disk new.status → IsEnded (Running last.world) last ending.Stopped new.disk new.status
ends_cut_off last new may moments later costs = record {
  met = Some Write;
  ends = (refused Eio, refl, (done_is_refused Eio, is_memory Eio (λ e. cc e)));
  fin = last;
  finish = inl refl;
  mid = last;
  point = inl refl;
  may = may;
  lasts = moments;
  later = later;
  new = new;
  disk_is = refl;
  status_is = refl;
  leaves = costs;
}

-- ---- one that is refused

module _ (last : Held) (r : RunsReady last last.world last.base) where
  shows_still : LeavesOnly last.disk last.disk (ShowsState (Running last.world))
  shows_still = LeavesOnly-start last.disk (ShowsState (Running last.world)) (runs_show last last.world r.runs)

  ends_refused : (fault : PointFault) (new : Held) → IsUnpointedLast fault last new → IsEnded (Running last.world) last (end_for (errno_of_point fault)) new.disk new.status
  ends_refused point.Memory new is = subst (λ (h : Held). IsEnded (Running last.world) last ending.Memory h.disk h.status) (sym is) (record {
    met = Some Memory;
    ends = (refused Enomem, refl, refl);
    fin = last;
    finish = inl refl;
    mid = last;
    point = inl refl;
    may = refl;
    lasts = shows_still;
    later = later-same last.status last.status refl;
    new = last;
    disk_is = refl;
    status_is = refl;
    leaves = refl;
  })
  ends_refused point.Age new is = subst (λ (h : Held). IsEnded (Running last.world) last ending.Stopped h.disk h.status) (sym is.0) (record {
    met = Some Age;
    ends = (refused Elimit, refl, (done_is_refused Elimit, is_memory Elimit (λ e. cc e)));
    fin = last;
    finish = inl refl;
    mid = last;
    point = inl refl;
    may = (is.1, refl);
    lasts = shows_still;
    later = later-same last.status last.status refl;
    new = last;
    disk_is = refl;
    status_is = refl;
    leaves = refl;
  })
  ends_refused point.Read new is =
      let told = fails_read last.status new.status is.1 in
      subst (λ (d : Disk). IsEnded (Running last.world) last ending.Stopped d new.status) (sym (ap (λ (h : Held). h.disk) is.0)) (record {
        met = Some Read;
        ends = (refused Eio, refl, (done_is_refused Eio, is_memory Eio (λ e. cc e)));
        fin = last;
        finish = inl refl;
        mid = last;
        point = inl refl;
        may = told.0;
        lasts = shows_still;
        later = told.1;
        new = record last { status = new.status };
        disk_is = refl;
        status_is = refl;
        leaves = (refl, is.1);
      })
  ends_refused point.Damaged new is = absurd is
  ends_refused point.Device new cut = ends_cut_off last new cut.failed (settled_last last new cut.moments) cut.later (inl (record { touched = cut.touched; built = cut.built; builds = cut.builds; costs = cut.costs }))

-- the point in progress was cut off
ends_cut : (last : Held) (fault : PointFault) (new : Held) → FinishesSo (Err fault) last.point last new → IsEnded (Running last.world) last (end_for (errno_of_point fault)) new.disk new.status
ends_cut last fault new so = told last.point so
  where
    told : (at : Option Going) → FinishesSo (Err fault) at last new → IsEnded (Running last.world) last (end_for (errno_of_point fault)) new.disk new.status
    told None never = absurd never
    told (Some going) (is, cut) = subst (λ (f : PointFault). IsEnded (Running last.world) last (end_for (errno_of_point f)) new.disk new.status) (sym is)
        (ends_cut_off last new cut.failed cut.moments cut.later (inr (record { needed = tt; touched = cut.touched; going = cut.going; is = cut.is; costs = cut.costs })))

ends_for : (last : Held) (fault : PointFault) (new : Held) → RunsWith last.point last last.world → IsRefusedFor fault last new → IsEnded (Running last.world) last (end_for (errno_of_point fault)) new.disk new.status
ends_for last fault new r (inl cut) = ends_cut last fault new cut
ends_for last fault new r (inr (fin, so, unpointed)) =
    let f = is_fin last fin so r in
    ended_behind last fin f (end_for (errno_of_point fault)) new.disk new.status (ends_refused fin f.ready fault new unpointed)

ends_by : (last new : Held) (errno : Errno) (has_stopped : Bool) → IsRefusedTo errno last new has_stopped → EndsSo (end_for errno) last false new.disk new.status
ends_by last new errno has_stopped refuses =
    subst (λ (x : Errno). EndsSo (end_for x) last false new.disk new.status) (sym refuses.told)
    (in_its_world last (end_for (errno_of_point refuses.fault)) new.disk new.status (λ r. ends_for last refuses.fault new r (refuses.unpointed r)))

-- it had stopped before, or not
pub ends_either : (last new : Held) (errno : Errno) (had has : Bool) → (had ≡ false → IsRefusedTo errno last new has) → (had ≡ true → (errno ≡ Estopped) × (new ≡ last) × (has ≡ true)) → EndsSo (end_for errno) last had new.disk new.status
ends_either last new errno true has refuses stopped =
    let t = stopped refl in
    subst (λ (x : Errno). EndsSo (end_for x) last true new.disk new.status) (sym t.0) (subst (λ (h : Held). EndsSo ending.Stopped last true h.disk h.status) (sym t.1) (ends_stopped last))
ends_either last new errno false has refuses stopped = ends_by last new errno has (refuses refl)
