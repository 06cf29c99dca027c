-- What an event answers that makes a whole point first, or whose point isn't made.
use Rattle.std.proofs.Common.{◌≡◌, ◌≢◌, ◌⊎◌, inl, inr, ℕ, ◌+◌, ◌<◌, Bool, true, false, Option, Some, None, Err, Ok, refl, sym, ap, subst, ◌∙◌, arith}
use Rattle.std.specs.Prelude.{IsOk}
use Rattle.std.proofs.lemmas.Bool.{true≢false}
use Rattle.sn_limits.specs.Versions.{limits_written}
use Rattle.sn_model.specs.declared.call.Call.{Call}
use Rattle.sn_model.specs.declared.call.Event.{Event}
use Rattle.sn_model.specs.declared.call.Event.TheVariants as event
use Rattle.sn_model.specs.declared.change.Change.{Change}
use Rattle.sn_model.specs.declared.change.Change.TheVariants.{Make, AddLink, Remove, Rename, Write as WriteBytes, SetSize, SetAttributes}
use Rattle.sn_model.specs.declared.outcome.Outcome.{Outcome}
use Rattle.sn_model.specs.declared.reply.Errno.TheVariants.{Eio, Elimit, Enomem, Enospc}
use Rattle.sn_model.specs.declared.reply.Reply.{Reply}
use Rattle.sn_model.specs.Calls.{ready}
use Rattle.sn_model.specs.Machine.{Running, Stopped, Mishap, Memory, Read, Write, Space, Age, EventStep, Passes, errno_of, refused}
use Rattle.sn_model.specs.declared.outcome.AskedPoint.{AskedPoint}
use Rattle.sn_model.specs.declared.outcome.AskedPoint.TheVariants.{Unasked, Plain, Freezes, Thaws, Restores}
use Rattle.sn_model.specs.Settling.{settle}
use Rattle.sn_model.specs.Steps.{TakesMemory, pointed}
use Rattle.sn_model.specs.World.{World}
use Rattle.sn_model.specs.Worlds.{IsCall, IsWorld}
use Rattle.sn_model.proofs.OutcomeLemmas.{LeavesLive}
use Rattle.sn_block.specs.Counts.{FailsRead, IsLater}
use Rattle.sn_block.proofs.CountLemmas.{later-is, later-join, later-same}
use Rattle.sn_caller.specs.Numbering.{gives_kept}
use Rattle.sn_caller.proofs.StepLemmas.{change_takes}
use Rattle.sn_device.specs.declared.status.Status.{Status}
use Rattle.sn_device.specs.Disk.{Disk}
use Rattle.sn_device.specs.Sectors.{Contents}
use Rattle.sn_device.specs.Crash.{LeavesOnly, Touches}
use Rattle.sn_device.proofs.CrashLemmas.{LeavesOnly-join, LeavesOnly-now, LeavesOnly-weaker}
use Rattle.sn_record.specs.Payload.{IsSpelled, PayloadsFit}
use Rattle.sn_log.specs.Positions.{HasRoom, LogPosition, first_of}
use Rattle.sn_held.specs.Held.{Going, Held, Kept, RunsReady}
use Rattle.sn_cp_progress.specs.Meaning.{EitherImage, RunsWith}
use Rattle.sn_cp_progress.proofs.MeaningLemmas.{runs_with, stays_lasts}
use Rattle.sn_held.specs.Images.{IsImage}
use Rattle.sn_held.specs.Moments.{ShowsState}
use Rattle.sn_held.proofs.EventLemmas.{ready_with, runs_show}
use Rattle.sn_overlay.specs.Layers.{Layer}
use Rattle.sn_overlay.specs.Needs.{need}
use Rattle.sn_cp_whole.specs.Making.{HasCauseFor, MakesPoint, most_syncs, most_writes}
use Rattle.sn_cp_whole.specs.declared.fault.PointFault.{PointFault}
use Rattle.sn_cp_whole.specs.declared.fault.PointFault.TheVariants as point
use Rattle.sn_examine.specs.Failing.{CostsAtMost, HasFailed, HasNotFailed}
use Rattle.sn_events.specs.Answers.{Answers, AnswersFrom, AsksFirst, BuildsFor, BuildsLast, DoesNotFit, HasLogged, HasMadePoint, HasMadeRoom, HasPointed, HasTold, IsBesideRoot, IsChangeOf, IsCutFinish, IsCutPoint, IsLastRoot, IsUnchanged, Lacks, LacksAge, LacksFirst, Leaves, LeavesCall, LeavesRestart, MayMeet, NeedsPoint, NeedsRoom, is_fitting}
use Rattle.sn_events.specs.Pointing.{CanPoint, IsCutOffIn, IsPointed, IsPointedTo, IsUnpointed, IsUnpointedLast, IsUnpointedTo, Points, errno_of_point, is_restore, stops_for}
use Rattle.sn_events.specs.Serving.{AsksFrom, CutsTo, Serves, ServesFrom, ServesTo}
use Rattle.sn_events.proofs.CallLemmas.{comes, next_with}
use Rattle.sn_events.proofs.ReadLemmas.{fails_read}
use Rattle.sn_events.proofs.DecisionLemmas.{CanBeMade, can_be_made, is_charged}
use Rattle.sn_events.proofs.UnmountLemmas.{settles_twice}

-- what holds of the world that is held holds of the one that is meant
pub in_any_world : (e : Event) (old new : Held) (reply : Reply) (has_stopped : Bool) → (RunsWith old.point old old.world → AnswersFrom (Running old.world) e reply old new has_stopped) → Answers e reply old false new has_stopped
in_any_world e old new reply has_stopped f (Running w) m =
    let is = (runs_with old w old.point m.1).is in
    subst (λ (x : World). AnswersFrom (Running x) e reply old new has_stopped) is (f (subst (λ (x : World). RunsWith old.point old x) (sym is) m.1))
in_any_world e old new reply has_stopped f (Stopped before after) m = absurd (true≢false (sym m.0))

-- where no point is in progress
pub in_its_world : (e : Event) (old new : Held) (reply : Reply) (has_stopped : Bool) → old.point ≡ None → (RunsReady old old.world old.base → AnswersFrom (Running old.world) e reply old new has_stopped) → Answers e reply old false new has_stopped
in_its_world e old new reply has_stopped between f = in_any_world e old new reply has_stopped (λ r. f (subst (λ (p : Option Going). RunsWith p old old.world) between r))

-- it runs without one
pub running_between : (h : Held) (world : World) → h.point ≡ None → RunsReady h world h.base → RunsWith h.point h world
running_between h world between ready = subst (λ (p : Option Going). RunsWith p h world) (sym between) ready

-- ---- a point that was made

-- of a world and the same one, or it settled twice
pub either_same : {A : Type 0} → A ⊎ A → A
either_same (inl a) = a
either_same (inr a) = a

pub settles_same : {d : Contents} (w : World) → EitherImage w (settle w) d → IsImage d (settle w)
settles_same w (inl im) = im
settles_same {d} w (inr im) = subst (IsImage d) (settles_twice w) im

pub made_point : (world : World) (Builds : Layer → Type 0) (old new : Held) → IsPointedTo world Builds old new → HasMadePoint world Builds old new
made_point world Builds old new p = record {
  between = p.between;
  is = p.world;
  fresh = p.fresh;
  log = p.log;
  follows = p.follows;
  touched = p.touched;
  built = p.built;
  builds = p.builds;
  count = p.count;
  few = p.few;
  gate = p.gate;
  costs = p.costs;
}

-- one that makes room shows the settled world all the time
settled_all : (old mid : Held) → IsPointed Plain old mid → LeavesOnly old.disk mid.disk (λ d. IsImage d (settle old.world))
settled_all old mid p = LeavesOnly-weaker old.disk mid.disk (EitherImage old.world old.world) (λ d. IsImage d (settle old.world)) (λ d either. either_same either) p.moments

pub none_failed : (old mid new : Status) → mid.failures ≡ old.failures → HasNotFailed mid new → HasNotFailed old new
none_failed old mid new same none = none ∙ same

pub some_failed : (old mid new : Status) → mid.failures ≡ old.failures → HasFailed mid new → HasFailed old new
some_failed old mid new same (inl more) = inl (omega (arith, same, more))
some_failed old mid new same (inr ended) = inr ended

-- ---- one that brings no snapshot back

-- is built from what changed
pub builds_changed : (asked : AskedPoint) (h : Held) → is_restore asked ≡ false → BuildsFor asked h h.base.changed
builds_changed Unasked h other = refl
builds_changed Plain h other = refl
builds_changed (Freezes name) h other = refl
builds_changed (Thaws name) h other = refl
builds_changed (Restores name) h other = absurd (true≢false other)

-- and leaves the live tree
pub leaves_live : (asked : AskedPoint) → is_restore asked ≡ false → LeavesLive asked
leaves_live Unasked other = tt
leaves_live Plain other = tt
leaves_live (Freezes name) other = tt
leaves_live (Thaws name) other = tt
leaves_live (Restores name) other = absurd (true≢false other)

-- ---- a call that is answered after one that makes room

-- what needs room needs a point
pub needs_room : (h : Held) (session : ℕ) (c : Call) → NeedsRoom h session c → NeedsPoint h (event.Call session c)
needs_room h session c (inl lacks) = inl lacks
needs_room h session c (inr (asks, over)) = inr (record { asks = asks; outcome = over.outcome; decided = over.decided })

-- a point takes the log to another epoch
never_again : {A : Type 0} (world : World) (Builds : Layer → Type 0) (old new : Held) → HasMadePoint world Builds old new → new ≡ old → A
never_again world Builds old new made same =
    let epoch : old.at.epoch ≡ old.at.epoch + 1 = sym (ap (λ (h : Held). h.at.epoch) same) ∙ ap (λ (at : LogPosition). at.epoch) made.log in
    absurd (omega (arith, epoch))

module _ (old mid new : Held) (session : ℕ) (c : Call) (needed : NeedsRoom old session c) (p : IsPointed Plain old mid) where
  abbrev e : Event
  e = event.Call session c

  made : HasMadeRoom old mid
  made = made_point old.world (BuildsFor Plain old) old mid p

  no_failures : mid.status.failures ≡ old.status.failures
  no_failures = ap (λ (s : Status). s.failures) p.costs

  later : IsLater old.status mid.status
  later = later-is _ _ old.status mid.status p.costs

  may_meet : (fin at : Held) (met : Option Mishap) → fin ≡ mid → at ≡ mid → MayMeet fin at e met new.status → MayMeet old mid e met new.status
  may_meet fin at None first same may = none_failed old.status mid.status new.status no_failures (subst (λ (h : Held). HasNotFailed h.status new.status) first may)
  may_meet fin at (Some Memory) first same may = none_failed old.status mid.status new.status no_failures (subst (λ (h : Held). HasNotFailed h.status new.status) first may)
  may_meet fin at (Some Read) first same may = some_failed old.status mid.status new.status no_failures (subst (λ (h : Held). HasFailed h.status new.status) first may)
  may_meet fin at (Some Write) first same may = some_failed old.status mid.status new.status no_failures (subst (λ (h : Held). HasFailed h.status new.status) first may)
  may_meet fin at (Some Space) first same may = never_again fin.world (BuildsFor Plain fin) fin at may.0.1 (same ∙ sym first)
  may_meet fin at (Some Age) first same may = (subst (λ (h : Held). NeedsPoint h e × IsLastRoot h.base.root) same may.0, none_failed old.status mid.status new.status no_failures (subst (λ (h : Held). HasNotFailed h.status new.status) first may.1))

  leaves_call : (fin at : Held) (met : Option Mishap) → fin ≡ mid → at ≡ mid → CutsTo met mid session c new → LeavesCall fin at session c met new → LeavesCall old mid session c met new
  leaves_call fin at None first same to leaves = subst (λ (x : Held). HasPointed session c x new ⊎ ((AsksFirst x session c → ⊥) × (HasTold session c x new ⊎ HasLogged session c x new))) same leaves
  leaves_call fin at (Some Memory) first same to leaves = leaves ∙ same
  leaves_call fin at (Some Read) first same to leaves = subst (λ (x : Held). IsUnchanged Read x new) same leaves
  leaves_call fin at (Some Write) first same (inl tried) leaves = inl tried
  leaves_call fin at (Some Write) first same (inr cut) leaves = inr (inl cut)
  leaves_call fin at (Some Space) first same to leaves = leaves ∙ same
  leaves_call fin at (Some Age) first same to leaves = leaves ∙ same

  -- from what was held after it
  behind_room : {has_stopped : Bool} {reply : Reply} (a : AnswersFrom (Running old.world) e reply mid new has_stopped) → a.fin ≡ mid → a.mid ≡ mid → CutsTo a.met mid session c new → AnswersFrom (Running old.world) e reply old new has_stopped
  behind_room {has_stopped} {reply} a first same to = record {
    met = a.met;
    fin = old;
    finish = inl refl;
    mid = mid;
    point = inr (needed, made);
    may = may_meet a.fin a.mid a.met first same a.may;
    next = a.next;
    step = a.step;
    means = a.means;
    lasts = record {
      moments = LeavesOnly-join old.disk mid.disk new.disk (λ d. ShowsState (Running old.world) d ⊎ ShowsState a.next d)
          (LeavesOnly-weaker old.disk mid.disk (λ d. IsImage d (settle old.world)) (λ d. ShowsState (Running old.world) d ⊎ ShowsState a.next d) (λ d h. inl h) (settled_all old mid p)) a.lasts.moments;
      answered = a.lasts.answered;
    };
    later = later-join old.status mid.status new.status later a.later;
    leaves = leaves_call a.fin a.mid a.met first same to a.leaves;
  }

  -- so it is of one that makes its own point
  pub asks_behind : {has_stopped : Bool} {reply : Reply} → AsksFrom old.world session c reply mid new has_stopped → AnswersFrom (Running old.world) e reply old new has_stopped
  asks_behind asked = behind_room asked.answers asked.at_once.0 asked.at_once.1 asked.cuts

  served_cuts : (met : Option Mishap) → ServesTo met mid session c new → CutsTo met mid session c new
  served_cuts None to = tt
  served_cuts (Some Memory) to = tt
  served_cuts (Some Read) to = tt
  served_cuts (Some Write) to = inl to
  served_cuts (Some Space) to = tt
  served_cuts (Some Age) to = tt

  behind_point : {has_stopped : Bool} {reply : Reply} → ServesFrom (Running old.world) session c reply mid new has_stopped → AnswersFrom (Running old.world) e reply old new has_stopped
  behind_point served = behind_room served.answers served.at_once.0 served.at_once.1 (served_cuts served.answers.met served.met)

-- ---- one that doesn't fit after it

-- a record has room in an empty half
empty_has_room : PayloadsFit → (n epoch : ℕ) (change : Change) → IsSpelled change → HasRoom (first_of n epoch) change
empty_has_room fit n epoch change spelled = omega (arith, (fit change spelled).1)

gives_none : (change : Change) (kept : ℕ → Bool) → ((n : ℕ) → kept n ≡ false) → gives_kept change kept ≡ false
gives_none (Make directory name number kind o) kept none = none number
gives_none (AddLink directory name number) kept none = refl
gives_none (Remove directory name) kept none = refl
gives_none (Rename old_directory old_name new_directory new_name) kept none = refl
gives_none (WriteBytes number offset bytes) kept none = refl
gives_none (SetSize number size) kept none = refl
gives_none (SetAttributes number o) kept none = refl

-- what is lacking after a point is room for the charge
still_lacks : PayloadsFit → (old mid : Held) (session : ℕ) (c : Call) → IsWorld limits_written mid.world → IsPointed Plain old mid → LacksFirst mid session c → DoesNotFit mid session c
still_lacks fit old mid session c whole p lacks = record {
  outcome = is.outcome;
  decided = is.decided;
  some = is_charged mid.world mid.kept session c is.outcome is.picked change is.decided is.chosen is.is;
  over = told lacks.lacks;
}
  where
    change : Change
    change = lacks.change

    is : IsChangeOf mid.world mid.kept session c change
    is = lacks.is

    spelled : IsSpelled change
    spelled = (can_be_made mid.world mid.kept session c is.outcome is.picked change whole is.decided is.chosen is.is).spelled

    told : Lacks mid change is.outcome → is_fitting mid is.outcome ≡ false
    told (inl none) = absurd (none (subst (λ (at : LogPosition). HasRoom at change) (sym p.log) (empty_has_room fit old.at.blocks (old.at.epoch + 1) change spelled)))
    told (inr (inl over)) = over
    told (inr (inr (inl kept))) = absurd (true≢false (sym kept ∙ gives_none change mid.kept p.fresh.none_kept))
    told (inr (inr (inr over))) = absurd (over p.age)

pub space_answers : (old mid : Held) (session : ℕ) (c : Call) → NeedsRoom old session c → IsPointed Plain old mid → DoesNotFit mid session c → AnswersFrom (Running old.world) (event.Call session c) (refused Enospc) old mid false
space_answers old mid session c needed p over = record {
  met = Some Space;
  fin = old;
  finish = inl refl;
  mid = mid;
  point = inr (needed, made);
  may = ((needed, made, over), ap (λ (s : Status). s.failures) p.costs);
  next = Running old.world;
  step = (subst (λ (w : World). Passes (λ (x : Outcome). 0 < x.charge) limits_written w session c) p.world (over.outcome, over.decided, over.some), record { told = refl; same = refl });
  means = (refl, running_between mid old.world p.fresh.between p.runs);
  lasts = record {
    moments = LeavesOnly-weaker old.disk mid.disk (λ d. IsImage d (settle old.world)) (λ d. ShowsState (Running old.world) d ⊎ ShowsState (Running old.world) d) (λ d h. inl h) (settled_all old mid p);
    answered = runs_show mid old.world p.runs.runs;
  };
  later = later-is _ _ old.status mid.status p.costs;
  leaves = refl;
}
  where
    made : HasMadeRoom old mid
    made = made_point old.world (BuildsFor Plain old) old mid p

-- ---- a point that isn't made

pub not_device : (fault : PointFault) → stops_for fault ≡ false → fault ≢ point.Device
not_device fault runs is = true≢false (subst (λ (f : PointFault). stops_for f ≡ false) is runs)

-- what is left of what is held, in which the world is the same where the disk is
module _ (after : World) (Builds : Layer → Type 0) (old new : Held) (world : new.disk ≡ old.disk → new.world ≡ old.world) (kept : new.kept ≡ old.kept) (since : new.kept_since ≡ old.kept_since) (going : new.point ≡ old.point) (room : new.room ≡ old.room) (base : new.base ≡ old.base) (built : Layer) (builds : Builds built) where
  pub point_unmade : (fault : PointFault) (asked : AskedPoint) (of : World) (settled_is : settle of ≡ settle old.world) → pointed asked of ≡ after → (h : Held) (k : Kept) → h.disk ≡ new.disk → (fault ≢ point.Device → new.at ≡ old.at) → MakesPoint (Err fault) asked of old.disk h k
      → Touches (IsBesideRoot old) old.disk new.disk → HasCauseFor fault old.status new.status → IsLater old.status new.status
      → CostsAtMost (most_writes old.at.blocks (need old.base.root.limits built)) most_syncs old.status new.status → (fault ≡ point.Age → IsLastRoot old.base.root) → IsUnpointedTo fault after Builds old new
  point_unmade point.Memory asked of settled_is after_is h k disk at made touched cause on costs aged = λ i. record { world = world (sym disk ∙ made) i; kept = kept i; kept_since = since i; point = going i; room = room i; at = at (not_device point.Memory refl) i; base = base i; disk = (sym disk ∙ made) i; status = cause i }
  point_unmade point.Age asked of settled_is after_is h k disk at made touched cause on costs aged = (λ i. record { world = world (sym disk ∙ made) i; kept = kept i; kept_since = since i; point = going i; room = room i; at = at (not_device point.Age refl) i; base = base i; disk = (sym disk ∙ made) i; status = cause i }, aged refl)
  point_unmade point.Read asked of settled_is after_is h k disk at made touched cause on costs aged = (λ i. record { world = world (sym disk ∙ made) i; kept = kept i; kept_since = since i; point = going i; room = room i; at = at (not_device point.Read refl) i; base = base i; disk = (sym disk ∙ made) i; status = new.status }, cause)
  point_unmade point.Damaged asked of settled_is after_is h k disk at made touched cause on costs aged = absurd made
  point_unmade point.Device asked of settled_is after_is h k disk at made touched cause on costs aged = record {
    touched = touched;
    built = built;
    builds = builds;
    moments = subst (λ (d : Disk). LeavesOnly old.disk d (EitherImage old.world after)) disk
        (subst (λ (w : World). LeavesOnly old.disk h.disk (λ c. IsImage c (settle old.world) ⊎ IsImage c (settle w))) after_is (subst (λ (w : World). LeavesOnly old.disk h.disk (λ c. IsImage c w ⊎ IsImage c (settle (pointed asked of)))) settled_is made));
    failed = cause;
    later = on;
    costs = costs;
  }

-- ---- an event whose point isn't made

-- what it answers from this world, and what it leaves, where its point isn't made, which is built so
pub record PointEvent (e : Event) (Builds : Layer → Type 0) (old : Held) (w : World) : Type 0 where
  pub needed : NeedsPoint old e
  pub memory : EventStep limits_written (Running w) e (Some Memory) (refused Enomem) (Running w)
  pub read : EventStep limits_written (Running w) e (Some Read) (refused Eio) (Running w)
  pub age : EventStep limits_written (Running w) e (Some Age) (refused Elimit) (Running w)
  pub aged : IsLastRoot old.base.root → LacksAge e old old
  pub after : World
  pub cut : EventStep limits_written (Running w) e (Some Write) (refused Eio) (Stopped (settle w) after)
  pub unchanged : (m : Mishap) (new : Held) → IsUnchanged m old new → Leaves (Running w) e (Some m) (refused (errno_of m)) (Running w) old old new
  pub cut_point : (new : Held) → IsCutPoint Builds old new.disk new.status → Leaves (Running w) e (Some Write) (refused Eio) (Stopped (settle w) after) old old new
  pub cut_finish : (new : Held) → IsCutFinish old e new.disk new.status → Leaves (Running w) e (Some Write) (refused Eio) (Stopped (settle w) after) old old new

-- it was cut off, and either world may be there
pub is_cut : (e : Event) (Builds : Layer → Type 0) (old : Held) (x : PointEvent e Builds old old.world) (new : Held) → LeavesOnly old.disk new.disk (λ c. IsImage c (settle old.world) ⊎ IsImage c x.after) → HasFailed old.status new.status → IsLater old.status new.status
    → Leaves (Running old.world) e (Some Write) (refused Eio) (Stopped (settle old.world) x.after) old old new → AnswersFrom (Running old.world) e (refused Eio) old new true
is_cut e Builds old x new moments failed later leaves =
    let now = LeavesOnly-now old.disk new.disk (λ d. IsImage d (settle old.world) ⊎ IsImage d x.after) moments in
    record {
      met = Some Write;
      fin = old;
      finish = inl refl;
      mid = old;
      point = inl refl;
      may = failed;
      next = Stopped (settle old.world) x.after;
      step = x.cut;
      means = (refl, now);
      lasts = record {
        moments = LeavesOnly-weaker old.disk new.disk (λ d. IsImage d (settle old.world) ⊎ IsImage d x.after) (λ d. ShowsState (Running old.world) d ⊎ ShowsState (Stopped (settle old.world) x.after) d) (λ d h. inr h) moments;
        answered = now;
      };
      later = later;
      leaves = leaves;
    }

-- It is answered at once, and where it was cut off, its point was.
pub record IsUnmade (e : Event) (Builds : Layer → Type 0) (reply : Reply) (old new : Held) (has_stopped : Bool) : Type 0 where
  pub answers : AnswersFrom (Running old.world) e reply old new has_stopped
  pub at_once : (answers.fin ≡ old) × (answers.mid ≡ old)
  pub cut : answers.met ≡ Some Write → IsCutPoint Builds old new.disk new.status

module _ (e : Event) (Builds : Layer → Type 0) (old : Held) (x : PointEvent e Builds old old.world) (between : old.point ≡ None) (r : RunsReady old old.world old.base) where
  abbrev running : RunsWith old.point old old.world
  running = running_between old old.world between r

  not_cut : (m : Mishap) → (m ≡ Write → ⊥) → (new : Held) → Some m ≡ Some Write → IsCutPoint Builds old new.disk new.status
  not_cut m other new same = let is : m ≡ Write = cc in absurd (other is)

  -- nothing has changed
  refuses : (m : Mishap) → (m ≡ Write → ⊥) → IsUnchanged m old old → MayMeet old old e (Some m) old.status → EventStep limits_written (Running old.world) e (Some m) (refused (errno_of m)) (Running old.world) → IsUnmade e Builds (refused (errno_of m)) old old false
  refuses m other is may step = record {
    answers = record {
      met = Some m;
      fin = old;
      finish = inl refl;
      mid = old;
      point = inl refl;
      may = may;
      next = Running old.world;
      step = step;
      means = (refl, running);
      lasts = stays_lasts old false (Running old.world) (refl, running);
      later = later-same old.status old.status refl;
      leaves = x.unchanged m old is;
    };
    at_once = (refl, refl);
    cut = not_cut m other old;
  }

  -- but what the device counts
  cannot_read : (new : Held) → new ≡ record old { status = new.status } → FailsRead old.status new.status → IsUnmade e Builds (refused Eio) old new false
  cannot_read new is fails =
      let told = fails_read old.status new.status fails in
      subst (λ (h : Held). IsUnmade e Builds (refused Eio) old h false) (sym is) (record {
        answers = record {
          met = Some Read;
          fin = old;
          finish = inl refl;
          mid = old;
          point = inl refl;
          may = told.0;
          next = Running old.world;
          step = x.read;
          means = (refl, running_between (record old { status = new.status }) old.world between (ready_with old old.world old.base old.kept old.kept_since old.base old.point new.status r));
          lasts = stays_lasts old false (Running old.world) (refl, running);
          later = told.1;
          leaves = x.unchanged Read (record old { status = new.status }) (refl, fails);
        };
        at_once = (refl, refl);
        cut = not_cut Read (λ e. cc e) (record old { status = new.status });
      })

  is_cut_point : (new : Held) (world_after : World) → ((d : Contents) → EitherImage old.world world_after d → IsImage d (settle old.world) ⊎ IsImage d x.after) → IsCutOffIn world_after Builds old new → IsUnmade e Builds (refused Eio) old new true
  unfolding is_cut
  is_cut_point new world_after shows is =
      let cut : IsCutPoint Builds old new.disk new.status = record { touched = is.touched; built = is.built; builds = is.builds; costs = is.costs } in
      record {
        answers = is_cut e Builds old x new (LeavesOnly-weaker old.disk new.disk (EitherImage old.world world_after) (λ d. IsImage d (settle old.world) ⊎ IsImage d x.after) shows is.moments) is.failed is.later (x.cut_point new cut);
        at_once = (refl, refl);
        cut = λ _. cut;
      }

  pub unpointed_answers : (world_after : World) → ((d : Contents) → EitherImage old.world world_after d → IsImage d (settle old.world) ⊎ IsImage d x.after) → (fault : PointFault) (new : Held) → IsUnpointedTo fault world_after Builds old new → IsUnmade e Builds (refused (errno_of_point fault)) old new (stops_for fault)
  unpointed_answers world_after shows point.Memory new is = subst (λ (h : Held). IsUnmade e Builds (refused Enomem) old h false) (sym is) (refuses Memory (λ e. cc e) refl refl x.memory)
  unpointed_answers world_after shows point.Age new is = subst (λ (h : Held). IsUnmade e Builds (refused Elimit) old h false) (sym is.0) (refuses Age (λ e. cc e) refl (x.aged is.1, refl) x.age)
  unpointed_answers world_after shows point.Read new is = cannot_read new is.0 is.1
  unpointed_answers world_after shows point.Damaged new is = absurd is
  unpointed_answers world_after shows point.Device new is = is_cut_point new world_after shows is

-- ---- a call

-- one that is refused leaves what is held
pub unchanged_call : (old : Held) (session : ℕ) (c : Call) (m : Mishap) (new : Held) → IsUnchanged m old new → LeavesCall old old session c (Some m) new
unchanged_call old session c Memory new is = is
unchanged_call old session c Read new is = is
unchanged_call old session c Write new is = absurd is
unchanged_call old session c Space new is = is
unchanged_call old session c Age new is = is

pub call_point : (old : Held) (session : ℕ) (c : Call) → IsCall c → IsWorld limits_written old.world → LacksFirst old session c → PointEvent (event.Call session c) (BuildsFor Plain old) old old.world
call_point old session c numbers whole needed = record {
  needed = inl needed;
  memory = (takes, record { told = refl; same = refl });
  read = (takes, record { told = refl; same = refl });
  age = ((o, is.decided, inl charged), record { told = refl; same = refl });
  aged = λ last. (inl needed, last);
  after = settle next;
  cut = record { passes = (o, is.decided, inl charged); next = next; comes = comes old session c o is.picked needed.change numbers whole is.decided is.chosen is.is can.tree can.applied; stops = record { told = refl; left = refl } };
  unchanged = unchanged_call old session c;
  cut_point = λ new cut. inr (inr (inl (inl needed, cut)));
  cut_finish = λ new cut. inr (inr (inr cut));
}
  where
    is : IsChangeOf old.world old.kept session c needed.change
    is = needed.is

    o : Outcome
    o = is.outcome

    can : CanBeMade old.world needed.change
    can = can_be_made old.world old.kept session c o is.picked needed.change whole is.decided is.chosen is.is

    next : World
    next = next_with old session c o is.picked needed.change numbers whole is.decided is.chosen is.is can.tree

    charged : 0 < o.charge
    charged = is_charged old.world old.kept session c o is.picked needed.change is.decided is.chosen is.is

    takes : TakesMemory c × IsOk (ready old.world session c)
    takes = change_takes old.world old.kept session c o is.picked needed.change is.decided is.chosen is.is

unpointed_call : (old new : Held) (session : ℕ) (c : Call) (fault : PointFault) → IsCall c → IsWorld limits_written old.world → LacksFirst old session c → old.point ≡ None → RunsReady old old.world old.base → IsUnpointed fault Plain old new
    → AnswersFrom (Running old.world) (event.Call session c) (refused (errno_of_point fault)) old new (stops_for fault)
unpointed_call old new session c fault numbers whole needed between r is = (unpointed_answers (event.Call session c) (BuildsFor Plain old) old (call_point old session c numbers whole needed) between r old.world (λ d either. inl (either_same either)) fault new is).answers

-- room can be made of any world
pub can_make_room : (old : Held) → IsWorld limits_written old.world → CanPoint Plain old.world
can_make_room old whole = record { can = tt; whole = whole; other = refl }

-- the same in each world that is meant
pub call_behind : (old mid new : Held) (session : ℕ) (c : Call) (reply : Reply) (has_stopped : Bool) → IsWorld limits_written old.world → old.point ≡ None → LacksFirst old session c → Points (Ok tt) Plain old mid → Serves (Some reply) mid session c new has_stopped → Answers (event.Call session c) reply old false new has_stopped
call_behind old mid new session c reply has_stopped whole between needed points serves =
    in_its_world (event.Call session c) old new reply has_stopped between (λ r. let p = points r (can_make_room old whole) in behind_point old mid new session c (inl needed) p (serves (Running old.world) (refl, running_between mid old.world p.fresh.between p.runs)))

pub call_without_room : PayloadsFit → (old mid new : Held) (session : ℕ) (c : Call) → IsWorld limits_written old.world → IsWorld limits_written mid.world → old.point ≡ None → LacksFirst old session c → Points (Ok tt) Plain old mid → Serves None mid session c new false → Answers (event.Call session c) (refused Enospc) old false new false
call_without_room fit old mid new session c before whole between needed points serves =
    subst (λ (h : Held). Answers (event.Call session c) (refused Enospc) old false h false) (sym serves.1)
    (in_its_world (event.Call session c) old mid (refused Enospc) false between (λ r. let p = points r (can_make_room old before) in space_answers old mid session c (inl needed) p (still_lacks fit old mid session c whole p serves.0)))

pub call_unpointed : (old new : Held) (session : ℕ) (c : Call) (fault : PointFault) → IsCall c → IsWorld limits_written old.world → old.point ≡ None → LacksFirst old session c → Points (Err fault) Plain old new → Answers (event.Call session c) (refused (errno_of_point fault)) old false new (stops_for fault)
call_unpointed old new session c fault numbers whole between needed points =
    in_its_world (event.Call session c) old new (refused (errno_of_point fault)) (stops_for fault) between (λ r. unpointed_call old new session c fault numbers whole needed between r (points r (can_make_room old whole)))

-- ---- a restart whose unmount is refused

pub unmount_point : (old : Held) → PointEvent event.Restart (BuildsLast old) old old.world
unmount_point old = record {
  needed = tt;
  memory = inl (record { told = refl; same = refl });
  read = inl (record { told = refl; same = refl });
  age = inl (record { told = refl; same = refl });
  aged = λ last. last;
  after = settle old.world;
  cut = inl (record { told = refl; left = refl });
  unchanged = unchanged;
  cut_point = λ new cut. inl cut;
  cut_finish = λ new cut. inr cut;
}
  where
    unchanged : (m : Mishap) (new : Held) → IsUnchanged m old new → LeavesRestart old old (Some m) (Running old.world) new
    unchanged Memory new is = is
    unchanged Read new is = is
    unchanged Write new is = absurd is
    unchanged Space new is = is
    unchanged Age new is = is

pub unpointed_restart : (old new : Held) (fault : PointFault) → old.point ≡ None → RunsReady old old.world old.base → IsUnpointedLast fault old new
    → AnswersFrom (Running old.world) event.Restart (refused (errno_of_point fault)) old new (stops_for fault)
unpointed_restart old new fault between r is = (unpointed_answers event.Restart (BuildsLast old) old (unmount_point old) between r (settle old.world) (λ d either. inl (settles_same old.world either)) fault new is).answers
