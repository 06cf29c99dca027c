-- What an event takes off the steps that a point in progress has left.
use Rattle.std.proofs.Common.{◌≡◌, ◌⊎◌, inl, inr, ℕ, ◌+◌, ◌≤◌, false, true, if◌then◌else◌, Bool, Option, Some, None, refl, sym, ap, subst, ◌∙◌, arith, ◌<◌}
use Rattle.std.specs.Prelude.{nat_lt, MatchBool}
use Rattle.std.proofs.lemmas.Bool.{true≢false}
use Rattle.sn_block.specs.Counts.{called, FailsRead}
use Rattle.sn_device.specs.declared.status.Status.{Status}
use Rattle.sn_layout.specs.declared.gate.Gate.{Gate}
use Rattle.sn_layout.specs.declared.gate.Gate.TheVariants.{Open, Closed}
use Rattle.sn_layout.specs.Geometry.{map_blocks}
use Rattle.sn_limits.specs.Versions.{limits_written}
use Rattle.sn_model.specs.declared.call.Call.{Call}
use Rattle.sn_model.specs.declared.call.Event.{Event}
use Rattle.sn_model.specs.declared.call.Event.TheVariants as event
use Rattle.sn_model.specs.declared.reply.Progress.TheVariants as progress
use Rattle.sn_model.specs.declared.reply.Reply.{Reply}
use Rattle.sn_model.specs.declared.reply.Reply.TheVariants as answer
use Rattle.sn_model.specs.Machine.{State, Running, Stopped, Mishap, Memory, Read, Write, Space, Age, EventStep, refused}
use Rattle.sn_model.specs.World.{World}
use Rattle.sn_overlay.specs.Needs.{need}
use Rattle.sn_root.specs.Replacing.{closing_writes}
use Rattle.sn_cp.specs.Points.{Work}
use Rattle.sn_cp.specs.Steps.{syncs_of, writes_of, IsWithin}
use Rattle.sn_cp.specs.declared.stage.Stage.{Stage}
use Rattle.sn_cp.specs.declared.stage.Stage.TheVariants.{Blocks, MapBlocks, Stored, Shut, Bodied, Done}
use Rattle.sn_cp.proofs.CountLemmas.{steps_counted, steps_few}
use Rattle.sn_cp_progress.specs.Meaning.{Means, RunsWith}
use Rattle.sn_examine.specs.Failing.{CostsAtMost}
use Rattle.sn_held.specs.Held.{Going, Held}
use Rattle.sn_events.specs.Answers.{AnswersFrom, HasBegun, HasFinished, HasGoneOn, HasLogged, HasStepped, HasTold, IsBehindFinish, IsBehindPoint, IsUnchanged, Leaves, LeavesRestart, LeavesStep, counts_down, left_of, IsChangeOf, IsCutCall, LeavesCall, MakesFirst, NeedsPoint}
use Rattle.sn_device.specs.Status.{has_ended, one_failure}
use Rattle.sn_cp.specs.Counting.{syncs_left, writes_left}
use Rattle.sn_model.specs.declared.reply.Errno.{Errno}
use Rattle.sn_model.specs.declared.reply.Errno.TheVariants.{Eio, Elimit, Enomem}
use Rattle.sn_model.specs.declared.change.Change.{Change}
use Rattle.sn_model.specs.Worlds.{IsWorld}
use Rattle.sn_record.specs.Payload.{IsSpelled, PayloadsFit}
use Rattle.sn_events.specs.Answers.{writes_of as record_writes}
use Rattle.sn_events.proofs.DecisionLemmas.{can_be_made}
use Rattle.sn_events.proofs.PointLemmas.{needs_room}

-- ---- what is unchanged

pub same_point : (m : Mishap) (old new : Held) → IsUnchanged m old new → new.point ≡ old.point
same_point Memory old new is = ap (λ (h : Held). h.point) is
same_point Read old new is = ap (λ (h : Held). h.point) is.0
same_point Write old new is = absurd is
same_point Space old new is = ap (λ (h : Held). h.point) is
same_point Age old new is = ap (λ (h : Held). h.point) is

same_told : (session : ℕ) (c : Call) (old new : Held) → HasTold session c old new ⊎ HasLogged session c old new → new.point ≡ old.point
same_told session c old new (inl told) = ap (λ (h : Held). h.point) told.drops.is
same_told session c old new (inr logged) = ap (λ (h : Held). h.point) logged.drops.is

not_stopped : {A : Type 0} (new : Held) (before after : World) (s : State) → s ≡ Stopped before after → Means new false s → A
not_stopped new before after s is m = absurd (true≢false (sym (subst (Means new false) is m).0))

-- ---- one event, where a point is in progress before and after it

-- after the point that an event makes first none is in progress
first_between : (s : State) (e : Event) (old mid : Held) → MakesFirst s e old mid → mid.point ≡ None
first_between (Running w) (event.Call session c) old mid made = made.1.fresh.between
first_between (Running w) event.Step old mid made = absurd made
first_between (Running w) event.Restart old mid made = made.fresh.between
first_between (Stopped before after) e old mid made = absurd made

module _ (old new : Held) (going next : Going) (is : old.point ≡ Some going) (there : new.point ≡ Some next) where
  never : {A : Type 0} → new.point ≡ None → A
  never none = let absent : Some next ≡ None = sym there ∙ none in absurd cc

  keeps : (s : State) (e : Event) (fin mid : Held) → IsBehindFinish s e old fin → IsBehindPoint s e fin mid → new.point ≡ mid.point → new.point ≡ old.point
  keeps s e fin mid (inl f) (inl p) here = here ∙ ap (λ (h : Held). h.point) p ∙ ap (λ (h : Held). h.point) f
  keeps s e fin mid (inr f) (inl p) here = never (here ∙ ap (λ (h : Held). h.point) p ∙ f.2.point)
  keeps s e fin mid f (inr p) here = never (here ∙ first_between s e fin mid p)

  stays : (e : Event) (reply : Reply) → counts_down e reply ≡ 0 → new.point ≡ old.point → left_of new.point + counts_down e reply ≡ left_of old.point
  stays e reply none same = omega (arith, none, ap left_of same)

  gone_on : (w : World) (reply : Reply) → reply ≡ answer.Progress progress.More → RunsWith old.point old w → HasGoneOn old new → left_of new.point + counts_down event.Step reply ≡ left_of old.point
  gone_on w reply more runs gone =
      let on : RunsWith (Some gone.going) old w = subst (λ (p : Option Going). RunsWith p old w) gone.is runs in
      let fewer = steps_counted gone.going.work gone.going.stage on.1.point.of.whole on.1.point.within in
      let now = ap (λ (h : Held). left_of h.point) gone.held in
      omega (arith, fewer, now, ap left_of gone.is, ap (counts_down event.Step) more)

  stepped : (w : World) (reply : Reply) → RunsWith old.point old w → HasStepped reply old new → left_of new.point + counts_down event.Step reply ≡ left_of old.point
  stepped w reply runs s = told s.told
    where
      told : ((reply ≡ answer.Progress progress.More) × (HasBegun old new ⊎ HasGoneOn old new)) ⊎ ((reply ≡ answer.Progress progress.Done) × ((finished : HasFinished old new) × (finished.going.stage ≡ Bodied))) → left_of new.point + counts_down event.Step reply ≡ left_of old.point
      told (inl (more, inl begun)) = let absent : Some going ≡ None = sym is ∙ begun.between in absurd cc
      told (inl (more, inr gone)) = gone_on w reply more runs gone
      told (inr (done, ended)) = never ended.0.point

  counted : (s : State) (e : Event) (met : Option Mishap) (reply : Reply) (state : State) (fin mid : Held) → IsBehindFinish s e old fin → IsBehindPoint s e fin mid → EventStep limits_written s e met reply state → Means old false s → Means new false state → Leaves s e met reply state fin mid new
      → left_of new.point + counts_down e reply ≡ left_of old.point
  counted (Stopped before after) e met reply state fin mid f p step m n l = absurd (true≢false (sym m.0))
  counted (Running w) (event.Call session c) None reply state fin mid f p step m n (inl l) = never l.made.fresh.between
  counted (Running w) (event.Call session c) None reply state fin mid f p step m n (inr l) = stays (event.Call session c) reply refl (keeps (Running w) (event.Call session c) fin mid f p (same_told session c mid new l.1))
  counted (Running w) (event.Call session c) (Some Memory) reply state fin mid f p step m n l = stays (event.Call session c) reply refl (keeps (Running w) (event.Call session c) fin mid f p (same_point Memory mid new l))
  counted (Running w) (event.Call session c) (Some Read) reply state fin mid f p step m n l = stays (event.Call session c) reply refl (keeps (Running w) (event.Call session c) fin mid f p (same_point Read mid new l))
  counted (Running w) (event.Call session c) (Some Write) reply state fin mid f p step m n l = not_stopped new _ _ state step.stops.left n
  counted (Running w) (event.Call session c) (Some Space) reply state fin mid f p step m n l = stays (event.Call session c) reply refl (keeps (Running w) (event.Call session c) fin mid f p (same_point Space mid new l))
  counted (Running w) (event.Call session c) (Some Age) reply state fin mid f p step m n l = stays (event.Call session c) reply refl (keeps (Running w) (event.Call session c) fin mid f p (same_point Age mid new l))
  counted (Running w) event.Step None reply state fin mid (inl f) p step m n l = stepped w reply m.1 (subst (λ (h : Held). HasStepped reply h new) f l)
  counted (Running w) event.Step (Some Memory) reply state fin mid (inl f) p step m n l = stays event.Step reply (ap (counts_down event.Step) step.told) (same_point Memory old new (subst (λ (h : Held). IsUnchanged Memory h new) f l))
  counted (Running w) event.Step (Some Read) reply state fin mid (inl f) p step m n l = stays event.Step reply (ap (counts_down event.Step) step.told) (same_point Read old new (subst (λ (h : Held). IsUnchanged Read h new) f l))
  counted (Running w) event.Step (Some Write) reply state fin mid (inl f) p step m n l = not_stopped new _ _ state step.left n
  counted (Running w) event.Step (Some Space) reply state fin mid (inl f) p step m n l = absurd step
  counted (Running w) event.Step (Some Age) reply state fin mid (inl f) p step m n l = stays event.Step reply (ap (counts_down event.Step) step.told) (same_point Age old new (subst (λ (h : Held). IsUnchanged Age h new) f l))
  counted (Running w) event.Step met reply state fin mid (inr f) p step m n l = absurd f.0
  counted (Running w) event.Restart None reply state fin mid f p step m n l = never (subst (λ (s : State). LeavesRestart fin mid None s new) step.1 l).1.fresh.between
  counted (Running w) event.Restart (Some Memory) reply state fin mid f p (inl step) m n l = stays event.Restart reply refl (keeps (Running w) event.Restart fin fin f (inl refl) (same_point Memory fin new (subst (λ (s : State). LeavesRestart fin mid (Some Memory) s new) step.same l)))
  counted (Running w) event.Restart (Some Read) reply state fin mid f p (inl step) m n l = stays event.Restart reply refl (keeps (Running w) event.Restart fin fin f (inl refl) (same_point Read fin new (subst (λ (s : State). LeavesRestart fin mid (Some Read) s new) step.same l)))
  counted (Running w) event.Restart (Some Write) reply state fin mid f p (inl step) m n l = not_stopped new _ _ state step.left n
  counted (Running w) event.Restart (Some Space) reply state fin mid f p (inl step) m n l = absurd step
  counted (Running w) event.Restart (Some Age) reply state fin mid f p (inl step) m n l = stays event.Restart reply refl (keeps (Running w) event.Restart fin fin f (inl refl) (same_point Age fin new (subst (λ (s : State). LeavesRestart fin mid (Some Age) s new) step.same l)))
  counted (Running w) event.Restart (Some met) reply state fin mid f p (inr step) m n l = not_stopped new _ _ state step.3 n

-- so it is of an event that is answered from a state that is meant
pub counts_event : (s : State) (e : Event) (reply : Reply) (old new : Held) (going next : Going) → old.point ≡ Some going → new.point ≡ Some next → Means old false s → AnswersFrom s e reply old new false → left_of new.point + counts_down e reply ≡ left_of old.point
counts_event s e reply old new going next is there m a = counted old new going next is there s e a.met reply a.next a.fin a.mid a.finish a.point a.step m a.means a.leaves

-- a point that has begun has at most this many steps left
pub begun_few : (old new : Held) → HasBegun old new → left_of new.point + 1 ≤ need old.base.root.limits old.base.changed + map_blocks old.at.blocks + 4
begun_few old new begun =
    let few = steps_few begun.going.work begun.going.stage in
    let left = ap left_of begun.is in
    let size = ap map_blocks begun.size in
    omega (arith, few, left, size, begun.few)

-- ---- what a step costs

few_calls : (w : Work) (stage : Stage) → (writes_of w stage ≤ 8) × (syncs_of w stage ≤ 1)
few_calls w (Blocks k) = (omega arith, omega arith)
few_calls w (MapBlocks k) = (omega arith, one_sync (nat_lt (k + 1) (map_blocks w.blocks)))
  where
    one_sync : (more : Bool) → (if more then 0 else 1) ≤ 1
    one_sync true = omega arith
    one_sync false = omega arith
few_calls w Stored = (closing w.gate, omega arith)
  where
    closing : (gate : Gate) → closing_writes gate ≤ 8
    closing Open = omega arith
    closing Closed = omega arith
few_calls w Shut = (omega arith, omega arith)
few_calls w Bodied = (omega arith, omega arith)
few_calls w Done = (omega arith, omega arith)

-- at most these writes and syncs
costs_called : (writes syncs : ℕ) (old new : Status) → new ≡ called writes syncs old → writes ≤ 8 → syncs ≤ 1 → CostsAtMost 8 1 old new
costs_called writes syncs old new is few one =
    let w = ap (λ (s : Status). s.writes) is in
    let y = ap (λ (s : Status). s.syncs) is in
    record { writes = omega (arith, w, few); syncs = omega (arith, y, one) }

costs_same : (old new : Status) → new.writes ≡ old.writes → new.syncs ≡ old.syncs → CostsAtMost 8 1 old new
costs_same old new w y = record { writes = omega (arith, w); syncs = omega (arith, y) }

read_idle : (old new : Status) → FailsRead old new → CostsAtMost 8 1 old new
read_idle old new fails = told (has_ended old) fails
  where
    told : (ended : Bool) → MatchBool ended (new ≡ old) (new ≡ one_failure old) → CostsAtMost 8 1 old new
    told true same = costs_same old new (ap (λ (s : Status). s.writes) same) (ap (λ (s : Status). s.syncs) same)
    told false same = costs_same old new (ap (λ (s : Status). s.writes) same) (ap (λ (s : Status). s.syncs) same)

more_is_done : answer.Progress progress.More ≡ answer.Progress progress.Done → ⊥
more_is_done e = cc

more_is_refused : (errno : Errno) → answer.Progress progress.More ≡ refused errno → ⊥
more_is_refused errno e = cc

-- a stage that has a step writes something
some_writes : (w : Work) (stage : Stage) → IsWithin w stage → 0 < writes_of w stage
some_writes w (Blocks k) within = omega arith
some_writes w (MapBlocks k) within = omega arith
some_writes w Stored within = omega (arith, ap closing_writes within)
some_writes w Shut within = omega arith
some_writes w Bodied within = omega arith
some_writes w Done within = absurd within

module _ (old new : Held) where
  idle : new ≡ old → CostsAtMost 8 1 old.status new.status
  idle same = costs_same old.status new.status (ap (λ (h : Held). h.status.writes) same) (ap (λ (h : Held). h.status.syncs) same)

  ended_costs : (finished : HasFinished old new) → finished.going.stage ≡ Bodied → CostsAtMost 8 1 old.status new.status
  ended_costs finished last =
      let going = finished.going in
      let writes : writes_left going.work going.stage ≡ 1 = ap (writes_left going.work) last in
      let syncs : syncs_left going.work going.stage ≡ 1 = ap (syncs_left going.work) last in
      costs_called (writes_left going.work going.stage) (syncs_left going.work going.stage) old.status new.status finished.costs (omega (arith, writes)) (omega (arith, syncs))

  made_costs : HasBegun old new ⊎ HasGoneOn old new → CostsAtMost 8 1 old.status new.status
  made_costs (inl begun) = costs_called 1 1 old.status new.status begun.costs (omega arith) (omega arith)
  made_costs (inr gone) = let few = few_calls gone.going.work gone.going.stage in costs_called _ _ old.status new.status gone.costs few.0 few.1

  stepped_costs : (reply : Reply) → HasStepped reply old new → CostsAtMost 8 1 old.status new.status
  stepped_costs reply s = told s.told
    where
      told : ((reply ≡ answer.Progress progress.More) × (HasBegun old new ⊎ HasGoneOn old new)) ⊎ ((reply ≡ answer.Progress progress.Done) × ((finished : HasFinished old new) × (finished.going.stage ≡ Bodied))) → CostsAtMost 8 1 old.status new.status
      told (inl (more, made)) = made_costs made
      told (inr (done, ended)) = ended_costs ended.0 ended.1

  left_costs : (w : World) (met : Option Mishap) (reply : Reply) (state : State) → EventStep limits_written (Running w) event.Step met reply state → LeavesStep old met reply new → CostsAtMost 8 1 old.status new.status
  left_costs w None reply state step l = stepped_costs reply l
  left_costs w (Some Memory) reply state step l = idle l
  left_costs w (Some Read) reply state step l = read_idle old.status new.status l.1
  left_costs w (Some Write) reply state step l = l.1
  left_costs w (Some Space) reply state step l = absurd step
  left_costs w (Some Age) reply state step l = idle l

  step_costs : (s : State) (met : Option Mishap) (reply : Reply) (state : State) (fin mid : Held) → IsBehindFinish s event.Step old fin → IsBehindPoint s event.Step fin mid → EventStep limits_written s event.Step met reply state → Leaves s event.Step met reply state fin mid new → CostsAtMost 8 1 old.status new.status
  step_costs (Stopped before after) met reply state fin mid (inl f) (inl p) step l = idle (l ∙ p ∙ f)
  step_costs (Stopped before after) met reply state fin mid (inr f) p step l = absurd f.0
  step_costs (Stopped before after) met reply state fin mid (inl f) (inr p) step l = absurd p
  step_costs (Running w) met reply state fin mid (inl f) p step l = left_costs w met reply state step (subst (λ (h : Held). LeavesStep h met reply new) f l)
  step_costs (Running w) met reply state fin mid (inr f) p step l = absurd f.0

  -- one that says that there is more has written something
  more_writes : (w : World) → RunsWith old.point old w → HasBegun old new ⊎ HasGoneOn old new → old.status.writes < new.status.writes
  more_writes w runs (inl begun) = omega (arith, ap (λ (s : Status). s.writes) begun.costs)
  more_writes w runs (inr gone) =
      let on : RunsWith (Some gone.going) old w = subst (λ (p : Option Going). RunsWith p old w) gone.is runs in
      omega (arith, ap (λ (s : Status). s.writes) gone.costs, some_writes gone.going.work gone.going.stage on.1.point.within)

-- a step makes at most eight writes and a sync, however it is answered
pub steps_small : (s : State) (reply : Reply) (old new : Held) (has_stopped : Bool) → AnswersFrom s event.Step reply old new has_stopped → CostsAtMost 8 1 old.status new.status
steps_small s reply old new has_stopped a = step_costs old new s a.met reply a.next a.fin a.mid a.finish a.point a.step a.leaves

-- and at least one, where it says that there is more
pub steps_write : (s : State) (old new : Held) (has_stopped : Bool) → Means old false s → AnswersFrom s event.Step (answer.Progress progress.More) old new has_stopped → old.status.writes < new.status.writes
steps_write (Stopped before after) old new has_stopped m a = absurd (true≢false (sym m.0))
steps_write (Running w) old new has_stopped m a = told a.met a.finish a.step a.leaves
  where
    more : (fin : Held) → fin ≡ old → HasStepped (answer.Progress progress.More) fin new → old.status.writes < new.status.writes
    more fin f l = from (subst (λ (h : Held). HasStepped (answer.Progress progress.More) h new) f l).told
      where
        from : ((answer.Progress progress.More ≡ answer.Progress progress.More) × (HasBegun old new ⊎ HasGoneOn old new)) ⊎ ((answer.Progress progress.More ≡ answer.Progress progress.Done) × ((finished : HasFinished old new) × (finished.going.stage ≡ Bodied))) → old.status.writes < new.status.writes
        from (inl (is, made)) = more_writes old new w m.1 made
        from (inr (is, ended)) = absurd (more_is_done is)

    told : (met : Option Mishap) → IsBehindFinish (Running w) event.Step old a.fin → EventStep limits_written (Running w) event.Step met (answer.Progress progress.More) a.next → LeavesStep a.fin met (answer.Progress progress.More) new → old.status.writes < new.status.writes
    told met (inr f) step l = absurd f.0
    told None (inl f) step l = more a.fin f l
    told (Some Memory) (inl f) step l = absurd (more_is_refused Enomem step.told)
    told (Some Read) (inl f) step l = absurd (more_is_refused Eio step.told)
    told (Some Write) (inl f) step l = absurd (more_is_refused Eio step.told)
    told (Some Space) (inl f) step l = absurd step
    told (Some Age) (inl f) step l = absurd (more_is_refused Elimit step.told)

-- ---- what a call costs that makes no point

-- a record has at most this many sectors
record_few : PayloadsFit → (change : Change) → IsSpelled change → record_writes change ≤ 131
record_few fit change spelled = let longest = (fit change spelled).1 in omega (arith, longest)

record_costs : (writes syncs : ℕ) (old new : Status) → new ≡ called writes syncs old → writes ≤ 131 → syncs ≤ 2 → CostsAtMost 131 2 old new
record_costs writes syncs old new is few two =
    let w = ap (λ (s : Status). s.writes) is in
    let y = ap (λ (s : Status). s.syncs) is in
    record { writes = omega (arith, w, few); syncs = omega (arith, y, two) }

more_costs : (old new : Status) → CostsAtMost 8 1 old new → CostsAtMost 131 2 old new
more_costs old new costs = let w = costs.writes in let y = costs.syncs in record { writes = omega (arith, w); syncs = omega (arith, y) }

module _ (fit : PayloadsFit) (old new : Held) (session : ℕ) (c : Call) (whole : IsWorld limits_written old.world) (alone : NeedsPoint old (event.Call session c) → ⊥) where
  few_for : (change : Change) → IsChangeOf old.world old.kept session c change → record_writes change ≤ 131
  few_for change is = record_few fit change (can_be_made old.world old.kept session c is.outcome is.picked change whole is.decided is.chosen is.is).spelled

  told_costs : HasTold session c old new ⊎ HasLogged session c old new → CostsAtMost 131 2 old.status new.status
  told_costs (inl told) = more_costs old.status new.status (costs_same old.status new.status (ap (λ (h : Held). h.status.writes) told.drops.is) (ap (λ (h : Held). h.status.syncs) told.drops.is))
  told_costs (inr logged) = record_costs (record_writes logged.change) 2 old.status new.status (ap (λ (h : Held). h.status) logged.drops.is) (few_for logged.change logged.is) (omega arith)

  cut_costs : IsCutCall old old session c new.disk new.status → CostsAtMost 131 2 old.status new.status
  cut_costs (inl tried) =
      let few = few_for tried.change tried.is in
      let w = tried.costs.writes in
      let y = tried.costs.syncs in
      record { writes = omega (arith, w, few); syncs = omega (arith, y) }
  cut_costs (inr (inl cut)) = absurd (alone (inr cut.0))
  cut_costs (inr (inr (inl cut))) = absurd (alone (needs_room old session c cut.0))
  cut_costs (inr (inr (inr cut))) = absurd (alone cut.needed)

  call_costs : (w : World) (met : Option Mishap) (reply : Reply) (state : State) → EventStep limits_written (Running w) (event.Call session c) met reply state → LeavesCall old old session c met new → CostsAtMost 131 2 old.status new.status
  call_costs w None reply state step (inl l) = absurd (alone (inr l.asked))
  call_costs w None reply state step (inr l) = told_costs l.1
  call_costs w (Some Memory) reply state step l = more_costs old.status new.status (idle old new l)
  call_costs w (Some Read) reply state step l = more_costs old.status new.status (read_idle old.status new.status l.1)
  call_costs w (Some Write) reply state step l = cut_costs l
  call_costs w (Some Space) reply state step l = more_costs old.status new.status (idle old new l)
  call_costs w (Some Age) reply state step l = more_costs old.status new.status (idle old new l)

  pub calls_small : (s : State) (reply : Reply) (has_stopped : Bool) → AnswersFrom s (event.Call session c) reply old new has_stopped → CostsAtMost 131 2 old.status new.status
  calls_small s reply has_stopped a = told s a.finish a.point a.step a.leaves
    where
      told : (s : State) → IsBehindFinish s (event.Call session c) old a.fin → IsBehindPoint s (event.Call session c) a.fin a.mid → EventStep limits_written s (event.Call session c) a.met reply a.next → Leaves s (event.Call session c) a.met reply a.next a.fin a.mid new → CostsAtMost 131 2 old.status new.status
      told (Stopped before after) (inl f) (inl p) step l = more_costs old.status new.status (idle old new (l ∙ p ∙ f))
      told (Stopped before after) (inr f) p step l = absurd f.0
      told (Stopped before after) (inl f) (inr p) step l = absurd p
      told (Running w) (inr f) p step l = absurd (alone f.1)
      told (Running w) (inl f) (inr p) step l = absurd (alone (subst (λ (h : Held). NeedsPoint h (event.Call session c)) f (needs_room a.fin session c p.0)))
      told (Running w) (inl f) (inl p) step l = call_costs w a.met reply a.next step (subst (λ (h : Held). LeavesCall old h session c a.met new) (p ∙ f) (subst (λ (h : Held). LeavesCall h a.mid session c a.met new) f l))
