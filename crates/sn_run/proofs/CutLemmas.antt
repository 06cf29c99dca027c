-- What a crash in an event leaves, in the machine's words.
use Rattle.std.proofs.Common.{◌≡◌, ◌⊎◌, inl, inr, ℕ, List, [], ◌∷◌, ◌++◌, Option, Some, None, Result, refl, sym, ap, subst, ◌∙◌, replicate}
use Rattle.std.specs.FinMap as map
use Rattle.sn_device.specs.Sectors.{Contents}
use Rattle.sn_device.specs.Disk.{Disk}
use Rattle.sn_device.specs.Crash.{LeavesOnly}
use Rattle.sn_device.proofs.CrashLemmas.{LeavesOnly-weaker}
use Rattle.sn_limits.specs.Versions.{limits_written}
use Rattle.sn_model.specs.declared.call.Call.{Call}
use Rattle.sn_model.specs.declared.call.Event.{Event}
use Rattle.sn_model.specs.declared.call.Event.TheVariants as event
use Rattle.sn_model.specs.declared.outcome.Outcome.{Outcome}
use Rattle.sn_model.specs.declared.reply.Refusal.{Refusal}
use Rattle.sn_model.specs.declared.reply.Reply.{Reply}
use Rattle.sn_model.specs.Machine as machine
use Rattle.sn_model.specs.Machine.{State, Running, Stopped, Mishap, Anything, CallStep, CutRun, EventStep, IsCutOff, IsRefused, IsStopped, Left, LeftIn, PointFails, Run, RunBy, StepOf}
use Rattle.sn_model.specs.Settling.{settle, settled}
use Rattle.sn_model.specs.Steps.{Becomes}
use Rattle.sn_model.specs.Tree.{Tree}
use Rattle.sn_model.specs.World.{World}
use Rattle.sn_events.proofs.UnmountLemmas.{settled_twice, settles_twice}
use Rattle.sn_ondisk.specs.Trees.{store_of}
use Rattle.sn_opening.specs.Worlds.{frozen_of}
use Rattle.sn_held.specs.Images.{IsImage}
use Rattle.sn_held.specs.Moments.{ShowsState}
use Rattle.sn_caller.proofs.StepLemmas.{run_more}
use Rattle.sn_run.specs.Places.{Moves, Place}
use Rattle.sn_run.specs.Runs.{Goes, LeavesFrom, ShowsCut, Standing}

-- the worlds of a stopped machine are settled
abbrev pub AreSettled : State → Type 0
AreSettled (Running w) = Unit {0}
AreSettled (Stopped before after) = (settle before ≡ before) × (settle after ≡ after)

stopped_settled : (a b : World) (reply : Reply) (next : State) → IsStopped (settle a) (settle b) reply next → AreSettled next
stopped_settled a b reply next h = subst AreSettled (sym h.left) (settles_twice a, settles_twice b)

refused_settled : (old : World) (m : Mishap) (reply : Reply) (next : State) → IsRefused old m reply next → AreSettled next
refused_settled old m reply next h = subst AreSettled (sym h.same) tt

call_settled : (old : World) (session : ℕ) (c : Call) (met : Option Mishap) (reply : Reply) (next : State) → CallStep limits_written old session c met reply next → AreSettled next
call_settled old session c None reply next h = subst AreSettled (sym h.2) tt
call_settled old session c (Some machine.Write) reply next h = stopped_settled old h.next reply next h.stops
call_settled old session c (Some machine.Memory) reply next h = refused_settled old machine.Memory reply next h.1
call_settled old session c (Some machine.Read) reply next h = refused_settled old machine.Read reply next h.1
call_settled old session c (Some machine.Space) reply next h = refused_settled old machine.Space reply next h.1
call_settled old session c (Some machine.Age) reply next h = refused_settled old machine.Age reply next h.1

fails_settled : (old : World) (m : Mishap) (reply : Reply) (next : State) → PointFails old m reply next → AreSettled next
fails_settled old machine.Write reply next h = stopped_settled old old reply next h
fails_settled old machine.Space reply next h = absurd h
fails_settled old machine.Memory reply next h = refused_settled old machine.Memory reply next h
fails_settled old machine.Read reply next h = refused_settled old machine.Read reply next h
fails_settled old machine.Age reply next h = refused_settled old machine.Age reply next h

pub step_settled : (s : State) (e : Event) (met : Option Mishap) (reply : Reply) (next : State) → AreSettled s → EventStep limits_written s e met reply next → AreSettled next
step_settled (Running old) (event.Call session c) met reply next here h = call_settled old session c met reply next h
step_settled (Running old) event.Step None reply next here h = subst AreSettled (sym h.1) tt
step_settled (Running old) event.Step (Some m) reply next here h = fails_settled old m reply next h
step_settled (Running old) event.Restart None reply next here h = subst AreSettled (sym h.1) tt
step_settled (Running old) event.Restart (Some m) reply next here (inl h) = fails_settled old m reply next h
step_settled (Running old) event.Restart (Some m) reply next here (inr h) = subst AreSettled (sym h.3) (settles_twice old, settles_twice old)
step_settled (Stopped before after) (event.Call session c) None reply next here h = subst AreSettled (sym h.1) here
step_settled (Stopped before after) (event.Call session c) (Some m) reply next here h = absurd h
step_settled (Stopped before after) event.Step None reply next here h = subst AreSettled (sym h.1) here
step_settled (Stopped before after) event.Step (Some m) reply next here h = absurd h
step_settled (Stopped before after) event.Restart None reply next here (told, inl h) = subst AreSettled (sym h) tt
step_settled (Stopped before after) event.Restart None reply next here (told, inr h) = subst AreSettled (sym h) tt
step_settled (Stopped before after) event.Restart (Some m) reply next here h = subst AreSettled (sym h.3) here

-- ---- one event

-- the contents are an image of a world that a crash in an event leaves
abbrev ShowsLeft : State → Event → Contents → Type 0
ShowsLeft s e c = (w : World) × IsImage c w × LeftIn limits_written s e w

abbrev ShowsNow : State → Contents → Type 0
ShowsNow s c = (w : World) × IsImage c w × Left s w

shown_now : (s : State) (c : Contents) → ShowsState s c → ShowsNow s c
shown_now (Running w) c h = (settle w, h, refl)
shown_now (Stopped before after) c (inl h) = (before, h, inl refl)
shown_now (Stopped before after) c (inr h) = (after, h, inr refl)

left_in : (s : State) (e : Event) (w : World) → Left s w → LeftIn limits_written s e w
left_in (Running old) (event.Call session c) w h = inl h
left_in (Running old) event.Step w h = h
left_in (Running old) event.Restart w h = h
left_in (Stopped before after) (event.Call session c) w h = h
left_in (Stopped before after) event.Step w h = h
left_in (Stopped before after) event.Restart w h = h

left_now : (s : State) (e : Event) (c : Contents) → ShowsNow s c → ShowsLeft s e c
left_now s e c h = (h.0, h.1, left_in s e h.0 h.2)

-- what a state shows that is one of the two
shown_same : (s next : State) (e : Event) (c : Contents) → next ≡ s → ShowsState next c → ShowsLeft s e c
shown_same s next e c same h = left_now s e c (shown_now s c (subst (λ (x : State). ShowsState x c) same h))

shown_stopped : (old : World) (next : State) (e : Event) (c : Contents) → next ≡ Stopped (settle old) (settle old) → ShowsState next c → ShowsLeft (Running old) e c
shown_stopped old next e c same h = told (subst (λ (x : State). ShowsState x c) same h)
  where
    told : IsImage c (settle old) ⊎ IsImage c (settle old) → ShowsLeft (Running old) e c
    told (inl k) = left_now (Running old) e c (settle old, k, refl)
    told (inr k) = left_now (Running old) e c (settle old, k, refl)

-- after a call that was answered
after_answer : (old : World) (session : ℕ) (x : Call) (reply : Reply) (next : State) (c : Contents) → CallStep limits_written old session x None reply next → ShowsState next c → ShowsLeft (Running old) (event.Call session x) c
after_answer old session x reply next c h shows =
    (settle h.0, subst (λ (s : State). ShowsState s c) h.2 shows, inr (reply, h.0, h.1, refl))

-- and one that was cut off
after_cut : (old : World) (session : ℕ) (x : Call) (reply : Reply) (next : State) (c : Contents) → IsCutOff limits_written old session x reply next → ShowsState next c → ShowsLeft (Running old) (event.Call session x) c
after_cut old session x reply next c h shows = told (subst (λ (s : State). ShowsState s c) h.stops.left shows)
  where
    told : IsImage c (settle old) ⊎ IsImage c (settle h.next) → ShowsLeft (Running old) (event.Call session x) c
    told (inl k) = left_now (Running old) (event.Call session x) c (settle old, k, refl)
    told (inr k) = (
      settle h.next,
      k,
      inr (
        h.passes.0.told,
        h.next,
        subst (λ (d : Result Outcome Refusal). Becomes limits_written old session d h.passes.0.told h.next) (sym h.passes.1) (refl, h.comes),
        refl,
      ),
    )

after_call : (old : World) (session : ℕ) (x : Call) (met : Option Mishap) (reply : Reply) (next : State) (c : Contents) → CallStep limits_written old session x met reply next → ShowsState next c → ShowsLeft (Running old) (event.Call session x) c
after_call old session x None reply next c h shows = after_answer old session x reply next c h shows
after_call old session x (Some machine.Write) reply next c h shows = after_cut old session x reply next c h shows
after_call old session x (Some machine.Memory) reply next c h shows = shown_same (Running old) next (event.Call session x) c h.1.same shows
after_call old session x (Some machine.Read) reply next c h shows = shown_same (Running old) next (event.Call session x) c h.1.same shows
after_call old session x (Some machine.Space) reply next c h shows = shown_same (Running old) next (event.Call session x) c h.1.same shows
after_call old session x (Some machine.Age) reply next c h shows = shown_same (Running old) next (event.Call session x) c h.1.same shows

after_failing : (old : World) (e : Event) (m : Mishap) (reply : Reply) (next : State) (c : Contents) → PointFails old m reply next → ShowsState next c → ShowsLeft (Running old) e c
after_failing old e machine.Write reply next c h shows = shown_stopped old next e c h.left shows
after_failing old e machine.Space reply next c h shows = absurd h
after_failing old e machine.Memory reply next c h shows = shown_same (Running old) next e c h.same shows
after_failing old e machine.Read reply next c h shows = shown_same (Running old) next e c h.same shows
after_failing old e machine.Age reply next c h shows = shown_same (Running old) next e c h.same shows

after_restart : (old : World) (met : Option Mishap) (reply : Reply) (next : State) (c : Contents) → EventStep limits_written (Running old) event.Restart met reply next → ShowsState next c → ShowsLeft (Running old) event.Restart c
after_restart old None reply next c h shows =
    (settle old, subst (IsImage c) (settles_twice old) (subst (λ (s : State). ShowsState s c) h.1 shows), refl)
after_restart old (Some m) reply next c (inl h) shows = after_failing old event.Restart m reply next c h shows
after_restart old (Some m) reply next c (inr h) shows = shown_stopped old next event.Restart c h.3 shows

after_mount : (before after : World) (met : Option Mishap) (reply : Reply) (next : State) (c : Contents) → AreSettled (Stopped before after) → EventStep limits_written (Stopped before after) event.Restart met reply next → ShowsState next c → ShowsLeft (Stopped before after) event.Restart c
after_mount before after None reply next c here (told, inl h) shows = (before, subst (IsImage c) here.0 (subst (λ (s : State). ShowsState s c) h shows), inl refl)
after_mount before after None reply next c here (told, inr h) shows = (after, subst (IsImage c) here.1 (subst (λ (s : State). ShowsState s c) h shows), inr refl)
after_mount before after (Some m) reply next c here h shows = shown_same (Stopped before after) next event.Restart c h.3 shows

after_event : (s : State) (e : Event) (met : Option Mishap) (reply : Reply) (next : State) (c : Contents) → AreSettled s → EventStep limits_written s e met reply next → ShowsState next c → ShowsLeft s e c
after_event (Running old) (event.Call session x) met reply next c here h shows = after_call old session x met reply next c h shows
after_event (Running old) event.Step None reply next c here h shows = shown_same (Running old) next event.Step c h.1 shows
after_event (Running old) event.Step (Some m) reply next c here h shows = after_failing old event.Step m reply next c h shows
after_event (Running old) event.Restart met reply next c here h shows = after_restart old met reply next c h shows
after_event (Stopped before after) (event.Call session x) None reply next c here h shows = shown_same (Stopped before after) next (event.Call session x) c h.1 shows
after_event (Stopped before after) (event.Call session x) (Some m) reply next c here h shows = absurd h
after_event (Stopped before after) event.Step None reply next c here h shows = shown_same (Stopped before after) next event.Step c h.1 shows
after_event (Stopped before after) event.Step (Some m) reply next c here h shows = absurd h
after_event (Stopped before after) event.Restart met reply next c here h shows = after_mount before after met reply next c here h shows

-- a crash in its course
in_event : (s : State) (e : Event) (met : Option Mishap) (reply : Reply) (next : State) (c : Contents) → AreSettled s → EventStep limits_written s e met reply next → ShowsState s c ⊎ ShowsState next c → ShowsLeft s e c
in_event s e met reply next c here h (inl shows) = left_now s e c (shown_now s c shows)
in_event s e met reply next c here h (inr shows) = after_event s e met reply next c here h shows

-- ---- events of a run

abbrev pub place_of : Standing → Place
place_of s = record { state = s.state; disk = s.held.disk }

-- what leads from one standing to the next leads from its place to the next
pub moved : (old new : Standing) (e : Event) (reply : Reply) → Goes old e reply new → Moves (place_of old) e reply (place_of new)
moved old new e reply goes =
    let a = goes.answers in
    subst (λ (s : State). Moves (place_of old) e reply (record { state = s; disk = new.held.disk })) (sym goes.next) (record { step = (a.met, tt, a.step); lasts = a.lasts })

pub places : (first last : Standing) (events : List Event) (replies : List Reply) → RunBy Goes first events replies last → RunBy Moves (place_of first) events replies (place_of last)
places first last [] [] run = ap place_of run
places first last [] (reply ∷ replies) run = absurd run
places first last (e ∷ events) [] run = absurd run
places first last (e ∷ events) (reply ∷ replies) run = (place_of run.0, moved first run.0 e reply run.1, places run.0 last events replies run.2)

moves_settled : (old new : Place) (e : Event) (reply : Reply) → AreSettled old.state → Moves old e reply new → AreSettled new.state
moves_settled old new e reply here moves = let step = moves.step in step_settled old.state e step.0 reply new.state here step.2

moves_leaves : (old new : Place) (e : Event) (reply : Reply) → AreSettled old.state → Moves old e reply new → LeavesOnly old.disk new.disk (ShowsLeft old.state e)
moves_leaves old new e reply here moves =
    let step = moves.step in
    LeavesOnly-weaker old.disk new.disk (λ c. ShowsState old.state c ⊎ ShowsState new.state c) (ShowsLeft old.state e)
    (λ c. in_event old.state e step.0 reply new.state c here step.2) moves.lasts.moments

-- of the machine
pub machine_run : (first last : Place) (events : List Event) (replies : List Reply) → RunBy Moves first events replies last → Run Anything limits_written first.state events replies last.state
machine_run first last [] [] run = ap (λ (x : Place). x.state) run
machine_run first last [] (reply ∷ replies) run = absurd run
machine_run first last (e ∷ events) [] run = absurd run
machine_run first last (e ∷ events) (reply ∷ replies) run = (run.0.state, run.1.step, machine_run run.0 last events replies run.2)

-- a crash in the event after these
cut_in : (first mid next : Place) (done todo : List Event) (e : Event) (said : List Reply) (reply : Reply) → AreSettled first.state → RunBy Moves first done said mid → Moves mid e reply next
    → LeavesOnly mid.disk next.disk (ShowsCut first.state (done ++ e ∷ todo) said)
cut_in first mid next [] todo e [] reply here run moves =
    LeavesOnly-weaker mid.disk next.disk (ShowsLeft mid.state e) (ShowsCut first.state (e ∷ todo) [])
    (λ c h. subst (λ (x : Place). ShowsLeft x.state e c) run h) (moves_leaves mid next e reply (subst (λ (x : Place). AreSettled x.state) (sym run) here) moves)
cut_in first mid next [] todo e (r ∷ said) reply here run moves = absurd run
cut_in first mid next (d ∷ done) todo e [] reply here run moves = absurd run
cut_in first mid next (d ∷ done) todo e (r ∷ said) reply here run moves =
    LeavesOnly-weaker mid.disk next.disk (ShowsCut run.0.state (done ++ e ∷ todo) said) (ShowsCut first.state (d ∷ (done ++ e ∷ todo)) (r ∷ said))
    (λ c h. (h.0, h.1, (run.0.state, run.1.step, h.2)))
    (cut_in run.0 mid next done todo e said reply (moves_settled first run.0 d r here run.1) run.2 moves)

-- a crash after the last event
cut_behind : (first last : Place) (events : List Event) (said : List Reply) (w : World) → RunBy Moves first events said last → Left last.state w → CutRun Anything limits_written first.state (events ++ []) said w
cut_behind first last [] [] w run here = subst (λ (x : Place). Left x.state w) run here
cut_behind first last [] (reply ∷ said) w run here = absurd run
cut_behind first last (e ∷ events) [] w run here = absurd run
cut_behind first last (e ∷ events) (reply ∷ said) w run here = (run.0.state, run.1.step, cut_behind run.0 last events said w run.2 here)

list_joined : (xs : List Event) (y : Event) (ys : List Event) → (xs ++ y ∷ []) ++ ys ≡ xs ++ y ∷ ys
list_joined [] y ys = refl
list_joined (x ∷ xs) y ys = ap (λ (zs : List Event). x ∷ zs) (list_joined xs y ys)

-- a crash at any moment of what is left of a run, after the events that were answered, and of the last unmount
pub run_leaves : (first mid last : Place) (done todo : List Event) (said replies : List Reply) (new : Disk) → AreSettled first.state → RunBy Moves first done said mid → RunBy Moves mid todo replies last → LeavesOnly last.disk new (ShowsState last.state)
    → LeavesFrom first.state (done ++ todo) said replies mid.disk new
run_leaves first mid last done [] said [] new here before run lasts =
    LeavesOnly-weaker mid.disk new (ShowsState mid.state) (ShowsCut first.state (done ++ []) said)
    (λ c shows. let now = shown_now mid.state c shows in (now.0, now.1, cut_behind first mid done said now.0 before now.2))
    (subst (λ (x : Place). LeavesOnly x.disk new (ShowsState x.state)) run lasts)
run_leaves first mid last done [] said (reply ∷ replies) new here before run lasts = absurd run
run_leaves first mid last done (e ∷ todo) said [] new here before run lasts = absurd run
run_leaves first mid last done (e ∷ todo) said (reply ∷ replies) new here before run lasts =
    let next = run.0 in (
      next.disk,
      cut_in first mid next done todo e said reply here before run.1,
      subst (λ (events : List Event). LeavesFrom first.state events (said ++ reply ∷ []) replies next.disk new) (list_joined done e todo)
          (run_leaves first next last (done ++ e ∷ []) todo (said ++ reply ∷ []) replies new here (run_more Moves first mid next done said e reply before run.1) run.2 lasts),
    )

-- before the first event
pub cut_now : (world : World) (events : List Event) → settle world ≡ world → CutRun Anything limits_written (Running world) events [] world
cut_now world [] settled = sym settled
cut_now world (e ∷ events) settled = left_in (Running world) e world (sym settled)

-- what contents are an image of is settled
pub found_settled : (c : Contents) (world : World) → IsImage c world → settle world ≡ world
found_settled c world h =
    let stands = h.opens.stands in
    ap settle stands.settles ∙ ap (λ (t : Tree). record { live = t; frozen = frozen_of (store_of c) h.opens.root.snapshots; sessions = replicate 64 None; descriptors = map.empty }) (settled_twice stands.tree) ∙ sym stands.settles
