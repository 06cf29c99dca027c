-- Events, runs and lives lead from worlds to worlds.
use Rattle.std.proofs.Common.{◌≡◌, ◌≢◌, ℕ, ◌<◌, false, List, [], ◌∷◌, Option, Some, None, refl, sym, ap, subst, ◌∙◌, inl, inr, arith}
use Rattle.std.specs.List.{AllByRecursion}
use Rattle.std.proofs.lemmas.List.{length-replicate}
use Rattle.std.specs.FinMap as map
use Rattle.sn_limits.specs.declared.limits.Limits.{Limits}
use Rattle.sn_limits.specs.Versions.{limits_written}
use Rattle.sn_model.specs.declared.call.Call.{Call}
use Rattle.sn_model.specs.declared.call.Event.{Event}
use Rattle.sn_model.specs.declared.call.Event.TheVariants as event
use Rattle.sn_model.specs.declared.reply.Errno.{Errno}
use Rattle.sn_model.specs.declared.reply.Errno.TheVariants.{Eio, Estopped}
use Rattle.sn_model.specs.declared.reply.Refusal.{Refusal}
use Rattle.sn_model.specs.declared.reply.Reply.{Reply}
use Rattle.sn_model.specs.declared.reply.Reply.TheVariants as answer
use Rattle.sn_model.specs.declared.session.Session.{Session}
use Rattle.sn_model.specs.Tests.{plain}
use Rattle.sn_model.specs.Tree.{Tree, names_for}
use Rattle.sn_model.specs.World.{World, descriptor_cmp, new_world}
use Rattle.sn_model.specs.NameTree.{IsTree}
use Rattle.sn_model.specs.Settling.{settle}
use Rattle.sn_model.specs.Steps.{decision}
use Rattle.sn_model.specs.Machine as machine
use Rattle.sn_model.specs.Machine.{State, Running, Stopped, Mishap, Anything, IsCutOff, IsRefused, IsStopped, IsUnmounted, CallStep, EventStep, PointFails, Run, Left, LeftIn, CutRun, Life, refused}
use Rattle.sn_model.specs.Worlds.{IsCall, IsEvent, IsFound, IsSettled, IsState, IsWorld}
use Rattle.sn_model.proofs.DropLemmas.{all_named, dropping_tree}
use Rattle.sn_model.proofs.DecidedLemmas.{decided_is}
use Rattle.sn_model.proofs.StepLemmas.{becomes_refused}
use Rattle.sn_model.proofs.WorldLemmas.{becomes_world, comes_world, free_sessions, new_is_world}

-- a name tree in place of a world's live one, settled
pub settle_tree : (limits : Limits) (world : World) (tree : Tree) → IsWorld limits world → IsTree limits tree → IsWorld limits (settle (record world { live = tree }))
settle_tree limits world tree w whole = record {
  live = dropping_tree limits tree (λ _. false) whole;
  frozen = w.frozen;
  snapshot_names = w.snapshot_names;
  few_snapshots = w.few_snapshots;
  count = length-replicate {A = Option Session} 64 None;
  callers = free_sessions 64;
  open_files = λ i fd d e. let never : None ≡ Some d = sym (map.get-empty descriptor_cmp (i, fd)) ∙ e in cc;
  held = λ n k z. absurd (all_named tree n k z);
}

settle_world : (limits : Limits) (world : World) → IsWorld limits world → IsWorld limits (settle world)
settle_world limits world w = settle_tree limits world world.live w w.live

settle_settled : (world : World) → IsSettled (settle world)
settle_settled world = record {
  out = refl;
  closed = refl;
  named = λ n k. some (names_for world.live n) (all_named world.live n k);
}
  where
    some : (m : ℕ) → (m ≡ 0 → ⊥) → 0 < m
    some m h = omega arith

settle_found : (limits : Limits) (world : World) → IsWorld limits world → IsFound limits (settle world)
settle_found limits world w = record { whole = settle_world limits world w; settled = settle_settled world }

-- what is refused, stops the machine, or unmounts it
refused_keeps : (limits : Limits) (old : World) (m : Mishap) (reply : Reply) (new : State) → IsWorld limits old → IsRefused old m reply new → IsState limits new
refused_keeps limits old m reply new w h = subst (IsState limits) (sym h.same) w

stopped_keeps : (limits : Limits) (before after : World) (reply : Reply) (new : State) → IsFound limits before → IsFound limits after → IsStopped before after reply new → IsState limits new
stopped_keeps limits before after reply new b a h = subst (IsState limits) (sym h.left) (b, a)

unmounted_keeps : (limits : Limits) (before after : World) (m : Mishap) (reply : Reply) (new : State) → IsFound limits before → IsFound limits after → IsUnmounted before after m reply new → IsState limits new
unmounted_keeps limits before after m reply new b a h = subst (IsState limits) (sym h.3) (b, a)

answered_keeps : (limits : Limits) (old : World) (session : ℕ) (c : Call) (reply : Reply) (new : State) → IsCall c → IsWorld limits old → CallStep limits old session c None reply new → IsState limits new
answered_keeps limits old session c reply new k w h =
    subst (IsState limits) (sym h.2) (becomes_world limits old h.0 session c (decision limits old session c) reply refl h.1 k w)

cut_off_keeps : (limits : Limits) (old : World) (session : ℕ) (c : Call) (reply : Reply) (new : State) → IsCall c → IsWorld limits old → IsCutOff limits old session c reply new → IsState limits new
cut_off_keeps limits old session c reply new k w h =
    let after = comes_world limits old session c h.passes.0 (decided_is limits old session c h.passes.0 h.passes.1) k w h.next h.comes in
    stopped_keeps limits (settle old) (settle h.next) reply new (settle_found limits old w) (settle_found limits h.next after) h.stops

call_keeps : (limits : Limits) (old : World) (session : ℕ) (c : Call) (met : Option Mishap) (reply : Reply) (new : State) → IsCall c → IsWorld limits old → CallStep limits old session c met reply new → IsState limits new
call_keeps limits old session c None reply new k w h = answered_keeps limits old session c reply new k w h
call_keeps limits old session c (Some machine.Write) reply new k w h = cut_off_keeps limits old session c reply new k w h
call_keeps limits old session c (Some machine.Memory) reply new k w h = refused_keeps limits old machine.Memory reply new w h.1
call_keeps limits old session c (Some machine.Read) reply new k w h = refused_keeps limits old machine.Read reply new w h.1
call_keeps limits old session c (Some machine.Space) reply new k w h = refused_keeps limits old machine.Space reply new w h.1
call_keeps limits old session c (Some machine.Age) reply new k w h = refused_keeps limits old machine.Age reply new w h.1

fails_keeps : (limits : Limits) (old : World) (m : Mishap) (reply : Reply) (new : State) → IsWorld limits old → PointFails old m reply new → IsState limits new
fails_keeps limits old machine.Write reply new w h = stopped_keeps limits (settle old) (settle old) reply new (settle_found limits old w) (settle_found limits old w) h
fails_keeps limits old machine.Space reply new w h = absurd h
fails_keeps limits old machine.Memory reply new w h = refused_keeps limits old machine.Memory reply new w h
fails_keeps limits old machine.Read reply new w h = refused_keeps limits old machine.Read reply new w h
fails_keeps limits old machine.Age reply new w h = refused_keeps limits old machine.Age reply new w h

point_keeps : (limits : Limits) (old : World) (met : Option Mishap) (reply : Reply) (new : State) → IsWorld limits old → EventStep limits (Running old) event.Step met reply new → IsState limits new
point_keeps limits old None reply new w h = subst (IsState limits) (sym h.1) w
point_keeps limits old (Some m) reply new w h = fails_keeps limits old m reply new w h

restart_keeps : (limits : Limits) (old : World) (met : Option Mishap) (reply : Reply) (new : State) → IsWorld limits old → EventStep limits (Running old) event.Restart met reply new → IsState limits new
restart_keeps limits old None reply new w h = subst (IsState limits) (sym h.1) (settle_world limits old w)
restart_keeps limits old (Some m) reply new w (inl h) = fails_keeps limits old m reply new w h
restart_keeps limits old (Some m) reply new w (inr h) = unmounted_keeps limits (settle old) (settle old) m reply new (settle_found limits old w) (settle_found limits old w) h

mount_keeps : (limits : Limits) (before after : World) (met : Option Mishap) (reply : Reply) (new : State) → IsFound limits before → IsFound limits after → EventStep limits (Stopped before after) event.Restart met reply new → IsState limits new
mount_keeps limits before after None reply new b a (told, inl h) = subst (IsState limits) (sym h) b.whole
mount_keeps limits before after None reply new b a (told, inr h) = subst (IsState limits) (sym h) a.whole
mount_keeps limits before after (Some m) reply new b a h = unmounted_keeps limits before after m reply new b a h

pub events_keep : (limits : Limits) (old new : State) (e : Event) (met : Option Mishap) (reply : Reply) → IsEvent e → IsState limits old → EventStep limits old e met reply new → IsState limits new
events_keep limits (Running old) new (event.Call session c) met reply k w h = call_keeps limits old session c met reply new k w h
events_keep limits (Running old) new event.Step met reply k w h = point_keeps limits old met reply new w h
events_keep limits (Running old) new event.Restart met reply k w h = restart_keeps limits old met reply new w h
events_keep limits (Stopped before after) new (event.Call session c) None reply k w h = subst (IsState limits) (sym h.1) w
events_keep limits (Stopped before after) new (event.Call session c) (Some m) reply k w h = absurd h
events_keep limits (Stopped before after) new event.Step None reply k w h = subst (IsState limits) (sym h.1) w
events_keep limits (Stopped before after) new event.Step (Some m) reply k w h = absurd h
events_keep limits (Stopped before after) new event.Restart met reply k w h = mount_keeps limits before after met reply new w.0 w.1 h

-- over lists of events
run_from : (limits : Limits) (old last : State) (events : List Event) (replies : List Reply) → AllByRecursion IsEvent events → Run Anything limits old events replies last → IsState limits old → IsState limits last
run_from limits old last [] [] all run w = subst (IsState limits) (sym run) w
run_from limits old last [] (reply ∷ replies) all run w = absurd run
run_from limits old last (e ∷ events) [] all run w = absurd run
run_from limits old last (e ∷ events) (reply ∷ replies) all run w = run_from limits run.0 last events replies all.1 run.2 (events_keep limits old run.0 e run.1.0 reply all.0 w run.1.2)

pub run_world : (events : List Event) (replies : List Reply) (last : State) → AllByRecursion IsEvent events → Run Anything limits_written (Running new_world) events replies last → IsState limits_written last
run_world events replies last all run = run_from limits_written (Running new_world) last events replies all run (new_is_world limits_written.version limits_written refl)

-- what a crash leaves
left_found : (limits : Limits) (old : State) (w : World) → IsState limits old → Left old w → IsFound limits w
left_found limits (Running old) w h e = subst (IsFound limits) (sym e) (settle_found limits old h)
left_found limits (Stopped before after) w h (inl e) = subst (IsFound limits) (sym e) h.0
left_found limits (Stopped before after) w h (inr e) = subst (IsFound limits) (sym e) h.1

left_in_found : (limits : Limits) (old : State) (e : Event) (w : World) → IsEvent e → IsState limits old → LeftIn limits old e w → IsFound limits w
left_in_found limits (Running old) (event.Call session c) w k h (inl l) = left_found limits (Running old) w h l
left_in_found limits (Running old) (event.Call session c) w k h (inr l) =
    let after = becomes_world limits old l.1 session c (decision limits old session c) l.0 refl l.2 k h in
    subst (IsFound limits) (sym l.3) (settle_found limits l.1 after)
left_in_found limits (Running old) event.Step w k h l = left_found limits (Running old) w h l
left_in_found limits (Running old) event.Restart w k h l = left_found limits (Running old) w h l
left_in_found limits (Stopped before after) (event.Call session c) w k h l = left_found limits (Stopped before after) w h l
left_in_found limits (Stopped before after) event.Step w k h l = left_found limits (Stopped before after) w h l
left_in_found limits (Stopped before after) event.Restart w k h l = left_found limits (Stopped before after) w h l

cut_found : (limits : Limits) (old : State) (events : List Event) (replies : List Reply) (w : World) → AllByRecursion IsEvent events → IsState limits old → CutRun Anything limits old events replies w → IsFound limits w
cut_found limits old [] [] w all h c = left_found limits old w h c
cut_found limits old (e ∷ events) [] w all h c = left_in_found limits old e w all.0 h c
cut_found limits old [] (reply ∷ replies) w all h c = absurd c
cut_found limits old (e ∷ events) (reply ∷ replies) w all h c = cut_found limits c.0 events replies w all.1 (events_keep limits old c.0 e c.1.0 reply all.0 h c.1.2) c.2

pub lives_keep : (limits : Limits) (first last : World) (runs : List (List Event × List Reply)) → AllByRecursion (λ r. AllByRecursion IsEvent r.0) runs → IsFound limits first → Life Anything limits first runs last → IsFound limits last
lives_keep limits first last [] all w life = subst (IsFound limits) (sym life) w
lives_keep limits first last (r ∷ rs) all w life = lives_keep limits life.0 last rs all.1 (cut_found limits (Running first) r.0 r.1 life.0 all.0 w.whole life.1) life.2

-- a stopped machine
pub stopped_stays : (limits : Limits) (before after : World) (e : Event) (met : Option Mishap) (reply : Reply) (new : State) → e ≢ event.Restart
    → EventStep limits (Stopped before after) e met reply new → (reply ≡ refused Estopped) × (new ≡ Stopped before after)
stopped_stays limits before after (event.Call session c) None reply new apart h = h
stopped_stays limits before after (event.Call session c) (Some m) reply new apart h = absurd h
stopped_stays limits before after event.Step None reply new apart h = h
stopped_stays limits before after event.Step (Some m) reply new apart h = absurd h
stopped_stays limits before after event.Restart met reply new apart h = absurd (apart refl)

-- what is refused
errno_told : (refusal : Refusal) (errno : Errno) → answer.Refused refusal ≡ refused errno → refusal.errno ≡ errno
errno_told refusal errno e = let same : refusal ≡ plain errno = cc in ap (λ (r : Refusal). r.errno) same

refused_call : (limits : Limits) (old : World) (session : ℕ) (c : Call) (met : Option Mishap) (refusal : Refusal) (new : State) → refusal.errno ≢ Eio → CallStep limits old session c met (answer.Refused refusal) new → new ≡ Running old
refused_call limits old session c None refusal new apart h =
    h.2 ∙ ap (λ (w : World). Running w) (becomes_refused limits old h.0 session c (decision limits old session c) refusal refl h.1)
refused_call limits old session c (Some machine.Write) refusal new apart h = absurd (apart (errno_told refusal Eio h.stops.told))
refused_call limits old session c (Some machine.Memory) refusal new apart h = h.1.same
refused_call limits old session c (Some machine.Read) refusal new apart h = h.1.same
refused_call limits old session c (Some machine.Space) refusal new apart h = h.1.same
refused_call limits old session c (Some machine.Age) refusal new apart h = h.1.same

refused_point : (old : World) (m : Mishap) (refusal : Refusal) (new : State) → refusal.errno ≢ Eio → PointFails old m (answer.Refused refusal) new → new ≡ Running old
refused_point old machine.Write refusal new apart h = absurd (apart (errno_told refusal Eio h.told))
refused_point old machine.Space refusal new apart h = absurd h
refused_point old machine.Memory refusal new apart h = h.same
refused_point old machine.Read refusal new apart h = h.same
refused_point old machine.Age refusal new apart h = h.same

pub refused_same : (limits : Limits) (old : World) (e : Event) (met : Option Mishap) (refusal : Refusal) (new : State) → refusal.errno ≢ Eio → EventStep limits (Running old) e met (answer.Refused refusal) new → new ≡ Running old
refused_same limits old (event.Call session c) met refusal new apart h = refused_call limits old session c met refusal new apart h
refused_same limits old event.Step None refusal new apart h = h.1
refused_same limits old event.Step (Some m) refusal new apart h = refused_point old m refusal new apart h
refused_same limits old event.Restart None refusal new apart h = let never : answer.Refused refusal ≡ answer.Done = h.0 in cc
refused_same limits old event.Restart (Some m) refusal new apart (inl h) = refused_point old m refusal new apart h
refused_same limits old event.Restart (Some m) refusal new apart (inr h) = let never : answer.Refused refusal ≡ answer.Unmounted h.0 = h.2 in cc

-- a restart that mounts
running_is : (a b : World) → Running a ≡ Running b → a ≡ b
running_is a b e = cc

not_refused : (errno : Errno) → answer.Done ≡ refused errno → ⊥
not_refused errno e = cc

failed_restart : (old new : World) (m : Mishap) → PointFails old m answer.Done (Running new) → ⊥
failed_restart old new machine.Write h = not_refused Eio h.told
failed_restart old new machine.Space h = h
failed_restart old new machine.Memory h = not_refused (machine.errno_of machine.Memory) h.told
failed_restart old new machine.Read h = not_refused (machine.errno_of machine.Read) h.told
failed_restart old new machine.Age h = not_refused (machine.errno_of machine.Age) h.told

pub restarts_settle : (limits : Limits) (old : State) (met : Option Mishap) (new : World) → IsState limits old → EventStep limits old event.Restart met answer.Done (Running new) → IsSettled new
restarts_settle limits (Running old) None new w h = subst IsSettled (sym (running_is new (settle old) h.1)) (settle_settled old)
restarts_settle limits (Running old) (Some m) new w (inl h) = absurd (failed_restart old new m h)
restarts_settle limits (Running old) (Some m) new w (inr h) = let never : answer.Done ≡ answer.Unmounted h.0 = h.2 in cc
restarts_settle limits (Stopped before after) None new w (told, inl h) = subst IsSettled (sym (running_is new before h)) w.0.settled
restarts_settle limits (Stopped before after) None new w (told, inr h) = subst IsSettled (sym (running_is new after h)) w.1.settled
restarts_settle limits (Stopped before after) (Some m) new w h = let never : answer.Done ≡ answer.Unmounted h.0 = h.2 in cc
