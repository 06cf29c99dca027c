-- A frozen tree stays what it is until its snapshot is deleted.
use Rattle.std.proofs.Common.{◌≡◌, ◌≢◌, inl, inr, ℕ, false, List, [], ◌∷◌, Option, None, Some, Result, Ok, Err, is_some, refl, sym, ap, subst, ◌∙◌}
use Rattle.std.specs.FinMap as map
use Rattle.std.specs.Cmp.Lexicographic.{nat_list_cmp_total}
use Rattle.std.specs.List.{AllByRecursion}
use Rattle.std.proofs.lemmas.Bool.{true≢false}
use Rattle.std.proofs.lemmas.Map.Lookups.{exact_bytes}
use Rattle.sn_limits.specs.declared.limits.Limits.{Limits}
use Rattle.sn_walk.specs.Chains.{◌>>=◌}
use Rattle.sn_walk.proofs.ChainLemmas.{bind_ok}
use Rattle.sn_model.specs.declared.call.Call.{Call}
use Rattle.sn_model.specs.declared.call.Call.TheVariants as call
use Rattle.sn_model.specs.declared.call.Event.{Event}
use Rattle.sn_model.specs.declared.call.Event.TheVariants as event
use Rattle.sn_model.specs.declared.reply.Refusal.{Refusal}
use Rattle.sn_model.specs.declared.reply.Reply.{Reply}
use Rattle.sn_model.specs.Calls as calls
use Rattle.sn_model.proofs.Deciding as deciding
use Rattle.sn_model.specs.Calls.{outcome_of, ready}
use Rattle.sn_model.specs.Machine.{State, Running, Stopped, Mishap, Memory, Read, Write, Space, Age, Anything, CallStep, CutRun, EventStep, Left, LeftIn, Life, PointFails, Run}
use Rattle.sn_model.specs.declared.outcome.AskedPoint.{AskedPoint}
use Rattle.sn_model.specs.declared.outcome.AskedPoint.TheVariants.{Unasked, Plain, Freezes, Thaws, Restores}
use Rattle.sn_model.specs.declared.outcome.Caller.{Caller}
use Rattle.sn_model.specs.declared.outcome.Caller.TheVariants.{Stays, LogsIn, SetsUmask, LogsOut, Opens, OpensNew, Closes, Moves}
use Rattle.sn_model.specs.declared.outcome.Outcome.{Outcome}
use Rattle.sn_model.specs.Outcomes.{points, points_for}
use Rattle.sn_model.specs.Settling.{settle}
use Rattle.sn_model.specs.SnapshotCalls.{snapshot_argument}
use Rattle.sn_model.specs.Steps.{Becomes, Comes, asks_for_point, decision, pointed, with_caller}
use Rattle.sn_model.specs.Tests.{logged_in}
use Rattle.sn_model.specs.Tree.{Tree}
use Rattle.sn_model.specs.World.{World}
use Rattle.sn_model.proofs.DecidedLemmas.{decided_is}
use Rattle.sn_model.proofs.DecisionLemmas.{ok, same_ok}
use Rattle.sn_model.proofs.MapLemmas.{get_left, get_other}
use Rattle.sn_model.proofs.OutcomeLemmas.{FitsPoint, is_asked}
use Rattle.sn_model.proofs.RestoreLemmas.{restored_beside}
use Rattle.sn_model.proofs.SnapshotLemmas.{argument_same, create_is, delete_is, restore_is}
use Rattle.sn_snapshot_laws.specs.Staying.{HasFrozen, HasTree, Spares}

-- ---- which name a point lets go

-- it is the one that the call names
abbrev LetsGo : Call → AskedPoint → Type 0
LetsGo c p = (name : List ℕ) → p ≡ Thaws name → c ≡ call.SnapDelete name

unasked : {A : Type 0} (p : AskedPoint) (name : List ℕ) → is_asked p ≡ false → p ≡ Thaws name → A
unasked p name alone is = absurd (true≢false (ap is_asked (sym is) ∙ alone))

freezes_thaws : {A : Type 0} (a b : List ℕ) → Freezes a ≡ Thaws b → A
freezes_thaws a b e = cc

restores_thaws : {A : Type 0} (a b : List ℕ) → Restores a ≡ Thaws b → A
restores_thaws a b e = cc

plain_thaws : {A : Type 0} (b : List ℕ) → Plain ≡ Thaws b → A
plain_thaws b e = cc

thaws_same : (a b : List ℕ) → Thaws a ≡ Thaws b → a ≡ b
thaws_same a b e = cc

point_of : {charge : ℕ} {p : AskedPoint} (o : Outcome) → points_for charge p ≡ o → p ≡ o.point
point_of o is = ap (λ (x : Outcome). x.point) is

module _ (limits : Limits) (w : World) (session : ℕ) where
  by_sync : (o : Outcome) → decision limits w session call.Sync ≡ Ok o → LetsGo call.Sync o.point
  by_sync o e name is =
      let r = bind_ok (ready w session call.Sync) (outcome_of limits w) o e in
      let s = bind_ok (logged_in w session) (λ _. ok deciding.sync) r.0 r.1 in
      let came = same_ok (points Plain) o (subst (λ (x : calls.Ready). outcome_of limits w x ≡ Ok o) (sym (same_ok deciding.sync r.0 s.2)) r.2) in
      plain_thaws name (point_of o came ∙ is)

  by_create : (word : List ℕ) (o : Outcome) → decision limits w session (call.SnapCreate word) ≡ Ok o → LetsGo (call.SnapCreate word) o.point
  by_create word o e name is =
      let r = bind_ok (ready w session (call.SnapCreate word)) (outcome_of limits w) o e in
      let s = bind_ok (logged_in w session) (λ s. snapshot_argument word >>= (λ new. ok (deciding.snap_create s new))) r.0 r.1 in
      let n = bind_ok (snapshot_argument word) (λ new. ok (deciding.snap_create s.0 new)) r.0 s.2 in
      let came = create_is limits w s.0 n.0 o (subst (λ (x : calls.Ready). outcome_of limits w x ≡ Ok o) (sym (same_ok (deciding.snap_create s.0 n.0) r.0 n.2)) r.2) in
      freezes_thaws n.0 name (point_of o came.0 ∙ is)

  by_delete : (word : List ℕ) (o : Outcome) → decision limits w session (call.SnapDelete word) ≡ Ok o → LetsGo (call.SnapDelete word) o.point
  by_delete word o e name is =
      let r = bind_ok (ready w session (call.SnapDelete word)) (outcome_of limits w) o e in
      let s = bind_ok (logged_in w session) (λ s. snapshot_argument word >>= (λ old. ok (deciding.snap_delete s old))) r.0 r.1 in
      let n = bind_ok (snapshot_argument word) (λ old. ok (deciding.snap_delete s.0 old)) r.0 s.2 in
      let came = delete_is w s.0 n.0 o (subst (λ (x : calls.Ready). outcome_of limits w x ≡ Ok o) (sym (same_ok (deciding.snap_delete s.0 n.0) r.0 n.2)) r.2) in
      ap call.SnapDelete (argument_same word n.0 n.1 ∙ thaws_same n.0 name (point_of o came.0 ∙ is))

  by_restore : (word : List ℕ) (o : Outcome) → decision limits w session (call.SnapRestore word) ≡ Ok o → LetsGo (call.SnapRestore word) o.point
  by_restore word o e name is =
      let r = bind_ok (ready w session (call.SnapRestore word)) (outcome_of limits w) o e in
      let s = bind_ok (logged_in w session) (λ s. snapshot_argument word >>= (λ old. ok (deciding.snap_restore s old))) r.0 r.1 in
      let n = bind_ok (snapshot_argument word) (λ old. ok (deciding.snap_restore s.0 old)) r.0 s.2 in
      let came = restore_is limits w s.0 n.0 o (subst (λ (x : calls.Ready). outcome_of limits w x ≡ Ok o) (sym (same_ok (deciding.snap_restore s.0 n.0) r.0 n.2)) r.2) in
      restores_thaws n.0 name (point_of o came.0 ∙ is)

  by_call : (c : Call) (o : Outcome) → is_asked o.point ≡ asks_for_point c → decision limits w session c ≡ Ok o → LetsGo c o.point
  by_call (call.Login uid gid groups) o alone e name is = unasked o.point name alone is
  by_call (call.Umask mask) o alone e name is = unasked o.point name alone is
  by_call (call.Mkdir path mode) o alone e name is = unasked o.point name alone is
  by_call (call.Chmod path mode) o alone e name is = unasked o.point name alone is
  by_call (call.Chown path uid gid) o alone e name is = unasked o.point name alone is
  by_call (call.Stat path) o alone e name is = unasked o.point name alone is
  by_call (call.Access path want) o alone e name is = unasked o.point name alone is
  by_call (call.GetAcl path kind) o alone e name is = unasked o.point name alone is
  by_call (call.SetAcl path kind acl) o alone e name is = unasked o.point name alone is
  by_call (call.Rmdir path) o alone e name is = unasked o.point name alone is
  by_call (call.Unlink path) o alone e name is = unasked o.point name alone is
  by_call (call.Link old new) o alone e name is = unasked o.point name alone is
  by_call (call.Rename old new) o alone e name is = unasked o.point name alone is
  by_call (call.Readdir path) o alone e name is = unasked o.point name alone is
  by_call call.Logout o alone e name is = unasked o.point name alone is
  by_call (call.Open path flags mode) o alone e name is = unasked o.point name alone is
  by_call (call.Close fd) o alone e name is = unasked o.point name alone is
  by_call (call.Read fd count) o alone e name is = unasked o.point name alone is
  by_call (call.Write fd bytes) o alone e name is = unasked o.point name alone is
  by_call (call.Seek fd offset) o alone e name is = unasked o.point name alone is
  by_call (call.Ftruncate fd size) o alone e name is = unasked o.point name alone is
  by_call call.Sync o alone e name is = by_sync o e name is
  by_call (call.SnapCreate word) o alone e name is = by_create word o e name is
  by_call (call.SnapDelete word) o alone e name is = by_delete word o e name is
  by_call (call.SnapRestore word) o alone e name is = by_restore word o e name is
  by_call call.SnapList o alone e name is = unasked o.point name alone is

-- ---- a call

-- sessions and descriptors are no matter of frozen trees
caller_keeps : (w : World) (session : ℕ) (caller : Caller) → (with_caller w session caller).frozen ≡ w.frozen
caller_keeps w session Stays = refl
caller_keeps w session (LogsIn s) = refl
caller_keeps w session (SetsUmask mask) = refl
caller_keeps w session LogsOut = refl
caller_keeps w session (Opens fd home number flags) = refl
caller_keeps w session (OpensNew fd flags) = refl
caller_keeps w session (Closes fd) = refl
caller_keeps w session (Moves fd offset) = refl

module _ (name : List ℕ) (tree : Tree) where
  -- nor is a point that doesn't let the snapshot go
  point_keeps : (limits : Limits) (old w : World) (p : AskedPoint) → w.frozen ≡ old.frozen → FitsPoint limits old p → (p ≡ Thaws name → ⊥) → HasTree name tree old → HasTree name tree (pointed p w)
  point_keeps limits old w Unasked same fits spares has = ap (λ f. map.get f name) same ∙ has
  point_keeps limits old w Plain same fits spares has = ap (λ f. map.get f name) same ∙ has
  point_keeps limits old w (Freezes new) same fits spares has = get_other nat_list_cmp_total exact_bytes w.frozen new w.live name other ∙ ap (λ f. map.get f name) same ∙ has
    where
      other : name ≢ new
      other is = true≢false (sym (ap is_some has) ∙ ap (map.contains_key old.frozen) is ∙ fits.1)
  point_keeps limits old w (Thaws gone) same fits spares has = get_left nat_list_cmp_total exact_bytes w.frozen gone name (λ is. spares (ap Thaws (sym is))) ∙ ap (λ f. map.get f name) same ∙ has
  point_keeps limits old w (Restores other) same fits spares has = ap (λ f. map.get f name) ((restored_beside w other).frozen ∙ same) ∙ has

  comes_keep : (limits : Limits) (old : World) (session : ℕ) (c : Call) (o : Outcome) (new : World) → Spares name (event.Call session c) → HasTree name tree old → decision limits old session c ≡ Ok o → Comes limits old session o new → HasTree name tree new
  comes_keep limits old session c o new spares has decided comes =
      let d = decided_is limits old session c o decided in
      subst (HasTree name tree) (sym comes.world)
      (point_keeps limits old _ o.point (caller_keeps _ session _) d.points.fits (λ is. spares session (ap (event.Call session) (by_call limits old session c o d.points.asks decided name is))) has)

  becomes_keep : (limits : Limits) (old : World) (session : ℕ) (c : Call) (d : Result Outcome Refusal) (reply : Reply) (new : World) → Spares name (event.Call session c) → HasTree name tree old → decision limits old session c ≡ d → Becomes limits old session d reply new → HasTree name tree new
  becomes_keep limits old session c (Err r) reply new spares has is becomes = subst (HasTree name tree) (sym becomes.1) has
  becomes_keep limits old session c (Ok o) reply new spares has is becomes = comes_keep limits old session c o new spares has is becomes.1

  -- ---- events

  to_running : (s : State) (w : World) → s ≡ Running w → HasTree name tree w → HasFrozen name tree s
  to_running s w is has = subst (HasFrozen name tree) (sym is) has

  to_stopped : (s : State) (before after : World) → s ≡ Stopped before after → HasTree name tree before → HasTree name tree after → HasFrozen name tree s
  to_stopped s before after is first last = subst (HasFrozen name tree) (sym is) (first, last)

  call_keeps : (limits : Limits) (old : World) (session : ℕ) (c : Call) (met : Option Mishap) (reply : Reply) (next : State) → Spares name (event.Call session c) → HasTree name tree old → CallStep limits old session c met reply next → HasFrozen name tree next
  call_keeps limits old session c None reply next spares has step = to_running next step.0 step.2 (becomes_keep limits old session c (decision limits old session c) reply step.0 spares has refl step.1)
  call_keeps limits old session c (Some Memory) reply next spares has step = to_running next old step.1.same has
  call_keeps limits old session c (Some Read) reply next spares has step = to_running next old step.1.same has
  call_keeps limits old session c (Some Write) reply next spares has step = to_stopped next (settle old) (settle step.next) step.stops.left has (comes_keep limits old session c step.passes.0 step.next spares has step.passes.1 step.comes)
  call_keeps limits old session c (Some Space) reply next spares has step = to_running next old step.1.same has
  call_keeps limits old session c (Some Age) reply next spares has step = to_running next old step.1.same has

  fails_keep : (old : World) (m : Mishap) (reply : Reply) (next : State) → HasTree name tree old → PointFails old m reply next → HasFrozen name tree next
  fails_keep old Memory reply next has step = to_running next old step.same has
  fails_keep old Read reply next has step = to_running next old step.same has
  fails_keep old Write reply next has step = to_stopped next (settle old) (settle old) step.left has has
  fails_keep old Space reply next has step = absurd step
  fails_keep old Age reply next has step = to_running next old step.same has

  point_step_keeps : (limits : Limits) (old : World) (met : Option Mishap) (reply : Reply) (next : State) → HasTree name tree old → EventStep limits (Running old) event.Step met reply next → HasFrozen name tree next
  point_step_keeps limits old None reply next has step = to_running next old step.1 has
  point_step_keeps limits old (Some m) reply next has step = fails_keep old m reply next has step

  restart_keeps : (limits : Limits) (old : World) (met : Option Mishap) (reply : Reply) (next : State) → HasTree name tree old → EventStep limits (Running old) event.Restart met reply next → HasFrozen name tree next
  restart_keeps limits old None reply next has step = to_running next (settle old) step.1 has
  restart_keeps limits old (Some m) reply next has (inl step) = fails_keep old m reply next has step
  restart_keeps limits old (Some m) reply next has (inr step) = to_stopped next (settle old) (settle old) step.3 has has

  mount_keeps : (limits : Limits) (before after : World) (met : Option Mishap) (reply : Reply) (next : State) → HasTree name tree before → HasTree name tree after → EventStep limits (Stopped before after) event.Restart met reply next → HasFrozen name tree next
  mount_keeps limits before after None reply next first last (told, inl is) = to_running next before is first
  mount_keeps limits before after None reply next first last (told, inr is) = to_running next after is last
  mount_keeps limits before after (Some m) reply next first last step = to_stopped next before after step.3 first last

  event_keeps : (limits : Limits) (s : State) (e : Event) (met : Option Mishap) (reply : Reply) (next : State) → Spares name e → HasFrozen name tree s → EventStep limits s e met reply next → HasFrozen name tree next
  event_keeps limits (Running old) (event.Call session c) met reply next spares has step = call_keeps limits old session c met reply next spares has step
  event_keeps limits (Running old) event.Step met reply next spares has step = point_step_keeps limits old met reply next has step
  event_keeps limits (Running old) event.Restart met reply next spares has step = restart_keeps limits old met reply next has step
  event_keeps limits (Stopped before after) (event.Call session c) None reply next spares has step = to_stopped next before after step.1 has.0 has.1
  event_keeps limits (Stopped before after) (event.Call session c) (Some m) reply next spares has step = absurd step
  event_keeps limits (Stopped before after) event.Step None reply next spares has step = to_stopped next before after step.1 has.0 has.1
  event_keeps limits (Stopped before after) event.Step (Some m) reply next spares has step = absurd step
  event_keeps limits (Stopped before after) event.Restart met reply next spares has step = mount_keeps limits before after met reply next has.0 has.1 step

  -- ---- runs

  run_keeps : (May : Option Mishap → Type 0) (limits : Limits) (s : State) (events : List Event) (replies : List Reply) (next : State) → AllByRecursion (Spares name) events → HasFrozen name tree s → Run May limits s events replies next → HasFrozen name tree next
  run_keeps May limits s [] [] next spares has is = subst (HasFrozen name tree) (sym is) has
  run_keeps May limits s (e ∷ events) (reply ∷ replies) next spares has (mid, (met, may, step), rest) =
      run_keeps May limits mid events replies next spares.1 (event_keeps limits s e met reply mid spares.0 has step) rest
  run_keeps May limits s [] (reply ∷ replies) next spares has run = absurd run
  run_keeps May limits s (e ∷ events) [] next spares has run = absurd run

  left_keeps : (s : State) (w : World) → HasFrozen name tree s → Left s w → HasTree name tree w
  left_keeps (Running old) w has is = subst (HasTree name tree) (sym is) has
  left_keeps (Stopped before after) w has (inl is) = subst (HasTree name tree) (sym is) has.0
  left_keeps (Stopped before after) w has (inr is) = subst (HasTree name tree) (sym is) has.1

  left_in_keeps : (limits : Limits) (s : State) (e : Event) (w : World) → Spares name e → HasFrozen name tree s → LeftIn limits s e w → HasTree name tree w
  left_in_keeps limits (Running old) (event.Call session c) w spares has (inl left) = left_keeps (Running old) w has left
  left_in_keeps limits (Running old) (event.Call session c) w spares has (inr after) =
      subst (HasTree name tree) (sym after.3) (becomes_keep limits old session c (decision limits old session c) after.0 after.1 spares has refl after.2)
  left_in_keeps limits (Running old) event.Step w spares has left = left_keeps (Running old) w has left
  left_in_keeps limits (Running old) event.Restart w spares has left = left_keeps (Running old) w has left
  left_in_keeps limits (Stopped before after) e w spares has left = left_keeps (Stopped before after) w has left

  cut_keeps : (May : Option Mishap → Type 0) (limits : Limits) (s : State) (events : List Event) (replies : List Reply) (w : World) → AllByRecursion (Spares name) events → HasFrozen name tree s → CutRun May limits s events replies w → HasTree name tree w
  cut_keeps May limits s [] [] w spares has left = left_keeps s w has left
  cut_keeps May limits s (e ∷ events) [] w spares has left = left_in_keeps limits s e w spares.0 has left
  cut_keeps May limits s (e ∷ events) (reply ∷ replies) w spares has (mid, (met, may, step), rest) =
      cut_keeps May limits mid events replies w spares.1 (event_keeps limits s e met reply mid spares.0 has step) rest
  cut_keeps May limits s [] (reply ∷ replies) w spares has cut = absurd cut

  life_keeps : (May : Option Mishap → Type 0) (limits : Limits) (first : World) (runs : List (List Event × List Reply)) (last : World) → AllByRecursion (λ (r : List Event × List Reply). AllByRecursion (Spares name) r.0) runs → HasTree name tree first → Life May limits first runs last → HasTree name tree last
  life_keeps May limits first [] last spares has is = subst (HasTree name tree) (sym is) has
  life_keeps May limits first (r ∷ rs) last spares has (next, cut, rest) = life_keeps May limits next rs last spares.1 (cut_keeps May limits (Running first) r.0 r.1 next spares.0 has cut) rest

pub events_keep : (limits : Limits) (name : List ℕ) (tree : Tree) (s : State) (e : Event) (met : Option Mishap) (reply : Reply) (next : State) → Spares name e → HasFrozen name tree s → EventStep limits s e met reply next → HasFrozen name tree next
events_keep limits name tree = event_keeps name tree limits

pub runs_keep : (limits : Limits) (name : List ℕ) (tree : Tree) (s : State) (events : List Event) (replies : List Reply) (next : State) → AllByRecursion (Spares name) events → HasFrozen name tree s → Run Anything limits s events replies next → HasFrozen name tree next
runs_keep limits name tree = run_keeps name tree Anything limits

pub crashes_keep : (limits : Limits) (name : List ℕ) (tree : Tree) (s : State) (events : List Event) (replies : List Reply) (w : World) → AllByRecursion (Spares name) events → HasFrozen name tree s → CutRun Anything limits s events replies w → HasTree name tree w
crashes_keep limits name tree = cut_keeps name tree Anything limits

pub lives_keep : (limits : Limits) (name : List ℕ) (tree : Tree) (first : World) (runs : List (List Event × List Reply)) (last : World) → AllByRecursion (λ (r : List Event × List Reply). AllByRecursion (Spares name) r.0) runs → HasTree name tree first → Life Anything limits first runs last → HasTree name tree last
lives_keep limits name tree = life_keeps name tree Anything limits
