-- What a call answers that asks for a whole point.
use Rattle.std.proofs.Common.{◌≡◌, inl, inr, ℕ, ◌+◌, ◌*◌, ◌<◌, ◌≤◌, ◌==◌, ◌||◌, if◌then◌else◌, Bool, true, false, cond, List, Option, Some, None, Result, Ok, Err, is_some, refl, sym, ap, subst, ◌∙◌, arith, leb-true}
use Rattle.std.specs.FinMap as map
use Rattle.std.specs.Prelude.{IsOk, nat_lt}
use Rattle.std.proofs.lemmas.Bool.{eqb-false, eqb-true, ltb-false, ltb-true, true≢false}
use Rattle.sn_limits.specs.Versions.{limits_written}
use Rattle.sn_walk.specs.Chains.{◌>>=◌}
use Rattle.sn_walk.proofs.ChainLemmas.{bind_ok}
use Rattle.sn_walk.specs.declared.object.Home.TheVariants.{Frozen}
use Rattle.sn_model.specs.declared.call.Call.{Call}
use Rattle.sn_model.specs.declared.call.Call.TheVariants as call
use Rattle.sn_model.specs.declared.call.Event.TheVariants as event
use Rattle.sn_model.specs.declared.reply.Errno.TheVariants.{Enoent, Enospc}
use Rattle.sn_model.specs.declared.reply.Refusal.{Refusal}
use Rattle.sn_model.specs.declared.reply.Reply.{Reply}
use Rattle.sn_model.specs.Calls as calls
use Rattle.sn_model.proofs.Deciding as deciding
use Rattle.sn_model.specs.Calls.{outcome_of, ready}
use Rattle.sn_model.specs.Charges.{charge_of, point_charge}
use Rattle.sn_model.specs.Machine.{Running, Mishap, Memory, Read, Write, Space, Age, refused}
use Rattle.sn_model.specs.declared.outcome.AskedPoint.{AskedPoint}
use Rattle.sn_model.specs.declared.outcome.AskedPoint.TheVariants.{Unasked, Plain, Freezes, Thaws, Restores}
use Rattle.sn_model.specs.declared.outcome.Caller.{Caller}
use Rattle.sn_model.specs.declared.outcome.Caller.TheVariants.{Stays}
use Rattle.sn_model.specs.declared.outcome.Outcome.{Outcome}
use Rattle.sn_model.specs.declared.outcome.Pending.{Pending}
use Rattle.sn_model.specs.declared.outcome.Pending.TheVariants.{Nothing}
use Rattle.sn_model.specs.Outcomes.{points}
use Rattle.sn_model.specs.Settling.{dropped, nameless_if, nameless_in, settle}
use Rattle.sn_model.specs.SnapshotCalls.{closed_tree, present_snapshot, snap_delete_outcome, snapshot_argument, user_0}
use Rattle.sn_model.specs.Steps.{AsksForPoint, Becomes, Comes, IsNumberFor, TakesMemory, asks_for_point, changed, decision, filled, pointed, with_caller}
use Rattle.sn_model.specs.Tests.{logged_in, plain}
use Rattle.sn_model.specs.Tree.{Tree}
use Rattle.sn_model.specs.World.{World, trees_of, viewed_trees}
use Rattle.sn_model.specs.Worlds.{IsWorld}
use Rattle.sn_model.proofs.DecidedLemmas.{decided_is}
use Rattle.sn_model.proofs.DecisionLemmas.{ok, same_ok}
use Rattle.sn_model.proofs.DroppedLemmas.{all_held, dropped_same}
use Rattle.sn_model.proofs.OutcomeLemmas.{FitsPoint, IsAlone, IsDecided, is_asked}
use Rattle.sn_model.proofs.PointedLemmas.{pointed_world}
use Rattle.sn_model.proofs.SnapshotLemmas.{create_is, delete_is, restore_is}
use Rattle.sn_held.specs.Rooms.{charged_behind, gives_back}
use Rattle.sn_overlay.specs.Layers.{Layer}
use Rattle.sn_block.proofs.CountLemmas.{later-is}
use Rattle.sn_device.specs.declared.status.Status.{Status}
use Rattle.sn_held.specs.Held.{Held, RunsReady}
use Rattle.sn_held.proofs.EventLemmas.{runs_show}
use Rattle.sn_cp_progress.specs.Meaning.{RunsWith}
use Rattle.sn_cp_whole.specs.Making.{CanBeAsked}
use Rattle.sn_cp_whole.specs.declared.fault.PointFault.{PointFault}
use Rattle.sn_events.specs.Answers.{Answers, AsksFirst, BuildsFor, DoesNotFit, IsCutCall, IsCutPoint, is_fitting}
use Rattle.sn_events.specs.Pointing.{CanBringBack, CanMake, CanPoint, Finishes, IsPointed, IsUnpointed, MakesAsked, Points, errno_of_point, is_restore, stops_for}
use Rattle.sn_events.specs.Serving.{AsksFrom, CutsTo, IsToAsk, ServesAsked, has_room_of}
use Rattle.sn_events.proofs.FinishLemmas.{answers_behind, cut_finish, is_fin}
use Rattle.sn_events.proofs.PointLemmas.{PointEvent, asks_behind, can_make_room, either_same, in_any_world, in_its_world, made_point, running_between, space_answers, unchanged_call, unpointed_answers}

-- a call whose tests pass may take memory, and what it asks for can be made of the snapshots, but where it brings one back
abbrev CanAsk : World → Call → Outcome → Type 0
CanAsk w c o = TakesMemory c × (is_restore o.point ≡ false → CanBeAsked o.point w)

ok_point : (w : World) (p : AskedPoint) (o : Outcome) → points p ≡ o → CanBeAsked p w → CanBeAsked o.point w
ok_point w p o is can = subst (λ (x : Outcome). CanBeAsked x.point w) is can

module _ (w : World) (session : ℕ) where
  sync_asks : (o : Outcome) → decision limits_written w session call.Sync ≡ Ok o → CanAsk w call.Sync o
  sync_asks o e =
      let r = bind_ok (ready w session call.Sync) (outcome_of limits_written w) o e in
      let s = bind_ok (logged_in w session) (λ _. ok deciding.sync) r.0 r.1 in
      (tt, λ _. ok_point w Plain o (same_ok (points Plain) o (subst (λ (x : calls.Ready). outcome_of limits_written w x ≡ Ok o) (sym (same_ok deciding.sync r.0 s.2)) r.2)) tt)

  create_asks : (name : List ℕ) (o : Outcome) → decision limits_written w session (call.SnapCreate name) ≡ Ok o → CanAsk w (call.SnapCreate name) o
  create_asks name o e =
      let r = bind_ok (ready w session (call.SnapCreate name)) (outcome_of limits_written w) o e in
      let s = bind_ok (logged_in w session) (λ s. snapshot_argument name >>= (λ new. ok (deciding.snap_create s new))) r.0 r.1 in
      let n = bind_ok (snapshot_argument name) (λ new. ok (deciding.snap_create s.0 new)) r.0 s.2 in
      let is = create_is limits_written w s.0 n.0 o (subst (λ (x : calls.Ready). outcome_of limits_written w x ≡ Ok o) (sym (same_ok (deciding.snap_create s.0 n.0) r.0 n.2)) r.2) in
      (tt, λ _. ok_point w (Freezes n.0) o is.0 (is.1, is.2))

  present_is : (name : List ℕ) (u : Unit {0}) (there : Bool) → cond there (Ok (tt {0})) (Err (plain Enoent)) ≡ Ok u → there ≡ true
  present_is name u true e = refl
  present_is name u false e = cc

  delete_asks : (name : List ℕ) (o : Outcome) → decision limits_written w session (call.SnapDelete name) ≡ Ok o → CanAsk w (call.SnapDelete name) o
  unfolding snap_delete_outcome
  delete_asks name o e =
      let r = bind_ok (ready w session (call.SnapDelete name)) (outcome_of limits_written w) o e in
      let s = bind_ok (logged_in w session) (λ s. snapshot_argument name >>= (λ old. ok (deciding.snap_delete s old))) r.0 r.1 in
      let n = bind_ok (snapshot_argument name) (λ old. ok (deciding.snap_delete s.0 old)) r.0 s.2 in
      let came = subst (λ (x : calls.Ready). outcome_of limits_written w x ≡ Ok o) (sym (same_ok (deciding.snap_delete s.0 n.0) r.0 n.2)) r.2 in
      let user = bind_ok (user_0 s.0.cred) (λ _. present_snapshot (viewed_trees (trees_of w)) n.0 >>= (λ _. closed_tree w (Frozen n.0) >>= (λ _. ok (points (Thaws n.0))))) o came in
      let there = bind_ok (present_snapshot (viewed_trees (trees_of w)) n.0) (λ _. closed_tree w (Frozen n.0) >>= (λ _. ok (points (Thaws n.0)))) o user.2 in
      (tt, λ _. ok_point w (Thaws n.0) o (delete_is w s.0 n.0 o came).0 (present_is n.0 there.0 (map.contains_key w.frozen n.0) there.1))

  restore_asks : (name : List ℕ) (o : Outcome) → decision limits_written w session (call.SnapRestore name) ≡ Ok o → CanAsk w (call.SnapRestore name) o
  restore_asks name o e =
      let r = bind_ok (ready w session (call.SnapRestore name)) (outcome_of limits_written w) o e in
      let s = bind_ok (logged_in w session) (λ s. snapshot_argument name >>= (λ old. ok (deciding.snap_restore s old))) r.0 r.1 in
      let n = bind_ok (snapshot_argument name) (λ old. ok (deciding.snap_restore s.0 old)) r.0 s.2 in
      let is = restore_is limits_written w s.0 n.0 o (subst (λ (x : calls.Ready). outcome_of limits_written w x ≡ Ok o) (sym (same_ok (deciding.snap_restore s.0 n.0) r.0 n.2)) r.2) in
      (tt, λ other. absurd (true≢false (ap (λ (x : Outcome). is_restore x.point) is.0 ∙ other)))

  can_ask : (c : Call) (o : Outcome) → asks_for_point c ≡ true → decision limits_written w session c ≡ Ok o → CanAsk w c o
  can_ask (call.Login uid gid groups) o e decided = absurd (true≢false (sym e))
  can_ask (call.Umask mask) o e decided = absurd (true≢false (sym e))
  can_ask (call.Mkdir path mode) o e decided = absurd (true≢false (sym e))
  can_ask (call.Chmod path mode) o e decided = absurd (true≢false (sym e))
  can_ask (call.Chown path uid gid) o e decided = absurd (true≢false (sym e))
  can_ask (call.Stat path) o e decided = absurd (true≢false (sym e))
  can_ask (call.Access path want) o e decided = absurd (true≢false (sym e))
  can_ask (call.GetAcl path kind) o e decided = absurd (true≢false (sym e))
  can_ask (call.SetAcl path kind acl) o e decided = absurd (true≢false (sym e))
  can_ask (call.Rmdir path) o e decided = absurd (true≢false (sym e))
  can_ask (call.Unlink path) o e decided = absurd (true≢false (sym e))
  can_ask (call.Link old new) o e decided = absurd (true≢false (sym e))
  can_ask (call.Rename old new) o e decided = absurd (true≢false (sym e))
  can_ask (call.Readdir path) o e decided = absurd (true≢false (sym e))
  can_ask call.Logout o e decided = absurd (true≢false (sym e))
  can_ask (call.Open path flags mode) o e decided = absurd (true≢false (sym e))
  can_ask (call.Close fd) o e decided = absurd (true≢false (sym e))
  can_ask (call.Read fd count) o e decided = absurd (true≢false (sym e))
  can_ask (call.Write fd bytes) o e decided = absurd (true≢false (sym e))
  can_ask (call.Seek fd offset) o e decided = absurd (true≢false (sym e))
  can_ask (call.Ftruncate fd size) o e decided = absurd (true≢false (sym e))
  can_ask call.Sync o e decided = sync_asks o decided
  can_ask (call.SnapCreate name) o e decided = create_asks name o decided
  can_ask (call.SnapDelete name) o e decided = delete_asks name o decided
  can_ask (call.SnapRestore name) o e decided = restore_asks name o decided
  can_ask call.SnapList o e decided = absurd (true≢false (sym e))

-- nothing else is done but the point
alone : (p : AskedPoint) (change : Pending) (caller : Caller) → is_asked p ≡ true → IsAlone p change caller → (change ≡ Nothing) × (caller ≡ Stays)
alone Unasked change caller e is = absurd (true≢false (sym e))
alone Plain change caller e is = is
alone (Freezes name) change caller e is = is
alone (Thaws name) change caller e is = is
alone (Restores name) change caller e is = is

module _ (w : World) (session : ℕ) (c : Call) (asks : asks_for_point c ≡ true) (o : Outcome) (decided : decision limits_written w session c ≡ Ok o) where
  so : IsDecided limits_written w session c o
  so = decided_is limits_written w session c o decided

  nothing : (o.change ≡ Nothing) × (o.caller ≡ Stays)
  nothing = alone o.point o.change o.caller (so.points.asks ∙ asks) so.points.alone

  takes : TakesMemory c × IsOk (ready w session c)
  takes = let r = bind_ok (ready w session c) (outcome_of limits_written w) o decided in ((can_ask w session c o asks decided).0, subst (λ (x : Result calls.Ready Refusal). IsOk x) (sym r.1) refl)

  -- what is left of the world is what the point makes of it
  comes_to : IsWorld limits_written w → Comes limits_written w session o (pointed o.point w)
  comes_to whole = record {
    number = 0;
    free = subst (IsNumberFor limits_written w.live 0) (sym nothing.0) tt;
    tree = w.live;
    applied = ap (λ (p : Pending). changed limits_written 0 p w.live) nothing.0;
    world = ap (pointed o.point) (sym (dropped_same limits_written w (all_held limits_written w whole)) ∙ ap (λ (k : Caller). dropped (with_caller w session (filled 0 k))) (sym nothing.1));
  }

  becomes : IsWorld limits_written w → Becomes limits_written w session (decision limits_written w session c) o.told (pointed o.point w)
  becomes whole = subst (λ (d : Result Outcome Refusal). Becomes limits_written w session d o.told (pointed o.point w)) (sym decided) (refl, comes_to whole)

  whole_pointed : IsWorld limits_written w → IsWorld limits_written (pointed o.point w)
  whole_pointed whole = pointed_world limits_written w o.point whole so.points.fits

-- ---- what is answered

-- it is made, and the call is answered
asked_answers : (old new : Held) (session : ℕ) (c : Call) (asked : AsksFirst old session c) → (DoesNotFit old session c → ⊥) → IsWorld limits_written old.world → IsPointed asked.outcome.point old new → AsksFrom old.world session c asked.outcome.told old new false
asked_answers old new session c asked fits whole p = record {
  answers = record {
    met = None;
    fin = old;
    finish = inl refl;
    mid = old;
    point = inl refl;
    may = ap (λ (s : Status). s.failures) p.costs;
    next = Running after;
    step = (after, becomes old.world session c asked.asks asked.outcome asked.decided whole, refl);
    means = (refl, running_between new after p.fresh.between p.runs);
    lasts = record { moments = p.moments; answered = runs_show new after p.runs.runs };
    later = later-is _ _ old.status new.status p.costs;
    leaves = inl (record { asked = asked; fits = fits; made = made_point after (BuildsFor asked.outcome.point old) old new p });
  };
  at_once = (refl, refl);
  cuts = tt;
}
  where
    after : World
    after = pointed asked.outcome.point old.world

-- A point isn't made that a call needs which asks for one: its own, or one before it, as it is built and where it is cut off.
module _ (old : Held) (session : ℕ) (c : Call) (whole : IsWorld limits_written old.world) (asked : AsksFirst old session c) where
  abbrev after : World
  after = pointed asked.outcome.point old.world

  takes_some : TakesMemory c × IsOk (ready old.world session c)
  takes_some = takes old.world session c asked.asks asked.outcome asked.decided

  asked_point : (Builds : Layer → Type 0) → ((new : Held) → IsCutPoint Builds old new.disk new.status → IsCutCall old old session c new.disk new.status) → PointEvent (event.Call session c) Builds old old.world
  asked_point Builds cuts = record {
    needed = inr asked;
    memory = (takes_some, record { told = refl; same = refl });
    read = (takes_some, record { told = refl; same = refl });
    age = ((asked.outcome, asked.decided, inr asked.asks), record { told = refl; same = refl });
    aged = λ last. (inr asked, last);
    after = settle after;
    cut = record { passes = (asked.outcome, asked.decided, inr asked.asks); next = after; comes = comes_to old.world session c asked.asks asked.outcome asked.decided whole; stops = record { told = refl; left = refl } };
    unchanged = unchanged_call old session c;
    cut_point = cuts;
    cut_finish = λ new cut. inr (inr (inr cut));
  }

  -- its own
  own_point : (DoesNotFit old session c → ⊥) → PointEvent (event.Call session c) (BuildsFor asked.outcome.point old) old old.world
  own_point fits = asked_point (BuildsFor asked.outcome.point old) (λ new cut. inr (inl (asked, fits, cut)))

  -- the one before it that makes room
  room_point : DoesNotFit old session c → PointEvent (event.Call session c) (BuildsFor Plain old) old old.world
  room_point over = asked_point (BuildsFor Plain old) (λ new cut. inr (inr (inl (inr (asked.asks, over), cut))))

  cuts_own : (new : Held) → (DoesNotFit old session c → ⊥) → (met : Option Mishap) → (met ≡ Some Write → IsCutPoint (BuildsFor asked.outcome.point old) old new.disk new.status) → CutsTo met old session c new
  cuts_own new fits None cut = tt
  cuts_own new fits (Some Memory) cut = tt
  cuts_own new fits (Some Read) cut = tt
  cuts_own new fits (Some Write) cut = inr (asked, fits, cut refl)
  cuts_own new fits (Some Space) cut = tt
  cuts_own new fits (Some Age) cut = tt

unpointed_asks : (old new : Held) (session : ℕ) (c : Call) (fault : PointFault) (whole : IsWorld limits_written old.world) (asked : AsksFirst old session c) → (DoesNotFit old session c → ⊥) → old.point ≡ None → RunsReady old old.world old.base → IsUnpointed fault asked.outcome.point old new
    → AsksFrom old.world session c (refused (errno_of_point fault)) old new (stops_for fault)
unfolding own_point asked_point
unpointed_asks old new session c fault whole asked fits between r is =
    let u = unpointed_answers (event.Call session c) (BuildsFor asked.outcome.point old) old (own_point old session c whole asked fits) between r (pointed asked.outcome.point old.world) (λ d either. either) fault new is in
    record { answers = u.answers; at_once = u.at_once; cuts = cuts_own old session c whole asked new fits u.answers.met u.cut }

-- what it asks for, where its tests have passed
abbrev pub first_asked : (h : Held) (session : ℕ) (c : Call) (o : Outcome) → asks_for_point c ≡ true → IsToAsk h session c o → AsksFirst h session c
first_asked h session c o asks to = record { asks = asks; outcome = o; decided = to.decided }

pub asked_made : (old new : Held) (session : ℕ) (c : Call) (o : Outcome) → asks_for_point c ≡ true → IsToAsk old session c o → IsWorld limits_written old.world → MakesAsked (Ok tt) o.point old new → ServesAsked o.told old session c new false
asked_made old new session c o asks to whole points r = asked_answers old new session c (first_asked old session c o asks to) to.fits whole (points r)

pub asked_unmade : (old new : Held) (session : ℕ) (c : Call) (o : Outcome) (fault : PointFault) → asks_for_point c ≡ true → IsToAsk old session c o → IsWorld limits_written old.world → old.point ≡ None → MakesAsked (Err fault) o.point old new
    → ServesAsked (refused (errno_of_point fault)) old session c new (stops_for fault)
asked_unmade old new session c o fault asks to whole between points r = unpointed_asks old new session c fault whole (first_asked old session c o asks to) to.fits between r (points r)

-- what is asked for can be made of the world, where it brings no snapshot back
can_point : (h : Held) (session : ℕ) (c : Call) (o : Outcome) → asks_for_point c ≡ true → decision limits_written h.world session c ≡ Ok o → IsWorld limits_written h.world → is_restore o.point ≡ false → CanPoint o.point h.world
can_point h session c o asks decided whole other = record {
  can = (can_ask h.world session c o asks decided).1 other;
  whole = whole_pointed h.world session c asks o decided whole;
  other = other;
}

-- and one that is brought back is there, and its charge is free
can_bring_back : (h : Held) (session : ℕ) (c : Call) (o : Outcome) (name : List ℕ) → asks_for_point c ≡ true → IsToAsk h session c o → IsWorld limits_written h.world → o.point ≡ Restores name → CanBringBack name h
can_bring_back h session c o name asks to whole is = record {
  tree = there.0;
  frozen = there.1;
  whole = subst (λ (p : AskedPoint). IsWorld limits_written (pointed p h.world)) is (whole_pointed h.world session c asks o to.decided whole);
  fits = free;
}
  where
    so : IsDecided limits_written h.world session c o
    so = decided_is limits_written h.world session c o to.decided

    found : FitsPoint limits_written h.world (Restores name)
    found = subst (FitsPoint limits_written h.world) is so.points.fits

    present : (o : Option Tree) → is_some o ≡ true → (tree : Tree) × (o ≡ Some tree)
    present None e = cc
    present (Some tree) e = (tree, refl)

    there : (tree : Tree) × (map.get h.world.frozen name ≡ Some tree)
    there = present (map.get h.world.frozen name) found.0

    charge_is : o.charge ≡ limits_written.inode_charge * nameless_in there.0
    charge_is =
        let none : charge_of limits_written h.world.live o.change ≡ 0 = ap (charge_of limits_written h.world.live) (nothing h.world session c asks o to.decided).0 in
        let paid : o.charge ≡ point_charge limits_written h.world o.point = omega (arith, so.pays, none) in
        paid ∙ ap (point_charge limits_written h.world) is ∙ ap (λ (x : Option Tree). limits_written.inode_charge * nameless_if x) there.1

    fitting : (b : Bool) → is_fitting h o ≡ b → 0 < o.charge → is_fitting h o ≡ true
    fitting true e some = e
    fitting false e some = absurd (to.fits (record { outcome = o; decided = to.decided; some = some; over = e }))

    told : (b : Bool) → nat_lt 0 o.charge ≡ b → o.charge ≤ h.room.free
    told false e = omega (arith, ltb-false 0 o.charge e)
    told true e =
        let some : 0 < o.charge = ltb-true 0 o.charge e in
        omega (arith, leb-true (charged_behind limits_written h.room (nameless_in h.world.live) o + (if gives_back o.change then 0 else limits_written.reserve)) h.room.free (fitting (is_fitting h o) refl some))

    free : limits_written.inode_charge * nameless_in there.0 ≤ h.room.free
    free = subst (λ (n : ℕ). n ≤ h.room.free) charge_is (told (nat_lt 0 o.charge) refl)

pub can_make : (h : Held) (session : ℕ) (c : Call) (o : Outcome) → asks_for_point c ≡ true → IsToAsk h session c o → IsWorld limits_written h.world → CanMake o.point h
can_make h session c o asks to whole = told o.point refl
  where
    plain : (p : AskedPoint) → o.point ≡ p → is_restore p ≡ false → CanPoint p h.world
    plain p is other = subst (λ (x : AskedPoint). CanPoint x h.world) is (can_point h session c o asks to.decided whole (ap is_restore is ∙ other))

    told : (p : AskedPoint) → o.point ≡ p → CanMake p h
    told Unasked is = plain Unasked is refl
    told Plain is = plain Plain is refl
    told (Freezes name) is = plain (Freezes name) is refl
    told (Thaws name) is = plain (Thaws name) is refl
    told (Restores name) is = can_bring_back h session c o name asks to whole is

-- ---- whether there is room

module _ (h : Held) (session : ℕ) (c : Call) (o : Outcome) (decided : decision limits_written h.world session c ≡ Ok o) where
  some_charge : (b : Bool) → (o.charge == 0) ≡ b → (b || is_fitting h o) ≡ false → 0 < o.charge
  some_charge true e f = absurd (true≢false f)
  some_charge false e f = omega (arith, eqb-false o.charge 0 e)

  not_fitting : (b : Bool) → (b || is_fitting h o) ≡ false → is_fitting h o ≡ false
  not_fitting true f = absurd (true≢false f)
  not_fitting false f = f

  pub lacks_room : has_room_of h o ≡ false → DoesNotFit h session c
  lacks_room none = record { outcome = o; decided = decided; some = some_charge (o.charge == 0) refl none; over = not_fitting (o.charge == 0) none }

  pub has_room : has_room_of h o ≡ true → DoesNotFit h session c → ⊥
  has_room room over = told (o.charge == 0) refl room
    where
      same : over.outcome ≡ o
      same = same_ok over.outcome o (sym over.decided ∙ decided)

      told : (b : Bool) → (o.charge == 0) ≡ b → (b || is_fitting h o) ≡ true → ⊥
      told true e f = omega (arith, eqb-true o.charge 0 e, ap (λ (x : Outcome). x.charge) same, over.some)
      told false e f = true≢false (sym f ∙ sym (ap (is_fitting h) same) ∙ over.over)

  -- it has been asked for
  pub is_to_ask : has_room_of h o ≡ true → IsToAsk h session c o
  is_to_ask room = record { decided = decided; fits = has_room room }

-- What was decided of a world is decided of the same one: after the point in progress
pub decided_behind : (old fin : Held) (session : ℕ) (c : Call) (o : Outcome) → RunsWith old.point old old.world → Finishes (Ok tt) old fin → decision limits_written old.world session c ≡ Ok o → decision limits_written fin.world session c ≡ Ok o
decided_behind old fin session c o runs finishes decided = subst (λ (w : World). decision limits_written w session c ≡ Ok o) (sym (is_fin old fin (finishes runs) runs).world) decided

-- and after one that makes room
pub decided_with_room : (old mid : Held) (session : ℕ) (c : Call) (o : Outcome) → RunsReady old old.world old.base → IsWorld limits_written old.world → Points (Ok tt) Plain old mid → decision limits_written old.world session c ≡ Ok o → decision limits_written mid.world session c ≡ Ok o
decided_with_room old mid session c o ready whole points decided = subst (λ (w : World). decision limits_written w session c ≡ Ok o) (sym (points ready (can_make_room old whole)).world) decided

-- ---- after the point in progress, and after one that makes room

-- at once
pub asked_at_once : (old new : Held) (session : ℕ) (c : Call) (reply : Reply) (has_stopped : Bool) → old.point ≡ None → ServesAsked reply old session c new has_stopped → Answers (event.Call session c) reply old false new has_stopped
asked_at_once old new session c reply has_stopped between serves = in_its_world (event.Call session c) old new reply has_stopped between (λ r. (serves r).answers)

-- after one that makes room
pub asked_behind_room : (old mid new : Held) (session : ℕ) (c : Call) (reply : Reply) (has_stopped : Bool) → IsWorld limits_written old.world → old.point ≡ None → AsksForPoint c → DoesNotFit old session c → Points (Ok tt) Plain old mid → ServesAsked reply mid session c new has_stopped
    → Answers (event.Call session c) reply old false new has_stopped
asked_behind_room old mid new session c reply has_stopped whole between asks over points serves =
    in_its_world (event.Call session c) old new reply has_stopped between (λ r.
    let p = points r (can_make_room old whole) in
    let ready = subst (λ (w : World). RunsReady mid w mid.base) (sym p.world) p.runs in
    asks_behind old mid new session c (inr (asks, over)) p (subst (λ (w : World). AsksFrom w session c reply mid new has_stopped) p.world (serves ready)))

-- there is no room after it either
pub asked_without_room : (old mid : Held) (session : ℕ) (c : Call) → IsWorld limits_written old.world → old.point ≡ None → AsksForPoint c → DoesNotFit old session c → Points (Ok tt) Plain old mid → DoesNotFit mid session c → Answers (event.Call session c) (refused Enospc) old false mid false
asked_without_room old mid session c whole between asks over points still =
    in_its_world (event.Call session c) old mid (refused Enospc) false between (λ r. space_answers old mid session c (inr (asks, over)) (points r (can_make_room old whole)) still)

-- the one that makes room isn't made
pub room_unmade : (old new : Held) (session : ℕ) (c : Call) (fault : PointFault) → IsWorld limits_written old.world → old.point ≡ None → AsksFirst old session c → DoesNotFit old session c → Points (Err fault) Plain old new → Answers (event.Call session c) (refused (errno_of_point fault)) old false new (stops_for fault)
unfolding room_point asked_point
room_unmade old new session c fault whole between asked over points =
    in_its_world (event.Call session c) old new (refused (errno_of_point fault)) (stops_for fault) between (λ r.
    (unpointed_answers (event.Call session c) (BuildsFor Plain old) old (room_point old session c whole asked over) between r old.world (λ d either. inl (either_same either)) fault new (points r (can_make_room old whole))).answers)

-- after the point in progress
pub asked_after_finish : (old fin new : Held) (session : ℕ) (c : Call) (reply : Reply) (has_stopped : Bool) → AsksFirst old session c → Finishes (Ok tt) old fin → Answers (event.Call session c) reply fin false new has_stopped → Answers (event.Call session c) reply old false new has_stopped
asked_after_finish old fin new session c reply has_stopped asked finishes answers =
    in_any_world (event.Call session c) old new reply has_stopped (λ r.
    answers_behind (event.Call session c) old fin new (is_fin old fin (finishes r) r) tt (inr asked) reply has_stopped answers)

-- that was cut off
pub asked_cut : (old new : Held) (session : ℕ) (c : Call) (fault : PointFault) → AsksFirst old session c → IsWorld limits_written old.world → Finishes (Err fault) old new → Answers (event.Call session c) (refused (errno_of_point fault)) old false new (stops_for fault)
asked_cut old new session c fault asked whole finishes =
    in_any_world (event.Call session c) old new (refused (errno_of_point fault)) (stops_for fault) (λ r.
    cut_finish (event.Call session c) (λ _. ⊥) old (asked_point old session c whole asked (λ _. ⊥) (λ new cut. absurd cut.builds)) new fault (finishes r))
