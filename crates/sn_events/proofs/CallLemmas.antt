-- What a call answers, by how it ends.
use Rattle.std.specs.Prelude.{IsOk, is_none, is_some}
use Rattle.std.proofs.Common.{◌≡◌, inl, inr, ◌&&◌, ◌||◌, ℕ, ◌+◌, ◌-◌, ◌≤◌, if◌then◌else◌, Bool, true, false, Option, Some, None, Result, Ok, Err, refl, sym, ap, subst, ◌∙◌, arith, leb-true}
use Rattle.std.specs.FinMap as map
use Rattle.std.proofs.lemmas.Bool.{true≢false}
use Rattle.sn_limits.specs.Versions.{limits_written}
use Rattle.sn_model.specs.declared.call.Call.{Call}
use Rattle.sn_model.specs.declared.call.Event.TheVariants as event
use Rattle.sn_model.specs.declared.change.Change.{Change}
use Rattle.sn_model.specs.declared.change.Change.TheVariants.{Make, AddLink, Remove, Rename, Write as WriteBytes, SetSize, SetAttributes}
use Rattle.sn_model.specs.declared.outcome.Caller.{Caller}
use Rattle.sn_model.specs.declared.outcome.Outcome.{Outcome}
use Rattle.sn_model.specs.declared.reply.Errno.TheVariants.{Eio, Estopped, Enomem}
use Rattle.sn_model.specs.declared.reply.Refusal.{Refusal}
use Rattle.sn_model.specs.declared.reply.Reply.{Reply}
use Rattle.sn_model.specs.declared.reply.Reply.TheVariants as answer
use Rattle.sn_model.specs.Changes.{apply}
use Rattle.sn_model.specs.Charges.{charge_for}
use Rattle.sn_model.specs.NameTree.{IsHierarchy}
use Rattle.sn_overlay.specs.Needs.{AreCharged}
use Rattle.sn_held.specs.Rooms.{RoomCounts, charged_behind, dropping, gives_back}
use Rattle.sn_held.specs.Rooms.{logged as logs}
use Rattle.sn_held.specs.Room.{HasRoomFor}
use Rattle.sn_model.specs.Machine.{State, Running, Stopped, Mishap, Memory, Read, Write, EventStep, refused}
use Rattle.sn_model.specs.Outcomes.{is_opening}
use Rattle.sn_model.specs.Settling.{dropped, is_held, nameless_in, settle}
use Rattle.sn_model.specs.Steps.{Becomes, Comes, TakesMemory, asks_for_point, decision, pointed, with_caller, with_live}
use Rattle.sn_model.specs.Tree.{Node, Tree}
use Rattle.sn_model.specs.World.{World}
use Rattle.sn_model.specs.Worlds.{IsCall, IsWorld}
use Rattle.sn_caller.specs.declared.chosen.Chosen.{Chosen}
use Rattle.sn_caller.specs.Choosing.{Chooses}
use Rattle.sn_live_world.specs.declared.fault.CallFault.{CallFault}
use Rattle.sn_live_world.specs.declared.fault.CallFault.TheVariants as lack
use Rattle.sn_caller.specs.Numbering.{gives_kept, has_closed}
use Rattle.sn_number_table.specs.Numbers.{since_after, kept_after}
use Rattle.sn_caller.proofs.NumberLemmas.{and_not_false}
use Rattle.sn_caller.proofs.AskedLemmas.{chosen_stays}
use Rattle.sn_caller.proofs.StepLemmas.{MadeBy, chosen_becomes, chosen_whole, change_takes, opening_takes, served_whole}
use Rattle.sn_block.proofs.CountLemmas.{later-is, later-same}
use Rattle.sn_device.specs.declared.status.Status.{Status}
use Rattle.sn_changed.specs.Changed.{HasChanged}
use Rattle.sn_changed.specs.Laws.{ChangesMerge}
use Rattle.sn_changed.proofs.DroppedLemmas.{callers_drop}
use Rattle.sn_device.specs.Sectors.{AreSectors}
use Rattle.sn_device.specs.Disk.{Disk, IsSynced, reads}
use Rattle.sn_device.specs.Crash.{Touches}
use Rattle.sn_ondisk.specs.LogHalf.{InHalf}
use Rattle.sn_log.specs.Positions.{base_at, behind}
use Rattle.sn_held.specs.Events.{IsOfTree, LeavesEither, LeavesMore}
use Rattle.sn_held.specs.Held.{CarriesOn, Going, Held, Kept}
use Rattle.sn_cp_progress.specs.Meaning.{Means, RunsWith}
use Rattle.sn_cp_progress.proofs.MeaningLemmas.{appends_with, counted_with, root_with, runs_with, stays_lasts}
use Rattle.sn_sound.specs.Logs.{HasAgeLeft}
use Rattle.sn_examine.specs.Failing.{HasFailed}
use Rattle.sn_block.specs.Counts.{FailsRead, IsLater}
use Rattle.sn_model.specs.Calls.{ready}
use Rattle.sn_held.proofs.EventLemmas.{left_of_tree, runs_lasts, stops_between, stops_lasts}
use Rattle.sn_events.specs.Answers.{Answers, AsksFirst, HasAll, IsChangeOf, Lacks, LacksFirst, MayMeet, is_fitting, writes_of, HasDropped, Leaves, with_record, CarriesCharge}
use Rattle.sn_events.specs.Changing.{FailsChange, IsLogged, errno_of, stops}
use Rattle.sn_events.specs.Mounted.{RunsNow}
use Rattle.sn_events.specs.Serving.{DropsFiles, IsUndecided, Serves, ServesFrom, ServesTo, Turns, reply_to}
use Rattle.sn_events.specs.declared.fault.ChangeFault.{ChangeFault}
use Rattle.sn_events.specs.declared.fault.ChangeFault.TheVariants as fault
use Rattle.sn_changed.proofs.DecidedLemmas.{logged_keep_nameless}
use Rattle.sn_events.proofs.ReadLemmas.{fails_read}
use Rattle.sn_events.proofs.DecisionLemmas.{CanBeMade, can_be_made, charge_of_change, is_charged, is_logged, refused_none}

-- no file is gone
has_not_closed : (w : World) (n : ℕ) → has_closed w w n ≡ false
has_not_closed w n = told (is_held w n) (map.get w.live.nodes n)
  where
    told : (held : Bool) (o : Option Node) → (held && (is_some o && is_none o)) ≡ false
    told true None = refl
    told true (Some x) = refl
    told false o = refl

-- no file is dropped
pub nothing_dropped : (n : ℕ) (room : RoomCounts) → room ≡ dropping (n - n) room
nothing_dropped n room = λ i. record room { dropped = same room.dropped i; dropped_since = same room.dropped_since i }
  where
    same : (k : ℕ) → k ≡ k + (n - n)
    same k = omega arith

pub drops_none : (h : Held) → HasDropped (nameless_in h.world.live) h h
drops_none h = record {
  kept = λ n. sym (ap (λ (b : Bool). b || h.kept n) (has_not_closed h.world n));
  since = λ n. sym (ap (λ (b : Bool). b || h.kept_since n) (has_not_closed h.world n));
  is = λ i. record h { kept = h.kept; kept_since = h.kept_since; room = nothing_dropped (nameless_in h.world.live) h.room i; base = h.base };
}

-- with nothing more of what changed
same_figure : (figure : ℕ) → figure + 0 ≡ figure
same_figure figure = omega arith

pub carries_same : (k next : Kept) (before after : Tree) → ((figure : ℕ) → CarriesOn k before figure next after figure) → (figure : ℕ) → CarriesOn k before figure next after (figure + 0)
carries_same k next before after on figure = subst (λ (n : ℕ). CarriesOn k before figure next after n) (sym (same_figure figure)) (on figure)

pub carries_none : (h : Held) → CarriesCharge 0 h h
carries_none h = carries_same h.base h.base h.world.live h.world.live (λ figure. record { slot = refl; root = refl; words = refl; changed = λ root changed. changed })

-- and none is counted
pub none_dropped : (count : ℕ) (room : RoomCounts) → count ≡ 0 → dropping count room ≡ room
none_dropped count room none = λ i. record room { dropped = same room.dropped i; dropped_since = same room.dropped_since i }
  where
    same : (k : ℕ) → k + count ≡ k
    same k = omega (arith, none)

-- an event that a state answers with a refusal, and that changes nothing
kept : (h : Held) (has_stopped : Bool) (s : State) (session : ℕ) (c : Call) (met : Option Mishap) (reply : Reply) → ServesTo met h session c h → Means h has_stopped s → MayMeet h h (event.Call session c) met h.status → Leaves s (event.Call session c) met reply s h h h
    → EventStep limits_written s (event.Call session c) met reply s → ServesFrom s session c reply h h has_stopped
kept h has_stopped s session c met reply to m may leaves step = record {
  answers = record {
    met = met;
    fin = h;
    finish = inl refl;
    mid = h;
    point = inl refl;
    may = may;
    next = s;
    step = step;
    means = m;
    lasts = stays_lasts h has_stopped s m;
    later = later-same h.status h.status refl;
    leaves = leaves;
  };
  at_once = (refl, refl);
  met = to;
}

-- one that has stopped
pub stopped_answers : (h : Held) (session : ℕ) (c : Call) → Answers (event.Call session c) (refused Estopped) h true h true
stopped_answers h session c (Running w) m = absurd (true≢false m.0)
stopped_answers h session c (Stopped before after) m = (kept h true (Stopped before after) session c None (refused Estopped) tt m refl refl (refl, refl)).answers

-- ---- of one that runs, in the world that it holds

abbrev pub OfWorld : Held → Bool → ℕ → Call → Reply → Held → Type 0
OfWorld h has_stopped session c reply new = RunsWith h.point h h.world → ServesFrom (Running h.world) session c reply h new has_stopped

-- so it is served in each state that is meant
pub in_world : (h new : Held) (has_stopped : Bool) (session : ℕ) (c : Call) (reply : Reply) → OfWorld h has_stopped session c reply new → Serves (Some reply) h session c new has_stopped
in_world h new has_stopped session c reply f (Running w) m =
    let is = (runs_with h w h.point m.1).is in
    subst (λ (x : World). ServesFrom (Running x) session c reply h new has_stopped) is (f (subst (λ (x : World). RunsWith h.point h x) (sym is) m.1))
in_world h new has_stopped session c reply f (Stopped before after) m = absurd (true≢false (sym m.0))

-- a call that is refused asks for nothing
cannot_ask : (h : Held) (session : ℕ) (c : Call) (refusal : Refusal) {A : Type 0} → AsksFirst h session c → decision limits_written h.world session c ≡ Err refusal → A
cannot_ask h session c refusal asks none = absurd (never (asks.decided) none)
  where
    never : {d : Result Outcome Refusal} {o : Outcome} → d ≡ Ok o → d ≡ Err refusal → ⊥
    never is not = let e : Ok _ ≡ Err refusal = sym is ∙ not in cc e

-- nor does one that asks for no point
pub asks_nothing : {A : Type 0} (h : Held) (session : ℕ) (c : Call) → asks_for_point c ≡ false → AsksFirst h session c → A
asks_nothing h session c alone asks = absurd (true≢false (sym asks.asks ∙ alone))

-- a change that gives out no number that is kept back leaves those that are so
kept_stays : (change : Change) (kept : ℕ → Bool) → gives_kept change kept ≡ false → (n : ℕ) → kept_after change kept n ≡ kept n
kept_stays (Make directory name number kind own) back none n = and_not_false (back n) (back number) none
kept_stays (AddLink directory name number) back none n = refl
kept_stays (Remove directory name) back none n = refl
kept_stays (Rename old_directory old_name new_directory new_name) back none n = refl
kept_stays (WriteBytes number offset bytes) back none n = refl
kept_stays (SetSize number size) back none n = refl
kept_stays (SetAttributes number own) back none n = refl

-- and those that are so since the point in progress began
since_stays : (change : Change) (kept since : ℕ → Bool) → gives_kept change kept ≡ false → (n : ℕ) → since_after change kept since n ≡ since n
since_stays (Make directory name number kind own) back since none n = and_not_false (since n) (back number) none
since_stays (AddLink directory name number) back since none n = refl
since_stays (Remove directory name) back since none n = refl
since_stays (Rename old_directory old_name new_directory new_name) back since none n = refl
since_stays (WriteBytes number offset bytes) back since none n = refl
since_stays (SetSize number size) back since none n = refl
since_stays (SetAttributes number own) back since none n = refl

-- a read that failed, which the device counts
read_fails : (h new : Held) (session : ℕ) (c : Call) → new ≡ record h { status = new.status } → FailsRead h.status new.status → TakesMemory c × IsOk (ready h.world session c) → RunsWith h.point h h.world
    → ServesFrom (Running h.world) session c (refused Eio) h new false
read_fails h new session c is fails takes r = subst (λ (x : Held). ServesFrom (Running h.world) session c (refused Eio) h x false) (sym is) (record {
  answers = record {
    met = Some Read;
    fin = h;
    finish = inl refl;
    mid = h;
    point = inl refl;
    may = count.0;
    next = Running h.world;
    step = (takes, record { told = refl; same = refl });
    means = (refl, counted_with h.point h h.world new.status r);
    lasts = stays_lasts h false (Running h.world) (refl, r);
    later = count.1;
    leaves = (refl, fails);
  };
  at_once = (refl, refl);
  met = fails;
})
  where
    count : HasFailed h.status new.status × IsLater h.status new.status
    count = fails_read h.status new.status fails

-- the call has no outcome
pub undecided_serves : (h new : Held) (session : ℕ) (c : Call) (e : CallFault) → IsUndecided e h session c new → Serves (Some (reply_to e)) h session c new false
undecided_serves h new session c e none = in_world h new false session c (reply_to e) (λ r. told r e none)
  where
    told : RunsWith h.point h h.world → (e : CallFault) → IsUndecided e h session c new → ServesFrom (Running h.world) session c (reply_to e) h new false
    told r (lack.Refused refusal) (none, same) = subst (λ (x : Held). ServesFrom (Running h.world) session c (answer.Refused refusal) h x false) (sym same)
        (kept h false (Running h.world) session c None (answer.Refused refusal) tt (refl, r) refl (inr ((λ asks. cannot_ask h session c refusal asks none), inl (record { none = refused_none h.world h.kept session c refusal none; drops = drops_none h; carries = carries_none h })))
        (h.world, subst (λ (d : Result Outcome Refusal). Becomes limits_written h.world session d (answer.Refused refusal) h.world) (sym none) (refl, refl), refl))
    told r lack.Memory (takes, same) = subst (λ (x : Held). ServesFrom (Running h.world) session c (refused Enomem) h x false) (sym same)
        (kept h false (Running h.world) session c (Some Memory) (refused Enomem) tt (refl, r) refl refl (takes, record { told = refl; same = refl }))
    told r lack.Read (takes, same, fails) = read_fails h new session c same fails takes r

-- there is no memory for what is to be opened
pub unprepared_serves : (h : Held) (session : ℕ) (c : Call) (o : Outcome) → decision limits_written h.world session c ≡ Ok o → is_opening o.caller ≡ true → Serves (Some (refused Enomem)) h session c h false
unprepared_serves h session c o decided opens = in_world h h false session c (refused Enomem) (λ r. kept h false (Running h.world) session c (Some Memory) (refused Enomem) tt (refl, r) refl refl (opening_takes h.world session c o decided opens, record { told = refl; same = refl }))

pub figures : AreCharged limits_written
figures = record { inodes = omega arith; blocks = refl }

-- what changed is carried on to the tree that a caller leaves
pub drops_carry : (old new : Kept) (w : World) (session : ℕ) (caller : Caller) (charged : ℕ) → IsHierarchy w.live → DropsFiles old w.live new (dropped (with_caller w session caller)).live → CarriesOn old w.live charged new (dropped (with_caller w session caller)).live charged
drops_carry old new w session caller charged hierarchy drops = record {
  slot = drops.slot;
  root = drops.root;
  words = drops.words;
  changed = λ root changed. callers_drop limits_written old.changed new.changed root charged w session caller drops.files figures hierarchy changed drops.gone drops.leads;
}

-- the call has an outcome, and a change was chosen
module _ (old : Held) (session : ℕ) (c : Call) (o : Outcome) (picked : Chosen) (change : Change) (numbers : IsCall c) (whole : IsWorld limits_written old.world) (decided : decision limits_written old.world session c ≡ Ok o) (chosen : Chooses old.world.live old.kept o.change o.caller picked) (some : picked.change ≡ Some change) where
  can : CanBeMade old.world change
  can = can_be_made old.world old.kept session c o picked change whole decided chosen some

  abbrev pub is_change : IsChangeOf old.world old.kept session c change
  is_change = record { outcome = o; decided = decided; picked = picked; chosen = chosen; is = some }

  -- its charge is that of its change
  charge_is : o.charge ≡ charge_for limits_written old.world.live change
  charge_is = charge_of_change old.world old.kept session c o picked change decided chosen some

  -- where it fits, there is room for it on top of what was charged
  has_room : is_fitting old o ≡ true → HasRoomFor old.room old.world.live change
  has_room it_fits = omega (arith, leb-true (charged_behind limits_written old.room (nameless_in old.world.live) o + (if gives_back o.change then 0 else limits_written.reserve)) old.room.free it_fits, charge_is)

  -- the world that it makes
  abbrev pub next_with : Tree → World
  next_with tree = dropped (with_caller (with_live old.world tree) session picked.caller)

  by_change : (tree : Tree) → apply limits_written change old.world.live ≡ Some tree → MadeBy picked.change old.world.live tree
  by_change tree e = subst (λ (x : Option Change). MadeBy x old.world.live tree) (sym some) e

  -- no point is asked for
  stays : (tree : Tree) → pointed o.point (next_with tree) ≡ next_with tree
  stays tree = chosen_stays old.world old.kept session c o picked change decided chosen some (next_with tree)

  becomes : (tree : Tree) → apply limits_written change old.world.live ≡ Some tree → Becomes limits_written old.world session (decision limits_written old.world session c) o.told (next_with tree)
  becomes tree e = chosen_becomes old.world old.kept session c o picked tree numbers whole decided chosen (by_change tree e) (stays tree)

  pub comes : (tree : Tree) → apply limits_written change old.world.live ≡ Some tree → Comes limits_written old.world session o (next_with tree)
  comes tree e = (subst (λ (d : Result Outcome Refusal). Becomes limits_written old.world session d o.told (next_with tree)) decided (becomes tree e)).1

  -- no file without names is dropped
  no_fewer : (tree : Tree) → apply limits_written change old.world.live ≡ Some tree → nameless_in old.world.live ≤ nameless_in (next_with tree).live
  no_fewer tree e = logged_keep_nameless limits_written old.world (next_with tree) session c o whole decided (is_logged old.world old.kept session c o picked change decided chosen some) (comes tree e)

  of_tree : (tree : Tree) → IsOfTree old.world tree (next_with tree)
  of_tree tree = left_of_tree old.world session picked.caller tree

  -- it lacks something, so that nothing is done
  pub lacking : Lacks old change o → LacksFirst old session c
  lacking lacks = record { change = change; is = is_change; lacks = lacks }

  -- there is no memory for it, or the device fails
  pub unmade_serves : (new : Held) (f : ChangeFault) → FailsChange f change old new → HasAll old change o → Serves (Some (refused (errno_of f))) old session c new (stops f)
  unmade_serves new f fails all = in_world old new (stops f) session c (refused (errno_of f)) (λ r. told f r fails)
    where
      told : (f : ChangeFault) → RunsWith old.point old old.world → FailsChange f change old new → ServesFrom (Running old.world) session c (refused (errno_of f)) old new (stops f)
      told fault.Memory r fails = subst (λ (x : Held). ServesFrom (Running old.world) session c (refused Enomem) old x false) (sym fails)
          (kept old false (Running old.world) session c (Some Memory) (refused Enomem) tt (refl, r) refl refl (change_takes old.world old.kept session c o picked change decided chosen some, record { told = refl; same = refl }))
      told fault.Read r fails = read_fails old new session c fails.0 fails.1 (change_takes old.world old.kept session c o picked change decided chosen some) r
      told fault.Device r fails =
          let tree = fails.tree in
          let next = next_with tree in
          let runs = runs_with old old.world old.point r in
          let aged = subst HasAgeLeft (root_with old old.world old.point r) all.age in
          let between = stops_between old new old.world next change tree runs can.spelled fails.applied (of_tree tree) whole.live.hierarchy (has_room all.fits) aged (fails.touched) (fails.moments) in
          record {
            answers = record {
              met = Some Write;
              fin = old;
              finish = inl refl;
              mid = old;
              point = inl refl;
              may = fails.failed;
              next = Stopped (settle old.world) (settle next);
              step = record {
                passes = (o, decided, inl (is_charged old.world old.kept session c o picked change decided chosen some));
                next = next;
                comes = comes tree fails.applied;
                stops = record { told = refl; left = refl };
              };
              means = (refl, between);
              lasts = stops_lasts old new old.world next change tree runs can.spelled fails.applied (of_tree tree) whole.live.hierarchy (has_room all.fits) aged (fails.touched) (fails.moments);
              later = fails.later;
              leaves = inl (record { change = change; is = is_change; all = all; touched = fails.touched; costs = fails.costs });
            };
            at_once = (refl, refl);
            met = record { change = change; is = is_change; all = all; touched = fails.touched; costs = fails.costs };
          }

  -- it is made and logged, and what becomes of the caller is set
  module _ (merges : ChangesMerge) (mid new : Held) (logged : IsLogged change o.charge old mid) (all : HasAll old change o) (turned : Turns session picked.caller 0 mid new) where
    abbrev tree : Tree
    tree = logged.made.tree

    abbrev next : World
    next = next_with tree

    world_is : new.world ≡ next
    world_is = ap (λ (x : Held). x.world) turned.is ∙ ap (λ (w : World). dropped (with_caller w session picked.caller)) logged.made.world

    none : (0 - nameless_in new.world.live) ≡ 0
    none = omega arith

    room_is : new.room ≡ logs (charge_for limits_written old.world.live change) old.room
    room_is = ap (λ (x : Held). x.room) turned.is ∙ none_dropped (0 - nameless_in new.world.live) mid.room none ∙ logged.charged ∙ ap (λ (k : ℕ). logs k old.room) charge_is

    at_is : new.at ≡ behind old.at change
    at_is = ap (λ (x : Held). x.at) turned.is ∙ logged.at

    point_is : new.point ≡ old.point
    point_is = ap (λ (x : Held). x.point) turned.is ∙ logged.point

    disk_is : new.disk ≡ mid.disk
    disk_is = ap (λ (x : Held). x.disk) turned.is

    status_is : new.status ≡ mid.status
    status_is = ap (λ (x : Held). x.status) turned.is

    whole_next : IsWorld limits_written next
    whole_next = served_whole old.world next session c o.told (becomes tree logged.made.applied) numbers whole

    -- with the change alone
    abbrev recorded : Held
    recorded = with_record old change o.charge tree new.disk

    by_last : (n : ℕ) → new.kept n ≡ (has_closed recorded.world new.world n || old.kept n)
    by_last n =
        turned.kept n ∙ ap (λ (w : World). has_closed w (dropped (with_caller w session picked.caller)) n || mid.kept n) logged.made.world
        ∙ ap (λ (b : Bool). has_closed recorded.world next n || b) (logged.kept n ∙ kept_stays change old.kept all.number n)
        ∙ ap (λ (w : World). has_closed recorded.world w n || old.kept n) (sym world_is)

    since_last : (n : ℕ) → new.kept_since n ≡ (has_closed recorded.world new.world n || old.kept_since n)
    since_last n =
        turned.since n ∙ ap (λ (w : World). has_closed w (dropped (with_caller w session picked.caller)) n || mid.kept_since n) logged.made.world
        ∙ ap (λ (b : Bool). has_closed recorded.world next n || b) (logged.since n ∙ since_stays change old.kept old.kept_since all.number n)
        ∙ ap (λ (w : World). has_closed recorded.world w n || old.kept_since n) (sym world_is)

    room_dropped : new.room ≡ dropping (0 - nameless_in new.world.live) (logs o.charge old.room)
    room_dropped = ap (λ (x : Held). x.room) turned.is ∙ ap (dropping (0 - nameless_in new.world.live)) logged.charged

    has_dropped : HasDropped 0 recorded new
    has_dropped = record {
      kept = by_last;
      since = since_last;
      is = λ i. record { world = new.world; kept = new.kept; kept_since = new.kept_since; room = room_dropped i; at = at_is i; base = new.base; point = point_is i; disk = new.disk; status = (status_is ∙ logged.costs) i };
    }

    hierarchy : IsHierarchy tree
    hierarchy = (chosen_whole old.world old.kept session c o picked tree numbers whole decided chosen (by_change tree logged.made.applied)).hierarchy

    drops : DropsFiles mid.base tree new.base next.live
    drops = subst (λ (w : World). DropsFiles mid.base w.live new.base (dropped (with_caller w session picked.caller)).live) logged.made.world
        (subst (λ (w : World). DropsFiles mid.base mid.world.live new.base w.live) (ap (λ (x : Held). x.world) turned.is) turned.base)

    carried : (figure : ℕ) → CarriesOn old.base old.world.live figure new.base next.live (figure + charge_for limits_written old.world.live change)
    carried figure =
        let on = drops_carry mid.base new.base (with_live old.world tree) session picked.caller (figure + charge_for limits_written old.world.live change) hierarchy drops in
        record {
          slot = on.slot ∙ ap (λ (k : Kept). k.slot) logged.base;
          root = on.root ∙ ap (λ (k : Kept). k.root) logged.base;
          words = on.words ∙ ap (λ (k : Kept). k.words) logged.base;
          changed = λ root changed. on.changed root
              (subst (λ (k : Kept). HasChanged limits_written k.changed root tree (figure + charge_for limits_written old.world.live change)) (sym logged.base)
              (merges limits_written old.base.changed root old.world.live tree figure change figures whole.live.hierarchy changed logged.made.applied));
        }

    carries : CarriesCharge o.charge old new
    carries figure =
        subst (λ (n : ℕ). CarriesOn old.base old.world.live figure new.base new.world.live (figure + n)) (sym charge_is)
        (subst (λ (w : World). CarriesOn old.base old.world.live figure new.base w.live (figure + charge_for limits_written old.world.live change)) (sym world_is) (carried figure))

    touched : Touches (InHalf (base_at old.at)) old.disk new.disk
    touched = subst (Touches (InHalf (base_at old.at)) old.disk) (sym disk_is) logged.touched

    -- it runs on over the world that it makes
    made_runs : RunsNow old → RunsWith new.point new next
    made_runs r =
        let of = of_tree tree in
        let more = subst (LeavesMore old.at change old.disk) (sym disk_is) logged.acknowledged in
        subst (λ (p : Option Going). RunsWith p new next) (sym point_is)
        (appends_with old.point old new old.world next change tree r can.spelled logged.made.applied of whole.live.hierarchy (has_room all.fits) all.age touched more (subst (λ (d : Disk). AreSectors (reads d)) (sym disk_is) logged.sectors) (subst IsSynced (sym disk_is) logged.synced) at_is room_is world_is
        (no_fewer tree logged.made.applied) carried whole_next.live)

    pub made_whole : IsWorld limits_written new.world
    made_whole = subst (IsWorld limits_written) (sym world_is) whole_next

    pub made_now : RunsNow old → RunsNow new
    made_now r = subst (RunsWith new.point new) (sym world_is) (made_runs r)

    pub made_serves : asks_for_point c ≡ false → Serves (Some o.told) old session c new false
    made_serves alone = in_world old new false session c o.told told
      where
        told : RunsWith old.point old old.world → ServesFrom (Running old.world) session c o.told old new false
        told r =
            let runs = runs_with old old.world old.point r in
            let aged = subst HasAgeLeft (root_with old old.world old.point r) all.age in
            let of = of_tree tree in
            let moments = subst (LeavesEither old.at change old.disk) (sym disk_is) (logged.moments) in
            let on = made_runs r in
            record {
              answers = record {
                met = None;
                fin = old;
                finish = inl refl;
                mid = old;
                point = inl refl;
                may = ap (λ (s : Status). s.failures) (status_is ∙ logged.costs);
                next = Running next;
                step = (next, becomes tree logged.made.applied, refl);
                means = (refl, on);
                lasts = runs_lasts old new old.world next change tree runs can.spelled logged.made.applied of whole.live.hierarchy (has_room all.fits) aged touched moments (runs_with new next new.point on);
                later = later-is (writes_of change) 2 old.status new.status (status_is ∙ logged.costs);
                leaves = inr (
                  asks_nothing old session c alone,
                  inr (record { change = change; is = is_change; all = all; tree = tree; applied = logged.made.applied; world = world_is; touched = touched; drops = has_dropped; carries = carries }),
                );
              };
              at_once = (refl, refl);
              met = tt;
            }
