-- What a call answers that changes nothing of the tree, but for files that nobody has.
use Rattle.std.proofs.Common.{◌≡◌, ◌⊎◌, inl, inr, ℕ, ◌-◌, false, Option, Some, None, Ok, refl, sym, ap, subst, ◌∙◌, arith}
use Rattle.sn_limits.specs.Versions.{limits_written}
use Rattle.sn_model.specs.declared.call.Call.{Call}
use Rattle.sn_model.specs.declared.change.Change.{Change}
use Rattle.sn_model.specs.declared.outcome.Outcome.{Outcome}
use Rattle.sn_held.specs.Rooms.{dropping}
use Rattle.sn_model.specs.Machine.{Running}
use Rattle.sn_model.specs.Settling.{dropped, nameless_in}
use Rattle.sn_model.specs.Steps.{asks_for_point, decision, with_caller}
use Rattle.sn_model.specs.World.{World}
use Rattle.sn_model.specs.Worlds.{IsCall, IsWorld}
use Rattle.sn_caller.specs.declared.chosen.Chosen.{Chosen}
use Rattle.sn_caller.specs.Choosing.{Chooses}
use Rattle.sn_caller.proofs.NumberLemmas.{kept_by}
use Rattle.sn_caller.proofs.AskedLemmas.{alone_stays}
use Rattle.sn_caller.proofs.StepLemmas.{IsServed, MadeBy, chosen_served, served_whole}
use Rattle.sn_block.proofs.CountLemmas.{later-same}
use Rattle.sn_device.proofs.CrashLemmas.{LeavesOnly-start}
use Rattle.sn_held.specs.Events.{IsOfTree}
use Rattle.sn_held.specs.Held.{Held, CarriesOn}
use Rattle.sn_cp_progress.specs.Meaning.{RunsWith}
use Rattle.sn_cp_progress.proofs.MeaningLemmas.{drops_with, runs_with}
use Rattle.sn_held.specs.Moments.{ShowsState}
use Rattle.sn_held.proofs.EventLemmas.{left_of_tree, runs_show}
use Rattle.sn_events.specs.Mounted.{RunsNow}
use Rattle.sn_events.specs.Serving.{DropsFiles, Serves, ServesFrom, Turns}
use Rattle.sn_events.proofs.DecisionLemmas.{has_no_change}
use Rattle.sn_events.proofs.CallLemmas.{asks_nothing, drops_carry, in_world, carries_same}
use Rattle.sn_events.specs.Answers.{HasDropped}

module _ (old new : Held) (session : ℕ) (c : Call) (o : Outcome) (picked : Chosen) (numbers : IsCall c) (whole : IsWorld limits_written old.world) (decided : decision limits_written old.world session c ≡ Ok o) (chosen : Chooses old.world.live old.kept o.change o.caller picked) (none : picked.change ≡ None) (alone : asks_for_point c ≡ false)
    (turned : Turns session picked.caller (nameless_in old.world.live) old new) where
  abbrev next : World
  next = dropped (with_caller old.world session picked.caller)

  abbrev parked : ℕ
  parked = nameless_in old.world.live - nameless_in next.live

  world_is : new.world ≡ next
  world_is = ap (λ (x : Held). x.world) turned.is

  room_is : new.room ≡ dropping parked old.room
  room_is = ap (λ (x : Held). x.room) turned.is ∙ ap (λ (w : World). dropping (nameless_in old.world.live - nameless_in w.live) old.room) world_is

  abbrev after : Held
  after = record old { world = next; kept = new.kept; kept_since = new.kept_since; room = dropping parked old.room; base = new.base }

  is : new ≡ after
  is = λ i. record { world = world_is i; kept = new.kept; kept_since = new.kept_since; room = room_is i; at = ap (λ (x : Held). x.at) turned.is i; base = new.base; point = ap (λ (x : Held). x.point) turned.is i; disk = ap (λ (x : Held). x.disk) turned.is i; status = ap (λ (x : Held). x.status) turned.is i }

  of : IsOfTree old.world old.world.live next
  of = left_of_tree old.world session picked.caller old.world.live

  served : IsServed old.world old.kept session c o.told next new.kept
  served =
      chosen_served old.world old.kept session c o picked old.world.live numbers whole decided chosen (subst (λ (x : Option Change). MadeBy x old.world.live old.world.live) (sym none) refl)
      old.kept new.kept (λ n. sym (ap (λ (x : Option Change). kept_by x old.kept n) none)) turned.kept (alone_stays old.world session c o decided alone next)

  whole_next : IsWorld limits_written next
  whole_next = served_whole old.world next session c o.told served.0 numbers whole

  drops : DropsFiles old.base old.world.live new.base next.live
  drops = subst (λ (w : World). DropsFiles old.base old.world.live new.base w.live) world_is turned.base

  has_dropped : HasDropped (nameless_in old.world.live) old after
  has_dropped = record { kept = turned.kept; since = turned.since; is = refl }

  carries : (figure : ℕ) → CarriesOn old.base old.world.live figure new.base next.live figure
  carries figure = drops_carry old.base new.base old.world session picked.caller figure whole.live.hierarchy drops

  runs_after : RunsNow old → RunsNow after
  runs_after r =
      drops_with old.point old old.world next new.kept new.kept_since parked new.base r of (omega arith) carries whole_next.live

  pub told_whole : IsWorld limits_written new.world
  told_whole = subst (IsWorld limits_written) (sym world_is) whole_next

  pub told_runs : RunsNow old → RunsNow new
  told_runs r = subst RunsNow (sym is) (runs_after r)

  pub told_serves : Serves (Some o.told) old session c new false
  told_serves = in_world old new false session c o.told told
    where
      told : RunsWith old.point old old.world → ServesFrom (Running old.world) session c o.told old new false
      told r =
          let on = runs_after r in
          let shows = runs_show after next (runs_with after next old.point on) in
          subst (λ (x : Held). ServesFrom (Running old.world) session c o.told old x false) (sym is) (record {
            answers = record {
              met = None;
              fin = old;
              finish = inl refl;
              mid = old;
              point = inl refl;
              may = refl;
              next = Running next;
              step = (next, served.0, refl);
              means = (refl, on);
              lasts = record { moments = LeavesOnly-start old.disk (λ d. ShowsState (Running old.world) d ⊎ ShowsState (Running next) d) (λ d crash. inr (shows d crash)); answered = shows };
              later = later-same old.status old.status refl;
              leaves = inr (asks_nothing old session c alone, inl (record { none = has_no_change old.world old.kept session c o picked decided chosen none; drops = has_dropped; carries = carries_same old.base new.base old.world.live next.live carries }));
            };
            at_once = (refl, refl);
            met = tt;
          })
