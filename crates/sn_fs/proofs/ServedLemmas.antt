-- The outcome of a call whose number was picked once its caller was made ready.
use Rattle.std.proofs.Common.{◌≡◌, ℕ, Bool, true, false, Some, None, Option, Ok, refl, sym, ap, subst, ◌∙◌}
use Rattle.sn_changed.specs.Laws.{ChangesMerge}
use Rattle.sn_caller.specs.Called.{CanTurn, HasRoom}
use Rattle.sn_caller.specs.Choosing.{Chooses, HasNumber}
use Rattle.sn_caller.proofs.StepLemmas.{MadeBy, chosen_turns, has_number}
use Rattle.sn_held.specs.Held.{Held}
use Rattle.sn_limits.specs.Versions.{limits_written}
use Rattle.sn_live_world.specs.Turned.{Picks}
use Rattle.sn_live_world.specs.declared.choosing.Picked.{Picked}
use Rattle.sn_live_world.proofs.ChoiceLemmas.{IsChosen, picks_chooses}
use Rattle.sn_model.specs.Changes.{apply}
use Rattle.sn_model.specs.Machine.{refused}
use Rattle.sn_model.specs.Steps.{asks_for_point, decision}
use Rattle.sn_model.specs.Tree.{Tree}
use Rattle.sn_model.specs.World.{World}
use Rattle.sn_model.specs.Worlds.{IsCall, IsWorld}
use Rattle.sn_model.specs.declared.call.Call.{Call}
use Rattle.sn_model.specs.declared.change.Change.{Change}
use Rattle.sn_model.specs.declared.outcome.Caller.{Caller}
use Rattle.sn_model.specs.declared.outcome.Outcome.{Outcome}
use Rattle.sn_model.specs.Settling.{nameless_in}
use Rattle.sn_record.specs.Payload.{IsSpelled}
use Rattle.sn_events.specs.Answers.{HasAll, LacksFirst, is_fitting}
use Rattle.sn_events.specs.Changing.{FailsChange, IsLogged, errno_of, stops}
use Rattle.sn_events.specs.Mounted.{RunsNow}
use Rattle.sn_events.specs.Serving.{Serves, TellsLack, Turns}
use Rattle.sn_events.specs.declared.fault.ChangeFault.{ChangeFault}
use Rattle.sn_events.proofs.CallLemmas.{lacking, made_now, made_serves, made_whole, unmade_serves}
use Rattle.sn_events.proofs.DecisionLemmas.{CanBeMade, can_be_made}
use Rattle.sn_events.proofs.ServeLemmas.{lacks_nothing, some_lack}
use Rattle.sn_events.proofs.ToldLemmas.{told_runs, told_serves, told_whole}

module _ (h p : Held) (session : ℕ) (c : Call) (o : Outcome) (numbers : IsCall c) (whole : IsWorld limits_written h.world) (decided : decision limits_written h.world session c ≡ Ok o) (same : p ≡ h) where
  -- a number is left
  pub numbered : HasNumber p.world.live o.change
  numbered = subst (λ (x : Held). HasNumber x.world.live o.change) (sym same) (has_number h.world session c o decided)

  module _ (picked : Picked) (picks : Picks p.world.live p.kept o.change o.caller picked) where
    k : IsChosen p.world.live p.kept o.change o.caller picked
    k = picks_chooses p.world.live p.kept o.change o.caller picked picks

    chosen : Chooses h.world.live h.kept o.change o.caller k.chosen
    chosen = subst (λ (x : Held). Chooses x.world.live x.kept o.change o.caller k.chosen) same k.chooses

    -- what becomes of the caller can be set
    turns_over : (tree : Tree) → MadeBy k.chosen.change h.world.live tree → (room : ℕ) → HasRoom o.caller room → CanTurn h.world.descriptors room session picked.caller
    turns_over tree made room has = subst (CanTurn h.world.descriptors room session) k.turns (chosen_turns h.world h.kept session c o k.chosen tree numbers whole decided chosen made room has)

    -- ---- a change was picked

    module _ (change : Change) (some : picked.change ≡ Some change) where
      is : k.chosen.change ≡ Some change
      is = k.change ∙ some

      can : CanBeMade h.world change
      can = can_be_made h.world h.kept session c o k.chosen change whole decided chosen is

      pub spelled : IsSpelled change
      spelled = can.spelled

      pub applies : (tree : Tree) × (apply limits_written change p.world.live ≡ Some tree)
      applies = (can.tree, ap (λ (x : Held). apply limits_written change x.world.live) same ∙ can.applied)

      module _ (enough lack : Bool) (fits : enough ≡ is_fitting h o) (lacks : TellsLack lack p change enough) where
        pub lacks_first : lack ≡ true → LacksFirst h session c
        lacks_first does = lacking h session c o k.chosen change numbers whole decided chosen is (some_lack h p o change enough lack same fits does lacks)

        module _ (nothing : lack ≡ false) where
          all : HasAll h change o
          all = lacks_nothing h p o change enough lack same fits nothing lacks

          -- it isn't made
          pub fails : (new : Held) (f : ChangeFault) → FailsChange f change p new → Serves (Some (refused (errno_of f))) h session c new (stops f)
          fails new f so = unmade_serves h session c o k.chosen change numbers whole decided chosen is new f (subst (λ (x : Held). FailsChange f change x new) same so) all

          -- it is made
          module _ (merges : ChangesMerge) (mid : Held) (logged : IsLogged change o.charge p mid) where
            here : IsLogged change o.charge h mid
            here = subst (λ (x : Held). IsLogged change o.charge x mid) same logged

            pub turns_then : (room : ℕ) → HasRoom o.caller room → CanTurn mid.world.descriptors room session picked.caller
            turns_then room has =
                subst (λ (w : World). CanTurn w.descriptors room session picked.caller) (sym here.made.world)
                (turns_over here.made.tree (subst (λ (x : Option Change). MadeBy x h.world.live here.made.tree) (sym is) here.made.applied) room has)

            module _ (new : Held) (turned : Turns session picked.caller 0 mid new) where
              turned_so : Turns session k.chosen.caller 0 mid new
              turned_so = subst (λ (x : Caller). Turns session x 0 mid new) (sym k.turns) turned

              pub serves : asks_for_point c ≡ false → Serves (Some o.told) h session c new false
              serves alone = made_serves h session c o k.chosen change numbers whole decided chosen is merges mid new here all turned_so alone

              pub whole_then : IsWorld limits_written new.world
              whole_then = made_whole h session c o k.chosen change numbers whole decided chosen is merges mid new here all turned_so

              pub runs_then : RunsNow p → RunsNow new
              runs_then r = made_now h session c o k.chosen change numbers whole decided chosen is merges mid new here all turned_so (subst RunsNow same r)

    -- ---- none was

    module _ (none : picked.change ≡ None) where
      pub turns_now : (room : ℕ) → HasRoom o.caller room → CanTurn p.world.descriptors room session picked.caller
      turns_now room has =
          subst (λ (x : Held). CanTurn x.world.descriptors room session picked.caller) (sym same)
          (turns_over h.world.live (subst (λ (x : Option Change). MadeBy x h.world.live h.world.live) (sym (k.change ∙ none)) refl) room has)

      module _ (alone : asks_for_point c ≡ false) (new : Held) (parked : ℕ) (count : parked ≡ nameless_in p.world.live) (turned : Turns session picked.caller parked p new) where
        turned_on : Turns session k.chosen.caller (nameless_in h.world.live) h new
        turned_on =
            subst (λ (x : Caller). Turns session x (nameless_in h.world.live) h new) (sym k.turns)
            (subst (λ (n : ℕ). Turns session picked.caller n h new) (count ∙ ap (λ (x : Held). nameless_in x.world.live) same) (subst (λ (x : Held). Turns session picked.caller parked x new) same turned))

        pub serves_told : Serves (Some o.told) h session c new false
        serves_told = told_serves h new session c o k.chosen numbers whole decided chosen (k.change ∙ none) alone turned_on

        pub whole_on : IsWorld limits_written new.world
        whole_on = told_whole h new session c o k.chosen numbers whole decided chosen (k.change ∙ none) alone turned_on

        pub runs_on : RunsNow p → RunsNow new
        runs_on r = told_runs h new session c o k.chosen numbers whole decided chosen (k.change ∙ none) alone turned_on (subst RunsNow same r)
