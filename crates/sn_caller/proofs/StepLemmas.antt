-- The outcome of a call once its tests have passed.
use Rattle.std.proofs.Common.{◌≡◌, ℕ, Bool, true, false, not, ◌&&◌, ◌||◌, List, [], ◌∷◌, ◌++◌, Option, Some, None, Result, Ok, is_none, is_some, refl, sym, ap, subst, ◌∙◌, inl, lit≤}
use Rattle.std.specs.FinMap as map
use Rattle.std.specs.Prelude.{IsOk}
use Rattle.std.proofs.lemmas.Bool.{true≢false}
use Rattle.sn_limits.specs.Versions.{limits_written}
use Rattle.sn_model.specs.declared.call.Call.{Call}
use Rattle.sn_model.specs.declared.call.Event.{Event}
use Rattle.sn_model.specs.declared.call.Event.TheVariants as event
use Rattle.sn_model.specs.declared.change.Change.{Change}
use Rattle.sn_model.specs.declared.outcome.Caller.{Caller}
use Rattle.sn_model.specs.declared.outcome.Caller.TheVariants.{Stays, LogsIn, SetsUmask, LogsOut, Opens, OpensNew, Closes, Moves}
use Rattle.sn_model.specs.declared.outcome.Outcome.{Outcome}
use Rattle.sn_model.specs.declared.outcome.Pending.{Pending}
use Rattle.sn_model.specs.declared.outcome.Pending.TheVariants.{Nothing, Makes, Does}
use Rattle.sn_model.specs.declared.reply.Refusal.{Refusal}
use Rattle.sn_model.specs.declared.reply.Reply.{Reply}
use Rattle.sn_model.specs.Calls.{Ready, outcome_of, ready}
use Rattle.sn_model.specs.Changes.{apply, made}
use Rattle.sn_model.specs.Machine.{RunBy}
use Rattle.sn_model.specs.NameTree.{IsTree}
use Rattle.sn_model.specs.Outcomes.{is_opening}
use Rattle.sn_model.specs.Settling.{OnlyLost, dropped}
use Rattle.sn_model.specs.Steps.{Becomes, Comes, IsNumberFor, TakesMemory, changed, decision, filled, pointed, with_caller, with_live}
use Rattle.sn_model.specs.Tree.{Tree, link_to}
use Rattle.sn_model.specs.World.{World}
use Rattle.sn_model.specs.Worlds.{IsCall, IsWorld}
use Rattle.sn_number_table.proofs.FreeLemmas.{next_is_number}
use Rattle.sn_walk.proofs.ChainLemmas.{bind_ok}
use Rattle.sn_model.proofs.DecidedLemmas.{IsDecided, decided_is}
use Rattle.sn_model.proofs.LoseLemmas.{done_loss, made_loss, no_loss}
use Rattle.sn_model.proofs.OutcomeLemmas.{DoesToOld, FitsCaller, HasLeft, MakesFile, OnChange}
use Rattle.sn_model.proofs.StayLemmas.{change_stays, none_stays}
use Rattle.sn_model.proofs.TreeLemmas.{tree_kept}
use Rattle.sn_model.proofs.WorldLemmas.{step_world}
use Rattle.sn_caller.proofs.CallerLemmas.{can_turn, can_turn_filled}
use Rattle.sn_caller.proofs.NumberLemmas.{FilesStay, and_not_false, and_not_true, closed_same, done_stay, kept_by, made_keeps, made_stays, old_keeps, only_made, or_false, same_stay, was_there}
use Rattle.sn_caller.specs.declared.chosen.Chosen.{Chosen}
use Rattle.sn_caller.specs.Called.{CanTurn, HasRoom}
use Rattle.sn_caller.specs.Numbering.{GivesOut, Numbers, has_closed}
use Rattle.sn_caller.specs.Choosing.{Chooses, HasNumber}

-- a reply and a world, where a call was decided, and the numbers that are kept back
abbrev pub IsServed : World → (ℕ → Bool) → ℕ → Call → Reply → World → (ℕ → Bool) → Type 0
IsServed old kept session c answer new after = Becomes limits_written old session (decision limits_written old session c) answer new × Numbers (event.Call session c) old kept new after

becomes_told : (old new : World) (session : ℕ) (c : Call) (o : Outcome) → decision limits_written old session c ≡ Ok o → Comes limits_written old session o new → Becomes limits_written old session (decision limits_written old session c) o.told new
becomes_told old new session c o e comes = subst (λ (d : Result Outcome Refusal). Becomes limits_written old session d o.told new) (sym e) (refl, comes)

-- a call that was decided has a number left for the node that it makes
pub has_number : (world : World) (session : ℕ) (c : Call) (o : Outcome) → decision limits_written world session c ≡ Ok o → HasNumber world.live o.change
has_number world session c o e = told o.change (decided_is limits_written world session c o e).left
  where
    told : (change : Pending) → HasLeft limits_written world.live change → HasNumber world.live change
    told Nothing h = tt
    told (Makes directory name kind own) h = λ none. true≢false (sym (ap is_none none) ∙ h)
    told (Does c) h = tt

-- the tests of the session and of the arguments have passed
pub ready_passed : (old : World) (session : ℕ) (c : Call) (o : Outcome) → decision limits_written old session c ≡ Ok o → IsOk (ready old session c)
ready_passed old session c o e = let r = bind_ok (ready old session c) (outcome_of limits_written old) o e in subst (λ (x : Result Ready Refusal). IsOk x) (sym r.1) refl

-- a call that opens something may find no memory
pub opening_takes : (old : World) (session : ℕ) (c : Call) (o : Outcome) → decision limits_written old session c ≡ Ok o → is_opening o.caller ≡ true → TakesMemory c × IsOk (ready old session c)
opening_takes old session c o e opens = ((decided_is limits_written old session c o e).opens opens, ready_passed old session c o e)

-- the tree after the change that was chosen, if one was
abbrev pub MadeBy : Option Change → Tree → Tree → Type 0
MadeBy None old new = new ≡ old
MadeBy (Some c) old new = apply limits_written c old ≡ Some new

-- what was chosen over a world, and over one that is equal
pub choosing : (before old : World) (first kept : ℕ → Bool) (o : Outcome) (chosen : Chosen) → before ≡ old → first ≡ kept → Chooses before.live first o.change o.caller chosen → Chooses old.live kept o.change o.caller chosen
choosing before old first kept o chosen same none is =
    subst (λ (k : ℕ → Bool). Chooses old.live k o.change o.caller chosen) none (subst (λ (w : World). Chooses w.live first o.change o.caller chosen) same is)

-- a call that changes something may find no memory
pub change_takes : (old : World) (kept : ℕ → Bool) (session : ℕ) (c : Call) (o : Outcome) (chosen : Chosen) (change : Change) → decision limits_written old session c ≡ Ok o → Chooses old.live kept o.change o.caller chosen → chosen.change ≡ Some change → TakesMemory c × IsOk (ready old session c)
change_takes old kept session c o chosen change e is some = (told o.change (decided_is limits_written old session c o e).takes is, ready_passed old session c o e)
  where
    told : (pending : Pending) → OnChange (TakesMemory c) pending → Chooses old.live kept pending o.caller chosen → TakesMemory c
    told Nothing takes is = let never : None ≡ Some change = sym (ap (λ (x : Chosen). x.change) is) ∙ some in absurd cc
    told (Makes directory name kind own) takes is = takes
    told (Does d) takes is = takes

-- a number isn't filled in where nothing is made
unfilled : (old : World) (session number : ℕ) (change : Pending) (caller : Caller) → FitsCaller limits_written old session change caller → (MakesFile change → ⊥) → filled number caller ≡ caller
unfilled old session number change Stays fits none = refl
unfilled old session number change (LogsIn s) fits none = refl
unfilled old session number change (SetsUmask mask) fits none = refl
unfilled old session number change LogsOut fits none = refl
unfilled old session number change (Opens fd home n flags) fits none = refl
unfilled old session number change (OpensNew fd flags) fits none = absurd (none fits.1)
unfilled old session number change (Closes fd) fits none = refl
unfilled old session number change (Moves fd offset) fits none = refl

-- a call whose change was chosen and made was served
module _ (old : World) (kept : ℕ → Bool) (session : ℕ) (c : Call) (o : Outcome) (chosen : Chosen) (tree : Tree) (numbers : IsCall c) (whole : IsWorld limits_written old) (decided : decision limits_written old session c ≡ Ok o) (is : Chooses old.live kept o.change o.caller chosen) (done : MadeBy chosen.change old.live tree) where
  d : IsDecided limits_written old session c o
  d = decided_is limits_written old session c o decided

  abbrev after : World
  after = dropped (with_caller (with_live old tree) session chosen.caller)

  -- what becomes of the caller is as it was decided
  called : (number : ℕ) → chosen.caller ≡ filled number o.caller → after ≡ dropped (with_caller (with_live old tree) session (filled number o.caller))
  called number e = ap (λ (k : Caller). dropped (with_caller (with_live old tree) session k)) e

  -- the world that the call leaves
  abbrev End : Type 0
  End = Comes limits_written old session o (pointed o.point after)

  comes : (number : ℕ) → IsNumberFor limits_written old.live number o.change → changed limits_written number o.change old.live ≡ Some tree → chosen.caller ≡ filled number o.caller → End
  comes number free applied caller = record { number = number; free = free; tree = tree; applied = applied; world = ap (pointed o.point) (called number caller) }

  by_change : (change : Pending) → o.change ≡ change → Chooses old.live kept change o.caller chosen → FitsCaller limits_written old session change o.caller → End
  by_change Nothing e is fits =
      let same : tree ≡ old.live = subst (λ (x : Option Change). MadeBy x old.live tree) (ap (λ (x : Chosen). x.change) is) done in
      comes 0 (subst (λ (x : Pending). IsNumberFor limits_written old.live 0 x) (sym e) tt) (ap (λ (x : Pending). changed limits_written 0 x old.live) e ∙ ap (λ (t : Tree). Some t) (sym same))
      (ap (λ (x : Chosen). x.caller) is ∙ sym (unfilled old session 0 Nothing o.caller fits (λ h. h)))
  by_change (Makes directory name kind own) e is fits =
      let number = is.0 in
      let applied : made limits_written old.live (link_to directory name) number kind own ≡ Some tree = subst (λ (x : Option Change). MadeBy x old.live tree) (ap (λ (x : Chosen). x.change) is.2) done in
      comes number (subst (λ (x : Pending). IsNumberFor limits_written old.live number x) (sym e) (next_is_number limits_written old.live kept number whole.live.hierarchy.root (lit≤ tt) is.1))
      (ap (λ (x : Pending). changed limits_written number x old.live) e ∙ applied) (ap (λ (x : Chosen). x.caller) is.2)
  by_change (Does change) e is fits =
      let applied : apply limits_written change old.live ≡ Some tree = subst (λ (x : Option Change). MadeBy x old.live tree) (ap (λ (x : Chosen). x.change) is) done in
      comes 0 (subst (λ (x : Pending). IsNumberFor limits_written old.live 0 x) (sym e) tt) (ap (λ (x : Pending). changed limits_written 0 x old.live) e ∙ applied)
      (ap (λ (x : Chosen). x.caller) is ∙ sym (unfilled old session 0 (Does change) o.caller fits (λ h. h)))

  -- where no snapshot is made or deleted
  pub chosen_becomes : pointed o.point after ≡ after → Becomes limits_written old session (decision limits_written old session c) o.told after
  chosen_becomes stays = becomes_told old after session c o decided (subst (Comes limits_written old session o) stays (by_change o.change refl is (d.fits numbers whole)))

  -- files stay
  stay_by : (change : Pending) → Chooses old.live kept change o.caller chosen → DoesToOld change → FilesStay old.live tree
  stay_by Nothing is of_old = same_stay old.live tree (subst (λ (x : Option Change). MadeBy x old.live tree) (ap (λ (x : Chosen). x.change) is) done)
  stay_by (Makes directory name kind own) is of_old = made_keeps old (link_to directory name) is.0 kind own tree (subst (λ (x : Option Change). MadeBy x old.live tree) (ap (λ (x : Chosen). x.change) is.2) done)
  stay_by (Does change) is of_old = done_stay change old.live tree of_old (subst (λ (x : Option Change). MadeBy x old.live tree) (ap (λ (x : Chosen). x.change) is) done)

  -- so what has closed by the end was open before
  pub chosen_closed : (n : ℕ) → has_closed (with_live old tree) after n ≡ has_closed old after n
  chosen_closed n = closed_same old after tree n whole (stay_by o.change is d.of_old)

  -- the numbers that are kept back in the end
  module _ (mid last : ℕ → Bool) (by_mid : (n : ℕ) → mid n ≡ kept_by chosen.change kept n) (by_last : (n : ℕ) → last n ≡ (has_closed (with_live old tree) after n || mid n)) where
    in_end : FilesStay old.live tree → (n : ℕ) → last n ≡ (has_closed old after n || kept_by chosen.change kept n)
    in_end stay n = by_last n ∙ ap (λ (b : Bool). b || mid n) (closed_same old after tree n whole stay) ∙ ap (λ (b : Bool). has_closed old after n || b) (by_mid n)

    -- where no number is given out
    without_new : FilesStay old.live tree → ((n : ℕ) → GivesOut old after n → ⊥) → ((n : ℕ) → kept_by chosen.change kept n ≡ kept n) → Numbers (event.Call session c) old kept after last
    without_new stay none same = record {
      next = λ n g. absurd (none n g);
      keeps = record {
        goes_on = λ _ n. in_end stay n ∙ ap (λ (b : Bool). has_closed old after n || b) (same n);
        begins_anew = λ given g k n. absurd (none given g);
      };
    }

    new_in : (n : ℕ) → GivesOut old after n → is_some (map.get tree.nodes n) ≡ true
    new_in n g = was_there old session tree chosen.caller n g.used

    by_kind : (change : Pending) → Chooses old.live kept change o.caller chosen → DoesToOld change → Numbers (event.Call session c) old kept after last
    by_kind Nothing is of_old =
        let none = ap (λ (x : Chosen). x.change) is in
        let same : tree ≡ old.live = subst (λ (x : Option Change). MadeBy x old.live tree) none done in
        without_new (same_stay old.live tree same) (λ n g. true≢false (sym (new_in n g) ∙ ap (λ (t : Tree). is_some (map.get t.nodes n)) same ∙ ap is_some g.unused)) (λ n. ap (λ (x : Option Change). kept_by x kept n) none)
    by_kind (Makes directory name kind own) is of_old =
        let number = is.0 in
        let some = ap (λ (x : Chosen). x.change) is.2 in
        let applied : made limits_written old.live (link_to directory name) number kind own ≡ Some tree = subst (λ (x : Option Change). MadeBy x old.live tree) some done in
        let unused = (next_is_number limits_written old.live kept number whole.live.hierarchy.root (lit≤ tt) is.1).unused in
        let only = λ (n : ℕ) (g : GivesOut old after n). only_made old (link_to directory name) number kind own tree applied n g.unused (new_in n g) in
        let given : GivesOut old after number = record { unused = unused; used = made_stays old (link_to directory name) number kind own tree applied session chosen.caller } in
        let by : (n : ℕ) → kept_by chosen.change kept n ≡ (kept n && not (kept number)) = (λ n. ap (λ (x : Option Change). kept_by x kept n) some) in
        let end = in_end (made_keeps old (link_to directory name) number kind own tree applied) in
        record {
          next = λ n g. is.1 ∙ ap (λ (k : ℕ). Some k) (sym (only n g));
          keeps = record {
            goes_on = λ none n. end n ∙ ap (λ (b : Bool). has_closed old after n || b) (by n ∙ and_not_false (kept n) (kept number) (none number given));
            begins_anew = λ one g k n. end n ∙ or_false (has_closed old after n) _ (by n ∙ and_not_true (kept n) (kept number) (ap kept (sym (only one g)) ∙ k));
          };
        }
    by_kind (Does change) is of_old =
        let some = ap (λ (x : Chosen). x.change) is in
        let applied : apply limits_written change old.live ≡ Some tree = subst (λ (x : Option Change). MadeBy x old.live tree) some done in
        without_new (done_stay change old.live tree of_old applied)
        (λ n g. true≢false (sym (new_in n g) ∙ ap is_some (none_stays (map.get old.live.nodes n) (map.get tree.nodes n) (change_stays limits_written change old.live tree of_old applied n) g.unused)))
        (λ n. ap (λ (x : Option Change). kept_by x kept n) some ∙ old_keeps change kept n of_old)

    pub chosen_served : pointed o.point after ≡ after → IsServed old kept session c o.told after last
    chosen_served stays = (chosen_becomes stays, by_kind o.change is d.of_old)

  -- only what the change took a name of may be abandoned
  lost_by : (change : Pending) → Chooses old.live kept change o.caller chosen → DoesToOld change → OnlyLost (with_live old tree) chosen.lost
  lost_by Nothing is of_old =
      let same : tree ≡ old.live = subst (λ (x : Option Change). MadeBy x old.live tree) (ap (λ (x : Chosen). x.change) is) done in
      subst (λ (x : Option ℕ). OnlyLost (with_live old tree) x) (sym (ap (λ (x : Chosen). x.lost) is)) (subst (λ (t : Tree). OnlyLost (with_live old t) None) (sym same) (no_loss limits_written old whole))
  lost_by (Makes directory name kind own) is of_old =
      let applied : made limits_written old.live (link_to directory name) is.0 kind own ≡ Some tree = subst (λ (x : Option Change). MadeBy x old.live tree) (ap (λ (x : Chosen). x.change) is.2) done in
      subst (λ (x : Option ℕ). OnlyLost (with_live old tree) x) (sym (ap (λ (x : Chosen). x.lost) is.2)) (made_loss limits_written old tree whole directory name is.0 kind own applied)
  lost_by (Does change) is of_old =
      let applied : apply limits_written change old.live ≡ Some tree = subst (λ (x : Option Change). MadeBy x old.live tree) (ap (λ (x : Chosen). x.change) is) done in
      subst (λ (x : Option ℕ). OnlyLost (with_live old tree) x) (sym (ap (λ (x : Chosen). x.lost) is)) (done_loss limits_written old tree whole change of_old applied)

  pub chosen_lost : OnlyLost (with_live old tree) chosen.lost
  chosen_lost = lost_by o.change is d.of_old

  -- what is opened gets the next descriptor
  pub chosen_turns : (room : ℕ) → HasRoom o.caller room → CanTurn old.descriptors room session chosen.caller
  chosen_turns room has = told o.change is (d.fits numbers whole)
    where
      told : (change : Pending) → Chooses old.live kept change o.caller chosen → FitsCaller limits_written old session change o.caller → CanTurn old.descriptors room session chosen.caller
      told Nothing is fits = subst (CanTurn old.descriptors room session) (sym (ap (λ (x : Chosen). x.caller) is)) (can_turn old session room whole.count Nothing o.caller fits has)
      told (Makes directory name kind own) is fits = subst (CanTurn old.descriptors room session) (sym (ap (λ (x : Chosen). x.caller) is.2)) (can_turn_filled old session room whole.count (Makes directory name kind own) o.caller is.0 fits has)
      told (Does change) is fits = subst (CanTurn old.descriptors room session) (sym (ap (λ (x : Chosen). x.caller) is)) (can_turn old session room whole.count (Does change) o.caller fits has)

  -- the tree is a name tree still
  pub chosen_whole : IsTree limits_written tree
  chosen_whole = told chosen.change done
    where
      told : (change : Option Change) → MadeBy change old.live tree → IsTree limits_written tree
      told None e = subst (IsTree limits_written) (sym e) whole.live
      told (Some change) e = tree_kept limits_written change old.live tree whole.live e

-- what was served leaves a world
pub served_whole : (old new : World) (session : ℕ) (c : Call) (answer : Reply) → Becomes limits_written old session (decision limits_written old session c) answer new → IsCall c → IsWorld limits_written old → IsWorld limits_written new
served_whole old new session c answer h numbers whole = step_world limits_written old new session c answer (inl h) numbers whole

-- a run goes on by one step
pub run_more : {S : Type 0} (By : S → Event → Reply → S → Type 0) (old mid new : S) (events : List Event) (replies : List Reply) (e : Event) (reply : Reply) → RunBy By old events replies mid → By mid e reply new → RunBy By old (events ++ e ∷ []) (replies ++ reply ∷ []) new
run_more {S} By old mid new [] [] e reply run step = (new, subst (λ (x : S). By x e reply new) run step, refl)
run_more By old mid new [] (r ∷ replies) e reply run step = absurd run
run_more By old mid new (f ∷ events) [] e reply run step = absurd run
run_more By old mid new (f ∷ events) (r ∷ replies) e reply run step = (run.0, run.1, run_more By run.0 mid new events replies e reply run.2 step)
