-- The outcome of a call over the tree in memory, and in a run of it.
use Rattle.std.proofs.Common.{◌≡◌, ℕ, Bool, false, List, [], ◌∷◌, Option, Some, None, Result, Ok, Err, refl, sym, ap, subst, ◌∙◌, inl, inr}
use Rattle.std.specs.Prelude.{IsOk}
use Rattle.sn_limits.specs.Versions.{limits_written}
use Rattle.sn_model.specs.declared.call.Call.{Call}
use Rattle.sn_model.specs.declared.call.Event.{Event}
use Rattle.sn_model.specs.declared.call.Event.TheVariants as event
use Rattle.sn_model.specs.declared.change.Change.{Change}
use Rattle.sn_model.specs.declared.outcome.Outcome.{Outcome}
use Rattle.sn_model.specs.declared.reply.Refusal.{Refusal}
use Rattle.sn_model.specs.declared.reply.Reply.{Reply}
use Rattle.sn_model.specs.declared.reply.Errno.TheVariants.{Enomem}
use Rattle.sn_model.specs.declared.reply.Reply.TheVariants.{Done, Refused}
use Rattle.sn_model.specs.Calls.{ready}
use Rattle.sn_model.specs.Changes.{apply, made}
use Rattle.sn_model.specs.Machine.{Memory, OfMemory, Run, Running}
use Rattle.sn_model.specs.NameTree.{IsTree}
use Rattle.sn_model.specs.Settling.{settle}
use Rattle.sn_model.specs.Steps.{Becomes, TakesMemory, decision, with_live}
use Rattle.sn_model.specs.Tests.{plain}
use Rattle.sn_model.specs.Tree.{Tree}
use Rattle.sn_model.specs.World.{World}
use Rattle.sn_number_table.specs.Numbers.{kept_after}
use Rattle.sn_plain.specs.Plain.{Applies}
use Rattle.sn_plain.specs.declared.fault.ApplyError.{ApplyError}
use Rattle.sn_plain.specs.declared.fault.ApplyError.TheVariants as lack
use Rattle.sn_model.proofs.TreeLemmas.{tree_kept}
use Rattle.sn_caller.proofs.NumberLemmas.{kept_by, same_numbers}
use Rattle.sn_caller.proofs.RestartLemmas.{restart_numbers}
use Rattle.sn_caller.specs.declared.chosen.Chosen.{Chosen}
use Rattle.sn_caller.proofs.StepLemmas.{IsServed, MadeBy}
use Rattle.sn_plain_world.specs.declared.world.PlainWorld.{PlainWorld}
use Rattle.sn_plain_world.specs.Plain.{kept_of, room_of, world_of}
use Rattle.sn_plain_world.specs.PlainRuns.{Numbered, PlainStep, PlainRun}
use Rattle.sn_plain_world.specs.Served.{MakesChange}

-- a change of the tree is one of the world
pub made_so : (r : Result (Unit {0}) ApplyError) (c : Change) (old new : World) (tree : Tree) → new ≡ with_live old tree → Applies r (apply limits_written c old.live) old.live tree → MakesChange r c old new
made_so (Ok u) c old new tree e h = (tree, h, e)
made_so (Err lack.CannotApply) c old new tree e h = (h.0, e ∙ ap (with_live old) h.1)
made_so (Err lack.Memory) c old new tree e h = e ∙ ap (with_live old) h

-- what isn't made changes nothing
pub lacking : (e : ApplyError) (c : Change) (old new : World) → MakesChange (Err e) c old new → new ≡ old
lacking lack.CannotApply c old new h = h.1
lacking lack.Memory c old new h = h

-- what was chosen has been made over a world
pub record IsMade (old : World) (kept : ℕ → Bool) (chosen : Chosen) (room : ℕ) (mid : PlainWorld) : Type 0 where
  pub tree : Tree
  pub world : world_of mid ≡ with_live old tree
  pub done : MadeBy chosen.change old.live tree
  pub kept_is : (n : ℕ) → kept_of mid n ≡ kept_by chosen.change kept n
  pub room_is : room_of mid ≡ room

pub some_made : (old before : World) (kept first : ℕ → Bool) (chosen : Chosen) (room : ℕ) (mid : PlainWorld) (change : Change) → before ≡ old → first ≡ kept → chosen.change ≡ Some change → MakesChange (Ok tt) change before (world_of mid)
    → ((n : ℕ) → kept_of mid n ≡ kept_after change first n) → room_of mid ≡ room → IsMade old kept chosen room mid
some_made old before kept first chosen room mid change same none is made keeps room_is = record {
  tree = made.0;
  world = made.2 ∙ ap (λ (w : World). with_live w made.0) same;
  done = subst (λ (x : Option Change). MadeBy x old.live made.0) (sym is) (ap (λ (w : World). apply limits_written change w.live) (sym same) ∙ made.1);
  kept_is = λ n. keeps n ∙ ap (λ (k : ℕ → Bool). kept_after change k n) none ∙ ap (λ (x : Option Change). kept_by x kept n) (sym is);
  room_is = room_is;
}

pub none_made : (old : World) (kept : ℕ → Bool) (chosen : Chosen) (room : ℕ) (mid : PlainWorld) → world_of mid ≡ old → kept_of mid ≡ kept → chosen.change ≡ None → room_of mid ≡ room → IsMade old kept chosen room mid
none_made old kept chosen room mid same none is room_is = record {
  tree = old.live;
  world = same;
  done = subst (λ (x : Option Change). MadeBy x old.live old.live) (sym is) refl;
  kept_is = λ n. ap (λ (k : ℕ → Bool). k n) none ∙ ap (λ (x : Option Change). kept_by x kept n) (sym is);
  room_is = room_is;
}

-- it is one of the machine
pub machine_run : (old new : Numbered) (events : List Event) (replies : List Reply) → PlainRun old events replies new → Run OfMemory limits_written (Running old.world) events replies (Running new.world)
machine_run old new [] [] run = ap (λ (n : Numbered). Running n.world) run
machine_run old new [] (r ∷ replies) run = absurd run
machine_run old new (e ∷ events) [] run = absurd run
machine_run old new (e ∷ events) (r ∷ replies) run = (Running run.0.world, run.1.step, machine_run run.0 new events replies run.2)

-- what the machine says of a call that was answered, or refused, or found no memory
pub answered_step : (old new : Numbered) (session : ℕ) (c : Call) (reply : Reply) → IsServed old.world old.kept session c reply new.world new.kept → PlainStep old (event.Call session c) reply new
answered_step old new session c reply h = record { step = (None, inl refl, (new.world, h.0, refl)); numbers = h.1 }

pub refused_step : (old new : Numbered) (session : ℕ) (c : Call) (refusal : Refusal) → decision limits_written old.world session c ≡ Err refusal → new.world ≡ old.world → new.kept ≡ old.kept → PlainStep old (event.Call session c) (Refused refusal) new
refused_step old new session c refusal e same none = record {
  step = (None, inl refl, (new.world, subst (λ (d : Result Outcome Refusal). Becomes limits_written old.world session d (Refused refusal) new.world) (sym e) (refl, same), refl));
  numbers = same_numbers session c old.world new.world old.kept new.kept same none;
}

pub memory_step : (old new : Numbered) (session : ℕ) (c : Call) → TakesMemory c → IsOk (ready old.world session c) → new.world ≡ old.world → new.kept ≡ old.kept → PlainStep old (event.Call session c) (Refused (plain Enomem)) new
memory_step old new session c takes passed same none = record {
  step = (Some Memory, inr refl, ((takes, passed), record { told = refl; same = ap (λ (w : World). Running w) same }));
  numbers = same_numbers session c old.world new.world old.kept new.kept same none;
}

pub restart_step : (old new : Numbered) → new.world ≡ settle old.world → ((n : ℕ) → new.kept n ≡ false) → PlainStep old event.Restart Done new
restart_step old new settled none = record { step = (None, inl refl, (refl, ap (λ (w : World). Running w) settled)); numbers = restart_numbers old.world new.world old.kept new.kept settled none }

-- a change that was tried leaves a name tree
pub applied_tree : (result : Result (Unit {0}) ApplyError) (change : Change) (old new : Tree) → IsTree limits_written old → Applies result (apply limits_written change old) old new → IsTree limits_written new
applied_tree (Ok _) change old new whole e = tree_kept limits_written change old new whole e
applied_tree (Err lack.CannotApply) change old new whole e = subst (IsTree limits_written) (sym e.1) whole
applied_tree (Err lack.Memory) change old new whole e = subst (IsTree limits_written) (sym e) whole
