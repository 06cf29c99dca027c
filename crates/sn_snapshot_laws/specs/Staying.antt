-- What becomes of frozen trees in runs of the machine.
use Rattle.std.specs.Prelude.{◌≡◌, ◌≢◌, ℕ, List, Option, Some}
use Rattle.std.specs.FinMap as map
use Rattle.std.specs.List.{AllByRecursion}
use Rattle.sn_limits.specs.declared.limits.Limits.{Limits}
use Rattle.sn_model.specs.declared.call.Call.TheVariants.{SnapDelete}
use Rattle.sn_model.specs.declared.call.Event.{Event}
use Rattle.sn_model.specs.declared.call.Event.TheVariants.{Call}
use Rattle.sn_model.specs.declared.reply.Reply.{Reply}
use Rattle.sn_model.specs.Machine.{State, Running, Stopped, Mishap, Anything, CutRun, EventStep, Life, Run}
use Rattle.sn_model.specs.Tree.{Tree}
use Rattle.sn_model.specs.World.{World}

-- a snapshot's name denotes this tree
abbrev pub HasTree : List ℕ → Tree → World → Type 0
HasTree name tree w = map.get w.frozen name ≡ Some tree

-- of a machine that has stopped, in both worlds that the next mount may find
abbrev pub HasFrozen : List ℕ → Tree → State → Type 0
HasFrozen name tree (Running w) = HasTree name tree w
HasFrozen name tree (Stopped before after) = HasTree name tree before × HasTree name tree after

-- the event is no call that deletes the snapshot
abbrev pub Spares : List ℕ → Event → Type 0
Spares name e = (session : ℕ) → e ≢ Call session (SnapDelete name)

-- Over an event, whatever mishap it has, the tree is unchanged.
abbrev pub EventsKeepFrozenTrees : Type 0
EventsKeepFrozenTrees = (limits : Limits) (name : List ℕ) (tree : Tree) (s : State) (e : Event) (met : Option Mishap) (reply : Reply) (next : State) → Spares name e → HasFrozen name tree s → EventStep limits s e met reply next → HasFrozen name tree next

-- So it does over a run.
abbrev pub RunsKeepFrozenTrees : Type 0
RunsKeepFrozenTrees = (limits : Limits) (name : List ℕ) (tree : Tree) (s : State) (events : List Event) (replies : List Reply) (next : State) → AllByRecursion (Spares name) events → HasFrozen name tree s → Run Anything limits s events replies next → HasFrozen name tree next

-- Wherever a crash cuts a run short, the next mount finds it.
abbrev pub CrashesKeepFrozenTrees : Type 0
CrashesKeepFrozenTrees = (limits : Limits) (name : List ℕ) (tree : Tree) (s : State) (events : List Event) (replies : List Reply) (w : World) → AllByRecursion (Spares name) events → HasFrozen name tree s → CutRun Anything limits s events replies w → HasTree name tree w

-- It does so after many crashes too.
abbrev pub LivesKeepFrozenTrees : Type 0
LivesKeepFrozenTrees = (limits : Limits) (name : List ℕ) (tree : Tree) (first : World) (runs : List (List Event × List Reply)) (last : World) → AllByRecursion (λ (r : List Event × List Reply). AllByRecursion (Spares name) r.0) runs → HasTree name tree first → Life Anything limits first runs last → HasTree name tree last
