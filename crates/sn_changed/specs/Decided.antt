-- What calls decide leaves files without names as they are.
use Rattle.std.specs.Prelude.{◌≡◌, ℕ, ◌≤◌, Ok}
use Rattle.sn_limits.specs.declared.limits.Limits.{Limits}
use Rattle.sn_model.specs.declared.call.Call.{Call}
use Rattle.sn_model.specs.declared.change.Change.TheVariants.{Make}
use Rattle.sn_model.specs.Descriptors.{Descriptors, next_descriptor}
use Rattle.sn_model.specs.NameTree.{IsHierarchy}
use Rattle.sn_model.specs.declared.outcome.Caller.{Caller}
use Rattle.sn_model.specs.declared.outcome.Caller.TheVariants.{Closes, LogsIn, LogsOut, Moves, Opens, OpensNew, SetsUmask, Stays}
use Rattle.sn_model.specs.declared.outcome.Outcome.{Outcome}
use Rattle.sn_model.specs.declared.outcome.Pending.{Pending}
use Rattle.sn_model.specs.declared.outcome.Pending.TheVariants.{Does, Makes, Nothing}
use Rattle.sn_model.specs.Settling.{dropped, nameless_in}
use Rattle.sn_model.specs.Steps.{Comes, IsNumberFor, decision, with_caller, with_live}
use Rattle.sn_model.specs.Tree.{Tree}
use Rattle.sn_model.specs.World.{World}
use Rattle.sn_model.specs.Worlds.{IsWorld}
use Rattle.sn_overlay_change.specs.FirstNames.{GivesNoFirstName, StayNameless}

-- what is pending gives no file its first name, once a new node has its number
abbrev pub PendsNoFirstName : Tree → ℕ → Pending → Type 0
PendsNoFirstName tree number Nothing = Unit {0}
PendsNoFirstName tree number (Makes directory name kind o) = GivesNoFirstName tree (Make directory name number kind o)
PendsNoFirstName tree number (Does c) = GivesNoFirstName tree c

-- what is pending changes the tree, so that it is logged
abbrev pub IsLogged : Pending → Type 0
IsLogged Nothing = ⊥
IsLogged (Makes directory name kind o) = Unit {0}
IsLogged (Does c) = Unit {0}

-- a caller closes nothing, and what it opens gets its session's next descriptor
abbrev pub KeepsOpen : Descriptors → ℕ → Caller → Type 0
KeepsOpen table session LogsOut = ⊥
KeepsOpen table session (Opens fd home number flags) = next_descriptor table session ≡ Ok fd
KeepsOpen table session (OpensNew fd flags) = next_descriptor table session ≡ Ok fd
KeepsOpen table session (Closes fd) = ⊥
KeepsOpen table session outcome = Unit {0}

-- Whatever a call decides, no file without names gets one by it: what it names was found under a name, and what it makes is new.
abbrev pub DecidedGiveNoFirstName : Type 0
DecidedGiveNoFirstName = (limits : Limits) (world : World) (session : ℕ) (c : Call) (o : Outcome) (number : ℕ) → IsHierarchy world.live → decision limits world session c ≡ Ok o → IsNumberFor limits world.live number o.change
    → PendsNoFirstName world.live number o.change

-- A call that is logged closes nothing.
abbrev pub LoggedKeepOpen : Type 0
LoggedKeepOpen = (limits : Limits) (world : World) (session : ℕ) (c : Call) (o : Outcome) → IsWorld limits world → decision limits world session c ≡ Ok o → IsLogged o.change → KeepsOpen world.descriptors session o.caller

-- Where a change leaves files without names so, and nothing is closed, none of them is dropped: somebody has it open.
abbrev pub KeptOpenStay : Type 0
KeptOpenStay = (limits : Limits) (world : World) (session : ℕ) (caller : Caller) (after : Tree) → IsWorld limits world → StayNameless world.live after → KeepsOpen world.descriptors session caller
    → StayNameless world.live (dropped (with_caller (with_live world after) session caller)).live

-- So a call that is logged leaves each file without names so, and no fewer of them.
abbrev pub LoggedStayNameless : Type 0
LoggedStayNameless = (limits : Limits) (old new : World) (session : ℕ) (c : Call) (o : Outcome) → IsWorld limits old → decision limits old session c ≡ Ok o → IsLogged o.change → Comes limits old session o new → StayNameless old.live new.live

abbrev pub LoggedKeepNameless : Type 0
LoggedKeepNameless = (limits : Limits) (old new : World) (session : ℕ) (c : Call) (o : Outcome) → IsWorld limits old → decision limits old session c ≡ Ok o → IsLogged o.change → Comes limits old session o new → nameless_in old.live ≤ nameless_in new.live
