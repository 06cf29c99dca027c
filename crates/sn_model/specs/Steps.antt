-- What a call may answer while nothing fails, and the world that it leaves.
use Rattle.std.specs.Prelude.{◌≡◌, ◌⊎◌, ℕ, ◌≤◌, ◌<◌, Bool, true, false, IsTrue, Option, None, Some, Result, Ok, Err, IsOk, slice_get, slice_set}
use Rattle.std.specs.FinMap as map
use Rattle.std.specs.Option.{option_map, option_map_or, option_flatten}
use Rattle.sn_acl.specs.declared.modes.Mode.{Mode}
use Rattle.sn_limits.specs.declared.limits.Limits.{Limits}
use Rattle.sn_model.specs.declared.call.Call.{Call}
use Rattle.sn_model.specs.declared.call.Call.TheVariants as call
use Rattle.sn_model.specs.declared.change.Change.TheVariants.{Make}
use Rattle.sn_model.specs.declared.reply.Errno.TheVariants.{Enomem}
use Rattle.sn_model.specs.declared.reply.Refusal.{Refusal}
use Rattle.sn_model.specs.declared.reply.Reply.{Reply}
use Rattle.sn_model.specs.declared.reply.Reply.TheVariants.{Refused}
use Rattle.sn_model.specs.declared.session.Session.{Session}
use Rattle.sn_model.specs.Tree.{Tree}
use Rattle.sn_model.specs.World.{World}
use Rattle.sn_model.specs.Changes.{apply}
use Rattle.sn_model.specs.Descriptors.{Descriptors, closed, descriptor_for, moved_to, opened, without_session}
use Rattle.sn_model.specs.Outcomes.{Pending, Nothing, Makes, Does, Caller, LogsIn, SetsUmask, LogsOut, Opens, OpensNew, Closes, Moves, AskedPoint, Freezes, Thaws, Restores, Outcome}
use Rattle.sn_model.specs.Settling.{dropped, settled}
use Rattle.sn_walk.specs.declared.object.Home.TheVariants.{Live}
use Rattle.sn_walk.specs.Chains.{◌>>=◌}
use Rattle.sn_model.specs.Tests.{plain}
use Rattle.sn_model.specs.Calls.{ready, outcome_of}

-- the first refusal of a call, or its outcome
abbrev pub decision : Limits → World → ℕ → Call → Result Outcome Refusal
decision limits world session c = ready world session c >>= outcome_of limits world

-- whoever is logged in there, with another umask
abbrev pub masked : Mode → Option (Option Session) → Option Session
masked mask found = option_map (λ (s : Session). record s { umask = mask }) (option_flatten found)

abbrev pub with_descriptors : World → Descriptors → World
with_descriptors world table = record world { descriptors = table }

abbrev pub with_caller : World → ℕ → Caller → World
with_caller world session (LogsIn s) = record world { sessions = slice_set world.sessions session (Some s) }
with_caller world session (SetsUmask mask) = record world { sessions = slice_set world.sessions session (masked mask (slice_get world.sessions session)) }
with_caller world session LogsOut = record world { sessions = slice_set world.sessions session None; descriptors = without_session world.descriptors session }
with_caller world session (Opens fd home number flags) = with_descriptors world (opened world.descriptors session fd (descriptor_for flags home number))
with_caller world session (Closes fd) = with_descriptors world (closed world.descriptors session fd)
with_caller world session (Moves fd offset) = with_descriptors world (moved_to world.descriptors session fd offset)
with_caller world session caller = world

-- a new file's number filled in
abbrev pub filled : ℕ → Caller → Caller
filled number (OpensNew fd flags) = Opens fd Live number flags
filled number caller = caller

abbrev pub with_live : World → Tree → World
with_live world tree = record world { live = tree }

-- a number for a new node: no node has it
pub record IsNumber (limits : Limits) (tree : Tree) (number : ℕ) : Type 0 where
  pub first : 2 < number
  pub within : number ≤ limits.largest_number
  pub unused : map.get tree.nodes number ≡ None

abbrev pub IsNumberFor : Limits → Tree → ℕ → Pending → Type 0
IsNumberFor limits tree number (Makes directory name kind o) = IsNumber limits tree number
IsNumberFor limits tree number pending = Unit {0}

-- what a call's change does to the live tree, a new node's number filled in
abbrev pub changed : Limits → ℕ → Pending → Tree → Option Tree
changed limits number Nothing tree = Some tree
changed limits number (Makes directory name kind o) tree = apply limits (Make directory name number kind o) tree
changed limits number (Does c) tree = apply limits c tree

-- a snapshot's tree, without its files without names, takes the live one's place
abbrev pub restored : Option Tree → World → World
restored found world = option_map_or (λ tree. with_live world (settled tree)) found world

-- what a point that is asked for makes of the trees: a new snapshot has the live tree as it is, files without names among it
abbrev pub pointed : AskedPoint → World → World
pointed (Freezes name) world = record world { frozen = map.insert world.frozen name world.live }
pointed (Thaws name) world = record world { frozen = map.remove world.frozen name }
pointed (Restores name) world = restored (map.get world.frozen name) world
pointed asked world = world

-- an outcome becomes a world; the machine chooses a new node's number, and a file that has no name and that nobody has open goes
pub record Comes (limits : Limits) (old : World) (session : ℕ) (o : Outcome) (new : World) : Type 0 where
  pub number : ℕ
  pub free : IsNumberFor limits old.live number o.change
  pub tree : Tree
  pub applied : changed limits number o.change old.live ≡ Some tree
  pub world : new ≡ pointed o.point (dropped (with_caller (with_live old tree) session (filled number o.caller)))

-- a decision becomes this reply and this world
abbrev pub Becomes : Limits → World → ℕ → Result Outcome Refusal → Reply → World → Type 0
Becomes limits world session (Err refusal) reply new = (reply ≡ Refused refusal) × (new ≡ world)
Becomes limits world session (Ok o) reply new = (reply ≡ o.told) × Comes limits world session o new

-- the calls that may find no memory, or reach the device
abbrev pub TakesMemory : Call → Type 0
TakesMemory (call.Login uid gid groups) = ⊥
TakesMemory (call.Umask mask) = ⊥
TakesMemory call.Logout = ⊥
TakesMemory (call.Close fd) = ⊥
TakesMemory (call.Seek fd offset) = ⊥
TakesMemory c = Unit {0}

-- the calls that ask for a whole consistency point; of these one that restores a snapshot may be charged for something
abbrev pub asks_for_point : Call → Bool
asks_for_point call.Sync = true
asks_for_point (call.SnapCreate name) = true
asks_for_point (call.SnapDelete name) = true
asks_for_point (call.SnapRestore name) = true
asks_for_point c = false

abbrev pub AsksForPoint : Call → Type 0
AsksForPoint c = IsTrue (asks_for_point c)

-- a call may find no memory once its session and arguments have passed, and then changes nothing
pub record LacksMemory (world : World) (session : ℕ) (c : Call) (reply : Reply) (new : World) : Type 0 where
  pub takes : TakesMemory c
  pub passed : IsOk (ready world session c)
  pub told : reply ≡ Refused (plain Enomem)
  pub same : new ≡ world

-- From old, a call may be given this reply and leave new, while nothing but memory is refused.
abbrev pub Step : Limits → World → ℕ → Call → Reply → World → Type 0
Step limits old session c reply new = Becomes limits old session (decision limits old session c) reply new ⊎ LacksMemory old session c reply new
