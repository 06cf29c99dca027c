-- What bringing a snapshot back does, said as a user of a file system would say it.
use Rattle.std.specs.Prelude.{◌≡◌, ℕ, ◌<◌, false, List, Some}
use Rattle.std.specs.FinMap as map
use Rattle.sn_limits.specs.declared.kind.Kind.TheVariants.{File}
use Rattle.sn_limits.specs.declared.limits.Limits.{Limits}
use Rattle.sn_walk.specs.declared.object.Home.TheVariants.{Live}
use Rattle.sn_model.specs.declared.call.Call.TheVariants.{SnapRestore}
use Rattle.sn_model.specs.declared.reply.Reply.TheVariants.{Done}
use Rattle.sn_model.specs.NameTree.{HasKind}
use Rattle.sn_model.specs.Outcomes.{Restores}
use Rattle.sn_model.specs.Settling.{settled}
use Rattle.sn_model.specs.SnapshotCalls.{has_open}
use Rattle.sn_model.specs.Steps.{Step, pointed}
use Rattle.sn_model.specs.Tree.{Tree, names_for}
use Rattle.sn_model.specs.World.{World}
use Rattle.sn_model.specs.Worlds.{IsWorld}

-- What a restore leaves is a world: no descriptor is of the live tree, and no live file is without a name.
abbrev pub RestoresLeaveAWorld : Type 0
RestoresLeaveAWorld = (limits : Limits) (world : World) (name : List ℕ) → IsWorld limits world → has_open world.descriptors Live ≡ false → IsWorld limits (pointed (Restores name) world)

-- The frozen trees, the sessions and the descriptors stay.
pub record StaysBeside (old new : World) : Type 0 where
  pub frozen : new.frozen ≡ old.frozen
  pub sessions : new.sessions ≡ old.sessions
  pub descriptors : new.descriptors ≡ old.descriptors

abbrev pub RestoresStayBeside : Type 0
RestoresStayBeside = (world : World) (name : List ℕ) → StaysBeside world (pointed (Restores name) world)

-- The live tree is the snapshot's without its files without names, so that each live file has one.
pub record BringsBack (old new : World) (name : List ℕ) : Type 0 where
  pub tree : Tree
  pub snapshot : map.get old.frozen name ≡ Some tree
  pub live : new.live ≡ settled tree
  pub named : (number : ℕ) → HasKind new.live number File → 0 < names_for new.live number
  pub beside : StaysBeside old new

-- A call that answers that it has restored a snapshot has done so.
abbrev pub RestoresBringBack : Type 0
RestoresBringBack = (limits : Limits) (old new : World) (session : ℕ) (name : List ℕ) → IsWorld limits old → Step limits old session (SnapRestore name) Done new → BringsBack old new name
