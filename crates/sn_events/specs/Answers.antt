-- What an event leads a mounted file system to, on its disk too.
use Rattle.std.specs.Prelude.{◌≡◌, ◌≢◌, ◌⊎◌, ℕ, ◌+◌, ◌-◌, ◌*◌, ◌<◌, ◌≤◌, Bool, false, true, ◌||◌, Option, None, Some, Ok, length}
use Rattle.std.specs.FinMap as map
use Rattle.sn_device.specs.Crash.{Touches}
use Rattle.sn_device.specs.Disk.{Disk, reads}
use Rattle.sn_device.specs.declared.status.Status.{Status}
use Rattle.sn_layout.specs.declared.gate.Gate.{Gate}
use Rattle.sn_layout.specs.declared.root.RootBody.{RootBody}
use Rattle.sn_limits.specs.Versions.{limits_written}
use Rattle.sn_model.specs.declared.call.Call.{Call}
use Rattle.sn_model.specs.declared.call.Event.{Event}
use Rattle.sn_model.specs.declared.call.Event.TheVariants as event
use Rattle.sn_model.specs.declared.change.Change.{Change}
use Rattle.sn_model.specs.declared.outcome.AskedPoint.{AskedPoint}
use Rattle.sn_model.specs.declared.outcome.AskedPoint.TheVariants.{Plain, Restores}
use Rattle.sn_model.specs.declared.outcome.Outcome.{Outcome}
use Rattle.sn_model.specs.declared.reply.Progress.TheVariants as progress
use Rattle.sn_model.specs.declared.reply.Reply.{Reply}
use Rattle.sn_model.specs.declared.reply.Reply.TheVariants as answer
use Rattle.sn_model.specs.Changes.{apply}
use Rattle.sn_model.specs.Machine.{State, Running, Stopped, Mishap, Read, Write, Space, Age, EventStep}
use Rattle.sn_model.specs.Settling.{dropped, nameless_in, settle, settled}
use Rattle.sn_model.specs.Steps.{AsksForPoint, decision, pointed, with_caller, with_live}
use Rattle.sn_model.specs.Tree.{Tree}
use Rattle.sn_model.specs.World.{World}
use Rattle.sn_changed.specs.Changed.{HasChanged}
use Rattle.sn_block.specs.Counts.{FailsRead, IsLater, called}
use Rattle.sn_ondisk.specs.LogHalf.{InHalf, body_sectors}
use Rattle.sn_record.specs.Payload.{payload_bytes}
use Rattle.sn_log.specs.Positions.{HasRoom, base_at, behind, first_of}
use Rattle.sn_caller.specs.Numbering.{gives_kept, has_closed}
use Rattle.sn_caller.specs.declared.chosen.Chosen.{Chosen}
use Rattle.sn_caller.specs.Choosing.{Chooses}
use Rattle.sn_held.specs.Held.{Going, Held, CarriesOn}
use Rattle.sn_held.specs.Moments.{LastsOver}
use Rattle.sn_held.specs.Room.{HasRoomOf}
use Rattle.sn_overlay.specs.Layers.{Layer}
use Rattle.sn_overlay.specs.Needs.{need}
use Rattle.sn_overlay.specs.Overlays.{no_changes}
use Rattle.sn_held.specs.Rooms.{begun, done, dropping, fits, logged}
use Rattle.sn_sound.specs.Logs.{HasAgeLeft}
use Rattle.sn_root.specs.declared.following.PointKind.TheVariants.{Ordinary}
use Rattle.sn_cp.specs.Counting.{steps_left, syncs_left, writes_left}
use Rattle.sn_cp.specs.Points.{first_stage}
use Rattle.sn_cp.specs.Steps.{next_stage, syncs_of}
use Rattle.sn_cp.specs.Steps.{writes_of as writes_in_step}
use Rattle.sn_cp.specs.declared.stage.Stage.TheVariants.{Bodied}
use Rattle.sn_cp_progress.specs.Meaning.{Means}
use Rattle.sn_cp_whole.specs.Planning.{HasAgeFor}
use Rattle.sn_cp_whole.specs.Recovering.{IsApart}
use Rattle.sn_cp_whole.specs.Making.{most_syncs, most_writes, syncs_of_point, writes_of_point}
use Rattle.sn_examine.specs.Failing.{CostsAtMost, HasFailed, HasNotFailed}
use Rattle.sn_mount.specs.Costs.{CostsFew, CostsMount}
use Rattle.sn_mount.specs.Recovering.{KeepsTheRoot, KeepsTheWorld, LeavesTheWorld, OfImage}
use Rattle.sn_events.specs.Dropping.{DropsFiles}
use Rattle.sn_events.specs.Mounting.{IsFresh, WritesToMount}
use Rattle.sn_cp_held.specs.Wholes.{IsFollowing}
use Rattle.sn_held.specs.Images.{IsImage}
use Rattle.sn_mount.specs.Rooting.{MountsRoot}

-- the change that a call results in
pub record IsChangeOf (world : World) (kept : ℕ → Bool) (session : ℕ) (c : Call) (change : Change) : Type 0 where
  pub outcome : Outcome
  pub decided : decision limits_written world session c ≡ Ok outcome
  pub picked : Chosen
  pub chosen : Chooses world.live kept outcome.change outcome.caller picked
  pub is : picked.change ≡ Some change

-- whether a call with this outcome fits, on top of what was logged
abbrev pub is_fitting : Held → Outcome → Bool
is_fitting h o = fits limits_written h.room (nameless_in h.world.live) o

-- What a call is charged for, with what was charged before it, is more than is free. One that is charged for nothing takes no block.
pub record DoesNotFit (h : Held) (session : ℕ) (c : Call) : Type 0 where
  pub outcome : Outcome
  pub decided : decision limits_written h.world session c ≡ Ok outcome
  pub some : 0 < outcome.charge
  pub over : is_fitting h outcome ≡ false

-- What the change of a call lacks: room for its record in the log, or for its charge on the disk; a number, where one that is kept back would be given out; or a root that could follow, so that a mount could make a point of what is logged.
abbrev pub Lacks : Held → Change → Outcome → Type 0
Lacks h change o = (HasRoom h.at change → ⊥) ⊎ (is_fitting h o ≡ false) ⊎ (gives_kept change h.kept ≡ true) ⊎ (HasAgeLeft h.base.root → ⊥)

-- a call results in a change that lacks something
pub record LacksFirst (h : Held) (session : ℕ) (c : Call) : Type 0 where
  pub change : Change
  pub is : IsChangeOf h.world h.kept session c change
  pub lacks : Lacks h change is.outcome

-- a call asks for a point, and its tests pass
pub record AsksFirst (h : Held) (session : ℕ) (c : Call) : Type 0 where
  pub asks : AsksForPoint c
  pub outcome : Outcome
  pub decided : decision limits_written h.world session c ≡ Ok outcome

-- Then the point in progress is finished first. A step asks for a point, and the unmount of a restart for a whole one.
abbrev pub NeedsPoint : Held → Event → Type 0
NeedsPoint h (event.Call session c) = LacksFirst h session c ⊎ AsksFirst h session c
NeedsPoint h e = Unit {0}

-- What the point of a call is built from: what changed since the root, and where it brings a snapshot back, what
-- drops the files without names of that one's tree, and nothing else.
abbrev pub BuildsFor : AskedPoint → Held → Layer → Type 0
BuildsFor (Restores name) old built = (tree : Tree) × (map.get old.world.frozen name ≡ Some tree) × HasChanged limits_written built tree (settled tree) 0
BuildsFor asked old built = built ≡ old.base.changed

-- and that of an unmount: of that without the files that have no name
abbrev pub BuildsLast : Held → Layer → Type 0
BuildsLast old built = DropsFiles old.base old.world.live (record old.base { changed = built }) (settle old.world).live

-- the sectors outside the root that counts
abbrev pub IsBesideRoot : Held → ℕ → Type 0
IsBesideRoot h = IsApart h.at.blocks h.base.slot

-- A whole point was made, where none was in progress, with its writes and syncs, outside the root that counted: nothing was done since its
-- root, which follows on that and has this world.
pub record HasMadePoint (world : World) (Builds : Layer → Type 0) (old new : Held) : Type 0 where
  pub between : old.point ≡ None
  pub is : new.world ≡ world
  pub fresh : IsFresh new
  pub log : new.at ≡ first_of old.at.blocks (old.at.epoch + 1)
  pub follows : IsFollowing Ordinary old.base.root new.base.root
  pub touched : Touches (IsBesideRoot old) old.disk new.disk
  pub built : Layer
  pub builds : Builds built
  pub count : ℕ
  pub few : count ≤ need old.base.root.limits built
  pub gate : Gate
  pub costs : new.status ≡ called (writes_of_point old.at.blocks gate count) (syncs_of_point gate) old.status

-- one that only makes room
abbrev pub HasMadeRoom : Held → Held → Type 0
HasMadeRoom old new = HasMadePoint old.world (BuildsFor Plain old) old new

-- that of an unmount
abbrev pub HasMadeLast : Held → Held → Type 0
HasMadeLast old new = HasMadePoint (settle old.world) (BuildsLast old) old new

-- The point in progress was finished, with the writes and syncs that were left of it, outside the root that counted: its own root counts,
-- with what was logged, was charged and has changed since it began. The numbers that were kept back before no longer are.
pub record HasFinished (old new : Held) : Type 0 where
  pub going : Going
  pub is : old.point ≡ Some going
  pub point : new.point ≡ None
  pub world : new.world ≡ old.world
  pub kept : (number : ℕ) → new.kept number ≡ old.kept_since number
  pub since : (number : ℕ) → new.kept_since number ≡ old.kept_since number
  pub log : new.at ≡ old.at
  pub room : new.room ≡ done going.free old.room
  pub base : new.base ≡ record { slot = going.work.slot; root = going.work.plan.next; words = going.work.plan.words; changed = old.base.changed }
  pub touched : Touches (IsBesideRoot old) old.disk new.disk
  pub costs : new.status ≡ called (writes_left going.work going.stage) (syncs_left going.work going.stage) old.status

-- What may finish the point in progress: a call or a restart of a mount that runs. A step makes one step alone.
abbrev pub MayPoint : State → Event → Type 0
MayPoint (Running w) event.Step = ⊥
MayPoint (Running w) e = Unit {0}
MayPoint (Stopped before after) e = ⊥

-- What is held once the point in progress is finished, where an event needs that: else what was held.
abbrev pub IsBehindFinish : State → Event → Held → Held → Type 0
IsBehindFinish s e old fin = (fin ≡ old) ⊎ (MayPoint s e × NeedsPoint old e × HasFinished old fin)

-- A call needs a whole point first if its change lacks something, or if it asks for a point of its own and doesn't fit.
abbrev pub NeedsRoom : Held → ℕ → Call → Type 0
NeedsRoom h session c = LacksFirst h session c ⊎ (AsksForPoint c × DoesNotFit h session c)

-- the whole point that an event of a mount that runs makes first: one that makes room for a call, or that of an unmount
abbrev pub MakesFirst : State → Event → Held → Held → Type 0
MakesFirst (Running w) (event.Call session c) old mid = NeedsRoom old session c × HasMadeRoom old mid
MakesFirst (Running w) event.Restart old mid = HasMadeLast old mid
MakesFirst s e old mid = ⊥

-- What is held after the whole point that an event makes first, where it makes one: else what was held.
abbrev pub IsBehindPoint : State → Event → Held → Held → Type 0
IsBehindPoint s e old mid = (mid ≡ old) ⊎ MakesFirst s e old mid

-- no root can follow on it that leaves an age for another
abbrev pub IsLastRoot : RootBody → Type 0
IsLastRoot root = HasAgeFor Ordinary root → ⊥

-- A call doesn't fit right after a whole point that made room for it.
abbrev pub LacksRoom : Event → Held → Held → Type 0
LacksRoom (event.Call session c) old mid = NeedsRoom old session c × HasMadeRoom old mid × DoesNotFit mid session c
LacksRoom e old mid = ⊥

-- The root on which a point is needed is too old; for a call that is the one after any point that made room for it.
abbrev pub LacksAge : Event → Held → Held → Type 0
LacksAge (event.Call session c) old mid = NeedsPoint mid (event.Call session c) × IsLastRoot mid.base.root
LacksAge e old mid = IsLastRoot old.base.root

-- what an event may encounter: EIO only where the device failed, ENOSPC only where the call doesn't fit right after a whole point, ELIMIT
-- for age only where a point is needed and its root would be too old, and nothing but EIO where the device failed
abbrev pub MayMeet : Held → Held → Event → Option Mishap → Status → Type 0
MayMeet old mid e (Some Read) new = HasFailed old.status new
MayMeet old mid e (Some Write) new = HasFailed old.status new
MayMeet old mid e (Some Space) new = LacksRoom e old mid × HasNotFailed old.status new
MayMeet old mid e (Some Age) new = LacksAge e old mid × HasNotFailed old.status new
MayMeet old mid e met new = HasNotFailed old.status new

-- the writes of a record: its body's sectors, the next gate closed and its own gate opened
abbrev pub writes_of : Change → ℕ
writes_of change = body_sectors (payload_bytes change) + 2

-- it lacks nothing: its record has room, its charge fits, its number isn't kept back, and a mount could make a point of it
pub record HasAll (h : Held) (change : Change) (o : Outcome) : Type 0 where
  pub room : HasRoom h.at change
  pub fits : is_fitting h o ≡ true
  pub number : gives_kept change h.kept ≡ false
  pub age : HasAgeLeft h.base.root

-- ---- what is left of what was held

-- It was refused, and nothing has changed but what the device counts of a read that failed.
abbrev pub IsUnchanged : Mishap → Held → Held → Type 0
IsUnchanged Read old new = (new ≡ record old { status = new.status }) × FailsRead old.status new.status
IsUnchanged Write old new = ⊥
IsUnchanged m old new = new ≡ old

-- with a change that makes this tree, and its record, with the writes and the two syncs of that
abbrev pub with_record : Held → Change → ℕ → Tree → Disk → Held
with_record h change charge tree disk = record h { world = with_live h.world tree; room = logged charge h.room; at = behind h.at change; disk = disk; status = called (writes_of change) 2 h.status }

-- Files without names may have been dropped: the numbers of those that were open are kept back, and of those that were parked as many count
-- as dropped as are no longer there. Nothing else has changed, but for what is kept of the changes since the root.
pub record HasDropped (parked : ℕ) (old new : Held) : Type 0 where
  pub kept : (number : ℕ) → new.kept number ≡ (has_closed old.world new.world number || old.kept number)
  pub since : (number : ℕ) → new.kept_since number ≡ (has_closed old.world new.world number || old.kept_since number)
  pub is : new ≡ record old { world = new.world; kept = new.kept; kept_since = new.kept_since; room = dropping (parked - nameless_in new.world.live) old.room; base = new.base }

-- the same root is kept, and what changed since leads on to the live tree that is there now, with this charge
abbrev pub CarriesCharge : ℕ → Held → Held → Type 0
CarriesCharge charge old new = (figure : ℕ) → CarriesOn old.base old.world.live figure new.base new.world.live (figure + charge)

-- A call that results in no change of the tree writes nothing. Files without names may be dropped with it.
pub record HasTold (session : ℕ) (c : Call) (old new : Held) : Type 0 where
  pub none : (change : Change) → IsChangeOf old.world old.kept session c change → ⊥
  pub drops : HasDropped (nameless_in old.world.live) old new
  pub carries : CarriesCharge 0 old new

-- The change that a call results in was appended to the log, where it lacked nothing, charged, and made. A file that is dropped with its
-- last name was charged by its call, and isn't counted.
pub record HasLogged (session : ℕ) (c : Call) (old new : Held) : Type 0 where
  pub change : Change
  pub is : IsChangeOf old.world old.kept session c change
  pub all : HasAll old change is.outcome
  pub tree : Tree
  pub applied : apply limits_written change old.world.live ≡ Some tree
  pub world : new.world ≡ dropped (with_caller (with_live old.world tree) session is.picked.caller)
  pub touched : Touches (InHalf (base_at old.at)) old.disk new.disk
  pub drops : HasDropped 0 (with_record old change is.outcome.charge tree new.disk) new
  pub carries : CarriesCharge is.outcome.charge old new

-- its append was cut off
pub record IsTried (h : Held) (session : ℕ) (c : Call) (disk : Disk) (status : Status) : Type 0 where
  pub change : Change
  pub is : IsChangeOf h.world h.kept session c change
  pub all : HasAll h change is.outcome
  pub touched : Touches (InHalf (base_at h.at)) h.disk disk
  pub costs : CostsAtMost (writes_of change) 2 h.status status

-- a whole point was cut off
pub record IsCutPoint (Builds : Layer → Type 0) (old : Held) (disk : Disk) (status : Status) : Type 0 where
  pub touched : Touches (IsBesideRoot old) old.disk disk
  pub built : Layer
  pub builds : Builds built
  pub costs : CostsAtMost (most_writes old.at.blocks (need old.base.root.limits built)) most_syncs old.status status

-- the point in progress was cut off while it was finished
pub record IsCutFinish (old : Held) (e : Event) (disk : Disk) (status : Status) : Type 0 where
  pub needed : NeedsPoint old e
  pub touched : Touches (IsBesideRoot old) old.disk disk
  pub going : Going
  pub is : old.point ≡ Some going
  pub costs : CostsAtMost (writes_left going.work going.stage) (syncs_left going.work going.stage) old.status status

-- A call that asks for a point, and whose tests pass, has made it, where it fits.
pub record HasPointed (session : ℕ) (c : Call) (old new : Held) : Type 0 where
  pub asked : AsksFirst old session c
  pub fits : DoesNotFit old session c → ⊥
  pub made : HasMadePoint (pointed asked.outcome.point old.world) (BuildsFor asked.outcome.point old) old new

-- or it was cut off
abbrev pub IsCutAsked : ℕ → Call → Held → Disk → Status → Type 0
IsCutAsked session c old disk status = (asked : AsksFirst old session c) × (DoesNotFit old session c → ⊥) × IsCutPoint (BuildsFor asked.outcome.point old) old disk status

-- a call was cut off: its record, its own point, the one that made room for it, or the one in progress
abbrev pub IsCutCall : Held → Held → ℕ → Call → Disk → Status → Type 0
IsCutCall old mid session c disk status = IsTried mid session c disk status ⊎ IsCutAsked session c mid disk status
    ⊎ (NeedsRoom old session c × IsCutPoint (BuildsFor Plain old) old disk status) ⊎ IsCutFinish old (event.Call session c) disk status

-- After the point that a call makes first, where it needs one: one that asks for a point makes it, a call that results in a change is
-- recorded, also where the change alters nothing, and any other writes nothing; nor does one that is refused.
abbrev pub LeavesCall : Held → Held → ℕ → Call → Option Mishap → Held → Type 0
LeavesCall old mid session c None new = HasPointed session c mid new ⊎ ((AsksFirst mid session c → ⊥) × (HasTold session c mid new ⊎ HasLogged session c mid new))
LeavesCall old mid session c (Some Write) new = IsCutCall old mid session c new.disk new.status
LeavesCall old mid session c (Some m) new = IsUnchanged m mid new

-- the whole point of an unmount was cut off, or the one in progress
abbrev pub IsCutLast : Held → Disk → Status → Type 0
IsCutLast old disk status = IsCutPoint (BuildsLast old) old disk status ⊎ IsCutFinish old event.Restart disk status

-- A step has begun a point of what changed since the root, with a write and a sync: the log continues in the other half, under the next epoch. Nothing is charged, has changed or is kept back since.
pub record HasBegun (old new : Held) : Type 0 where
  pub between : old.point ≡ None
  pub going : Going
  pub is : new.point ≡ Some going
  pub size : going.work.blocks ≡ old.at.blocks
  pub few : length going.work.plan.blocks ≤ need old.base.root.limits old.base.changed
  pub first : going.stage ≡ first_stage (length going.work.plan.blocks)
  pub follows : IsFollowing Ordinary old.base.root going.work.plan.next
  pub world : new.world ≡ old.world
  pub kept : (number : ℕ) → new.kept number ≡ old.kept number
  pub none_since : (number : ℕ) → new.kept_since number ≡ false
  pub log : new.at ≡ first_of old.at.blocks (old.at.epoch + 1)
  pub room : new.room ≡ begun old.room
  pub base : new.base ≡ record old.base { changed = no_changes }
  pub costs : new.status ≡ called 1 1 old.status

-- One that isn't the last has brought the point in progress to its next stage, and changed nothing else of what is held.
pub record HasGoneOn (old new : Held) : Type 0 where
  pub going : Going
  pub is : old.point ≡ Some going
  pub more : going.stage ≢ Bodied
  pub held : new ≡ record old { point = Some (record going { stage = next_stage going.work going.stage }); disk = new.disk; status = new.status }
  pub costs : new.status ≡ called (writes_in_step going.work going.stage) (syncs_of going.work going.stage) old.status

-- A step says that there is more where it has begun or continued a point, and that it is done where it has finished the point at its
-- last stage, so that the tree that was frozen became durable: it writes outside the root that counts.
pub record HasStepped (reply : Reply) (old new : Held) : Type 0 where
  pub touched : Touches (IsBesideRoot old) old.disk new.disk
  pub told : ((reply ≡ answer.Progress progress.More) × (HasBegun old new ⊎ HasGoneOn old new))
      ⊎ ((reply ≡ answer.Progress progress.Done) × ((finished : HasFinished old new) × (finished.going.stage ≡ Bodied)))

-- one that was cut off wrote there too, with at most eight writes and a sync
abbrev pub LeavesStep : Held → Option Mishap → Reply → Held → Type 0
LeavesStep old None reply new = HasStepped reply old new
LeavesStep old (Some Write) reply new = Touches (IsBesideRoot old) old.disk new.disk × CostsAtMost 8 1 old.status new.status
LeavesStep old (Some m) reply new = IsUnchanged m old new

-- how many steps a point in progress has left
abbrev pub left_of : Option Going → ℕ
left_of None = 0
left_of (Some going) = steps_left going.work going.stage

-- what an event takes off it, while the point is in progress: a step that says that there is more takes one off
abbrev pub counts_down : Event → Reply → ℕ
counts_down event.Step (answer.Progress progress.More) = 1
counts_down e reply = 0

-- what a mount costs
abbrev pub CostsMountOf : Status → Status → Type 0
CostsMountOf old new = (n : ℕ) × (8 * n ≤ old.sectors) × CostsMount n old new

-- What the disk was an image of is mounted, which was this world, with the room of the image that is there now, and nothing was done since
-- its root: that is the one that was found, or one that follows, where a record was replayed or a file without names dropped. From its
-- first sync on at no moment would a crash have left another world.
pub record HasMounted (world : World) (old new : Held) : Type 0 where
  pub fresh : IsFresh new
  pub room : HasRoomOf (reads new.disk) world new.room
  pub leaves : LeavesTheWorld old.disk new.disk world
  pub touched : KeepsTheRoot old.status.sectors old.disk new.disk
  pub root : (im : IsImage (reads old.disk) world) → MountsRoot (reads old.disk) world im new.base old.status new.status
  pub costs : CostsMountOf old.status new.status

-- It isn't mounted, and from the first sync on a crash leaves the world that the disk was an image of.
pub record HasNotMounted (old new : Held) : Type 0 where
  pub keeps : OfImage old.disk (KeepsTheWorld old.disk new.disk)
  pub touched : WritesToMount old.status.sectors old.disk new.disk
  pub costs : CostsFew old.status new.status

-- a mount of what is there, by the state that it leads to
abbrev pub LeavesMount : Held → State → Held → Type 0
LeavesMount old (Running world) new = HasMounted world old new
LeavesMount old (Stopped before after) new = HasNotMounted old new

-- A restart makes a whole point, and mounts after it, unless the point isn't made.
abbrev pub LeavesRestart : Held → Held → Option Mishap → State → Held → Type 0
LeavesRestart old mid None next new = HasMadeLast old mid × LeavesMount mid next new
LeavesRestart old mid (Some Write) next new = IsCutLast old new.disk new.status
LeavesRestart old mid (Some m) (Running world) new = IsUnchanged m old new
LeavesRestart old mid (Some m) (Stopped before after) new = HasMadeLast old mid × HasNotMounted mid new

-- What is held after an event, from what was held once the point in progress was finished, and after the whole point that was made. In a
-- mount that has stopped all but a restart leaves what was held, and calls nothing of the device.
abbrev pub Leaves : State → Event → Option Mishap → Reply → State → Held → Held → Held → Type 0
Leaves (Running w) (event.Call session c) met reply next fin mid new = LeavesCall fin mid session c met new
Leaves (Running w) event.Step met reply next fin mid new = LeavesStep fin met reply new
Leaves (Running w) event.Restart met reply next fin mid new = LeavesRestart fin mid met next new
Leaves (Stopped before after) event.Restart met reply next fin mid new = LeavesMount mid next new
Leaves (Stopped before after) e met reply next fin mid new = new ≡ mid

-- The event is a step of the machine, from this state to the next: a crash at any moment of its course leaves one of the two, and once it
-- is answered the next alone. First the point in progress is finished, where the event needs that, and then a whole one is made, where it
-- needs one: what is held then is determined by what was held after them.
pub record AnswersFrom (s : State) (e : Event) (reply : Reply) (old new : Held) (has_stopped : Bool) : Type 0 where
  pub met : Option Mishap
  pub fin : Held
  pub finish : IsBehindFinish s e old fin
  pub mid : Held
  pub point : IsBehindPoint s e fin mid
  pub may : MayMeet fin mid e met new.status
  pub next : State
  pub step : EventStep limits_written s e met reply next
  pub means : Means new has_stopped next
  pub lasts : LastsOver s next old.disk new.disk
  pub later : IsLater old.status new.status
  pub leaves : Leaves s e met reply next fin mid new

-- so it is from each state that is meant
abbrev pub Answers : Event → Reply → Held → Bool → Held → Bool → Type 0
Answers e reply old had_stopped new has_stopped = (s : State) → Means old had_stopped s → AnswersFrom s e reply old new has_stopped
