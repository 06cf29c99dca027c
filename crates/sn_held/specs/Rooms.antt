-- Room: what calls are charged against the free blocks.
use Rattle.std.specs.Prelude.{ℕ, ◌+◌, ◌-◌, ◌*◌, ◌≤◌, Bool, true, false, nat_le, if◌then◌else◌}
use Rattle.sn_limits.specs.declared.limits.Limits.{Limits}
use Rattle.sn_model.specs.declared.change.Change.TheVariants.{Remove}
use Rattle.sn_model.specs.declared.outcome.Outcome.{Outcome}
use Rattle.sn_model.specs.declared.outcome.Pending.{Pending}
use Rattle.sn_model.specs.declared.outcome.Pending.TheVariants.{Does}

pub record RoomCounts : Type 0 where
  -- the data blocks that no durable root reaches
  pub free : ℕ
  -- the charges of the calls that were logged since the durable root's moment, and of those since the point in progress began
  pub charged : ℕ
  pub charged_since : ℕ
  -- the files that a close or a logout dropped, likewise
  pub dropped : ℕ
  pub dropped_since : ℕ

-- what came since the point is among what came since the root
pub record IsRoom (room : RoomCounts) : Type 0 where
  pub charges : room.charged_since ≤ room.charged
  pub drops : room.dropped_since ≤ room.dropped

-- the files without names that are live, so many, or were dropped since the durable root's moment
abbrev pub parked : RoomCounts → ℕ → ℕ
parked room nameless = nameless + room.dropped

-- the changes that go without the reserve
abbrev pub gives_back : Pending → Bool
gives_back (Does (Remove directory name)) = true
gives_back pending = false

-- what is charged once the call is logged, with an inode's charge for each parked file
abbrev pub charged_behind : Limits → RoomCounts → ℕ → Outcome → ℕ
charged_behind limits room nameless o = room.charged + o.charge + limits.inode_charge * parked room nameless

-- a call with this outcome fits, where so many live files have no name
abbrev pub fits : Limits → RoomCounts → ℕ → Outcome → Bool
fits limits room nameless o = nat_le (charged_behind limits room nameless o + (if gives_back o.change then 0 else limits.reserve)) room.free

-- what is free beyond what is charged, with an inode's charge for each parked file; 0 where that is more
abbrev pub left : Limits → RoomCounts → ℕ → ℕ
left limits room nameless = room.free - (room.charged + limits.inode_charge * parked room nameless)

-- what was charged, with an inode's charge for each file that was dropped, is no more than is free
abbrev pub is_covered : Limits → RoomCounts → Bool
is_covered limits room = nat_le (room.charged + limits.inode_charge * room.dropped) room.free

-- ---- how it changes

abbrev pub logged : ℕ → RoomCounts → RoomCounts
logged charge room = record room { charged = room.charged + charge; charged_since = room.charged_since + charge }

abbrev pub dropping : ℕ → RoomCounts → RoomCounts
dropping count room = record room { dropped = room.dropped + count; dropped_since = room.dropped_since + count }

-- a point begins
abbrev pub begun : RoomCounts → RoomCounts
begun room = record room { charged_since = 0; dropped_since = 0 }

-- its root is durable, and leaves so many blocks free
abbrev pub done : ℕ → RoomCounts → RoomCounts
done free room = record room { free = free; charged = room.charged_since; dropped = room.dropped_since }

-- nothing is charged against so many blocks
abbrev pub fresh : ℕ → RoomCounts
fresh free = record { free = free; charged = 0; charged_since = 0; dropped = 0; dropped_since = 0 }

-- After a mount, which makes no point: all that was charged, and was dropped, came since the root's moment.
abbrev pub mounted : ℕ → ℕ → ℕ → RoomCounts
mounted free charged dropped = record { free = free; charged = charged; charged_since = charged; dropped = dropped; dropped_since = dropped }
