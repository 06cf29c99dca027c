-- What follows from the definitions of room.
use Rattle.std.specs.Prelude.{◌≡◌, ℕ, ◌+◌, ◌*◌, ◌≤◌, true}
use Rattle.sn_limits.specs.declared.limits.Limits.{Limits}
use Rattle.sn_model.specs.declared.outcome.Outcome.{Outcome}
use Rattle.sn_held.specs.Rooms.{RoomCounts, begun, done, fits, fresh, logged, parked}

-- A call that fits leaves what is charged after it within what is free.
abbrev pub CallsThatFitArePaid : Type 0
CallsThatFitArePaid = (limits : Limits) (room : RoomCounts) (nameless : ℕ) (o : Outcome) → fits limits room nameless o ≡ true
    → (logged o.charge room).charged + limits.inode_charge * parked room nameless ≤ room.free

-- A whole point, with no call between its beginning and its end, begins anew.
abbrev pub PointsBeginAnew : Type 0
PointsBeginAnew = (room : RoomCounts) (free : ℕ) → done free (begun room) ≡ fresh free
