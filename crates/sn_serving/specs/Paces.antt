-- How many steps of a consistency point are due after a call that was logged.
use Rattle.std.specs.Prelude.{◌≡◌, ℕ, zero, suc, ◌-◌, ◌*◌, ◌/◌, ◌==◌, Bool, ◌||◌, nat_lt, max, if◌then◌else◌}
use Rattle.std.specs.Int.{div_ceil}
use Rattle.sn_serving.specs.declared.pace.Room.{Room}

-- the records of 28,672 bytes that still fit in the half of the log
abbrev pub records_left : Room → ℕ
records_left room = room.log_left / 59

-- half of the log's half is taken, or what was charged is more than half of what is left
abbrev pub wants_point : Room → Bool
wants_point room = nat_lt room.log_left 128 || nat_lt room.left (2 * (room.free - room.left))

-- The point in progress ends before the half is full. Where none is, one begins as soon as it is wanted.
abbrev pub steps_due : Room → ℕ
steps_due room = if room.steps_left == 0 then (if wants_point room then 1 else 0) else div_ceil room.steps_left (max (records_left room) 1)

-- the steps that are left of a point once so many such records were logged, where each time those were made that were due
abbrev pub left_after : ℕ → ℕ → ℕ
left_after zero steps = steps
left_after (suc records) steps = left_after records (steps - div_ceil steps (suc records))

-- A point ends before the records that fit are logged, however many steps it has.
abbrev pub PointsEndInTime : Type 0
PointsEndInTime = (records steps : ℕ) → left_after (suc records) steps ≡ 0
