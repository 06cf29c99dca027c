-- What a clause sees of room.
use Rattle.sn_held.specs.declared.room.Room.TheInside.{Inside}
use Rattle.sn_held.specs.Rooms.{RoomCounts}

abbrev pub room_of : Inside → RoomCounts
room_of r = record {
  free = r.free;
  charged = r.charged;
  charged_since = r.charged_since;
  dropped = r.dropped;
  dropped_since = r.dropped_since;
}

-- the fields that it sees so
abbrev pub fields_of : RoomCounts → Inside
fields_of room = record {
  free = room.free;
  charged = room.charged;
  charged_since = room.charged_since;
  dropped = room.dropped;
  dropped_since = room.dropped_since;
}
