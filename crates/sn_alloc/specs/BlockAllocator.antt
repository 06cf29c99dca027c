-- What a clause sees of an allocator.
use Rattle.std.specs.Prelude.{◌-◌, vec_len, vec_capacity}
use Rattle.sn_alloc.specs.declared.block_allocator.BlockAllocator.TheInside.{Inside}
use Rattle.sn_alloc.specs.Taking.{Taking}

-- its fields, with the room that the list of taken blocks has left
abbrev pub taking_of : Inside → Taking
taking_of a = record {
  words = a.map;
  first = a.first;
  taken = a.taken.items;
  next = a.next;
  looked = a.looked;
  room = vec_capacity a.taken - vec_len a.taken;
}
