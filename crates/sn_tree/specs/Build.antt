-- What a clause sees of a build.
use Rattle.std.specs.Prelude.{◌≡◌, ◌<◌}
use Rattle.sn_tree.specs.declared.build.Build.TheInside.{Inside}
use Rattle.sn_tree.specs.Drafts.{Draft, numbers_of}

abbrev pub draft_of : Inside → Draft
draft_of b = record {
  words = b.allocator.words;
  first = b.allocator.first;
  added = b.added.items;
  released = b.released.items;
}

-- The blocks added are those taken, and none of them can be block 0.
pub record IsWhole (b : Inside) : Type 0 where
  pub taken : numbers_of b.added.items ≡ b.allocator.taken
  pub first : 0 < b.allocator.first
