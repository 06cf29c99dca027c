-- The index of a directory.
use Rattle.std.specs.Prelude.{◌≢◌, ◌⊎◌, ℕ, ◌/◌, Bool, ◌&&◌, nat_le, nat_lt, List, Contains, Option, None, slice_index_or}
use Rattle.sn_layout.specs.Pointers.{levels_of}
use Rattle.sn_layout.specs.declared.tree.BlockTree.{BlockTree}
use Rattle.sn_ondisk.specs.Trees.{Store}
use Rattle.sn_names.specs.Ordered.{numbers_of}
use Rattle.sn_names.specs.Told.{IsTold}
use Rattle.sn_names.specs.declared.index.NameIndex.{NameIndex}

-- the directory that an index is of: its size and sixteen pointers
abbrev pub tree_of : NameIndex → BlockTree
tree_of index = index.tree

-- a directory can have an index: it has three blocks or more, at most 16,384, and at most one level of indirect ones
abbrev pub is_indexable : BlockTree → Bool
is_indexable tree = nat_lt 2 (tree.size / 4096) && nat_le (tree.size / 4096) 16384 && nat_le (levels_of tree.size) 1

-- the room of block i; `None` where its names aren't known
abbrev pub room_at : NameIndex → ℕ → Option ℕ
room_at index i = slice_index_or index.rooms.items i None

-- the entries of all names of known blocks
abbrev pub entries_of : NameIndex → List ℕ
entries_of index = numbers_of index.entries

-- what an index says is true of these blocks, on a device of so many sectors
abbrev pub Tells : ℕ → Store → NameIndex → Type 0
Tells sectors s index = IsTold sectors s index.tree index.numbers.items index.rooms.items (entries_of index)

-- an index rests on a block if one of its pointers leads there
abbrev pub RestsOn : NameIndex → ℕ → Type 0
RestsOn index block = (block ≢ 0) × (Contains index.tree.pointers block ⊎ Contains index.numbers.items block)
