-- Whether the blocks on the way to a pointer are on the device. Where one isn't, the pointer leads to no bytes.
use Rattle.std.specs.Prelude.{ℕ, zero, suc, ◌+◌, ◌*◌, ◌/◌, Bool, true, ◌&&◌, ◌||◌, ◌==◌, List, Option, Some, None, nat_le, if◌then◌else◌}
use Rattle.sn_layout.specs.Pointers.{levels_of}
use Rattle.sn_layout.specs.declared.tree.BlockTree.{BlockTree}
use Rattle.sn_ondisk.specs.Trees.{Store, entry}

-- the pointer is a hole, or names a block of a device of so many sectors
abbrev pub lies_on : ℕ → ℕ → Bool
lies_on sectors pointer = (pointer == 0) || nat_le (8 * pointer + 8) sectors

-- so does each pointer above the one with number i, so many levels below these
unfoldable pub path_lies_on : ℕ → Store → ℕ → List ℕ → ℕ → Bool
path_lies_on sectors s zero pointers i = true
path_lies_on sectors s (suc depth) pointers i = path_lies_on sectors s depth pointers (i / 1024) && lies_on sectors (entry s depth pointers (i / 1024))

-- so does each on the way to data block i of a tree, and that block too
abbrev pub block_lies_on : ℕ → Store → BlockTree → ℕ → Bool
block_lies_on sectors s tree i = path_lies_on sectors s (levels_of tree.size) tree.pointers i && lies_on sectors (entry s (levels_of tree.size) tree.pointers i)

-- the block that a pointer names; a hole names none
abbrev pub block_named : ℕ → Option ℕ
block_named pointer = if pointer == 0 then None else Some pointer

-- the last pointer on the way to the one with number i: the first above it whose block isn't on the device, or else that one
unfoldable pub pointer_met : ℕ → Store → ℕ → List ℕ → ℕ → ℕ
pointer_met sectors s zero pointers i = entry s zero pointers i
pointer_met sectors s (suc depth) pointers i = if path_lies_on sectors s (suc depth) pointers i then entry s (suc depth) pointers i else pointer_met sectors s depth pointers (i / 1024)

-- the block that it names, on the way to data block i of a tree: where this can't be read, the fault names that block
abbrev pub block_met : ℕ → Store → BlockTree → ℕ → Option ℕ
block_met sectors s tree i = block_named (pointer_met sectors s (levels_of tree.size) tree.pointers i)
