-- The bytes of block trees and the blocks that they name, as functions of the blocks alone. Any bytes can be read so. What a sound tree asks of its pointers is said elsewhere.
use Rattle.std.specs.Prelude.{ℕ, zero, suc, ◌/◌, ◌%◌, not, ◌==◌, if◌then◌else◌, List, ◌++◌, take, replicate, slice_index}
use Rattle.std.specs.List.{flat_map, filter}
use Rattle.sn_device.specs.Sectors.{Contents}
use Rattle.sn_layout.specs.Bytes.{zeros}
use Rattle.sn_layout.specs.Pointers.{levels_of}
use Rattle.sn_layout.specs.declared.tree.BlockTree.{BlockTree}
use Rattle.sn_ondisk.specs.Blocks.{block_at, numbers_in}

-- the bytes of each block, by its number
abbrev pub Store : Type 0
Store = ℕ → List ℕ

-- the blocks of a disk
abbrev pub store_of : Contents → Store
store_of c = λ block. block_at c block

-- the bytes that a pointer to a data block denotes: a hole, which is a pointer 0, reads as zeros
unfoldable pub named_by : Store → ℕ → List ℕ
named_by s pointer = if pointer == 0 then zeros 4096 else s pointer

-- the 1,024 pointers that a pointer to an indirect block denotes: a hole denotes holes
unfoldable pub below : Store → ℕ → List ℕ
below s pointer = if pointer == 0 then replicate 1024 0 else numbers_in 1024 (s pointer)

-- the pointers so many levels below these, in order
unfoldable pub pointers_at : Store → ℕ → List ℕ → List ℕ
pointers_at s zero pointers = pointers
pointers_at s (suc depth) pointers = flat_map (below s) (pointers_at s depth pointers)

-- these pointers and those of so many levels below them
unfoldable pub all_pointers : Store → ℕ → List ℕ → List ℕ
all_pointers s zero pointers = pointers
all_pointers s (suc depth) pointers = all_pointers s depth pointers ++ pointers_at s (suc depth) pointers

-- the pointer with number i of those so many levels below these, looked up on its path alone
unfoldable pub entry : Store → ℕ → List ℕ → ℕ → ℕ
entry s zero pointers i = slice_index pointers i
entry s (suc depth) pointers i = slice_index (below s (entry s depth pointers (i / 1024))) (i % 1024)

-- the blocks that a tree names, indirect ones and data blocks, with repeats and without holes
unfoldable pub tree_reach : Store → BlockTree → List ℕ
tree_reach s tree = filter (λ pointer. not (pointer == 0)) (all_pointers s (levels_of tree.size) tree.pointers)

-- the bytes of data block i of a tree
unfoldable pub data_block : Store → BlockTree → ℕ → List ℕ
data_block s tree i = named_by s (entry s (levels_of tree.size) tree.pointers i)

-- the bytes of a tree: those of its data blocks one after the other, up to its size
unfoldable pub tree_bytes : Store → BlockTree → List ℕ
tree_bytes s tree = take tree.size (flat_map (named_by s) (pointers_at s (levels_of tree.size) tree.pointers))
