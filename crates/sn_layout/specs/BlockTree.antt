-- The root of a tree of blocks: its size and its 16 pointers, and how they are spelled.
use Rattle.std.specs.Prelude.{ℕ, ◌*◌, ◌^◌, ◌<◌, ◌||◌, ◌==◌, Bool, List, ◌++◌, nat_lt}
use Rattle.std.specs.List.{list_all, enumerate_from}
use Rattle.sn_layout.specs.declared.tree.BlockTree.{BlockTree}
use Rattle.sn_bytes.specs.Bytes.{number_bytes, numbers_bytes}
use Rattle.sn_layout.specs.Pointers.{ArePointers, span_of}

-- a size and pointers that fit their fields
pub record IsBlockTree (tree : BlockTree) : Type 0 where
  pub size : tree.size < 256 ^ 8
  pub pointers : ArePointers tree.pointers

abbrev pub tree_bytes : BlockTree → List ℕ
tree_bytes tree = number_bytes 8 tree.size ++ numbers_bytes 4 tree.pointers

-- each pointer wholly past the size is 0
abbrev pub ends_at_size : BlockTree → Bool
ends_at_size tree = list_all (λ p. (p.1 == 0) || nat_lt (p.0 * span_of tree.size) tree.size) (enumerate_from 0 tree.pointers)
