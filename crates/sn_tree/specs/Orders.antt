-- What a plan asks of dirty blocks and of the blocks that stay.
use Rattle.std.specs.Prelude.{ℕ, ◌+◌, ◌*◌, ◌<◌, List}
use Rattle.std.specs.List.{AllByRecursion}
use Rattle.sn_tree.specs.Dirty.{IsFrom}
use Rattle.sn_tree.specs.declared.new_block.DirtyBlock.{DirtyBlock}

-- Dirty blocks that a content of so many bytes can have: their indices rise, and each begins before the end.
pub record AreInOrder (size : ℕ) (dirty : List DirtyBlock) : Type 0 where
  pub rise : IsFrom 0 dirty
  pub begins : AllByRecursion (λ (d : DirtyBlock). 4096 * d.index < size) dirty

-- So many data blocks can stay in a content of so many bytes: none of them begins past its end.
abbrev pub KeepsWithin : ℕ → ℕ → Type 0
KeepsWithin size keep = 4096 * keep < size + 4096
