-- What a read gives.
use Rattle.std.specs.Prelude.{◌≡◌, ℕ, ◌+◌, ◌*◌, ◌/◌, ◌%◌, List, Some, slice_range}
use Rattle.sn_filedev.specs.declared.block.LastBlock.{LastBlock}

-- The sector `at` is one of this block, and has these bytes there.
pub record Shows (block : LastBlock) (at : ℕ) (bytes : List ℕ) : Type 0 where
  pub number : block.number ≡ Some (at / 8)
  pub bytes_there : bytes ≡ slice_range block.bytes (512 * (at % 8)) (512 * (at % 8) + 512)
