-- Where blocks are kept: in order by their file, and then by their index in it.
use Rattle.std.specs.Prelude.{ℕ}
use Rattle.std.specs.declared.cmp.Ordering.{Ordering}
use Rattle.std.specs.Ordering.{nat_cmp, ordering_then}
use Rattle.sn_overlay.specs.declared.file_block.FileBlock.{FileBlock}

abbrev pub file_block_cmp : FileBlock → FileBlock → Ordering
file_block_cmp a b = ordering_then (nat_cmp a.file b.file) (nat_cmp a.index b.index)

abbrev pub file_block_at : ℕ → ℕ → FileBlock
file_block_at file index = record { file = file; index = index }
