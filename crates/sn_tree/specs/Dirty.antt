-- Dirty blocks, whose indices rise.
use Rattle.std.specs.Prelude.{ℕ, ◌+◌, ◌≤◌, ◌==◌, if◌then◌else◌, List, [], ◌∷◌, nat_lt}
use Rattle.sn_layout.specs.Bytes.{zeros}
use Rattle.sn_tree.specs.declared.new_block.DirtyBlock.{DirtyBlock}

-- the indices rise, from this one on
abbrev pub IsFrom : ℕ → List DirtyBlock → Type 0
IsFrom least [] = Unit {0}
IsFrom least (d ∷ ds) = (least ≤ d.index) × IsFrom (d.index + 1) ds

-- the dirty blocks from an index on, of those that rise
unfoldable pub after : ℕ → List DirtyBlock → List DirtyBlock
after end [] = []
after end (d ∷ ds) = if nat_lt d.index end then after end ds else d ∷ ds

-- What data block i is to be, where a hole is read as these bytes: the dirty block with its index if there is one, else what it was if it is among those that stay, else a hole.
unfoldable pub block_wanted : List ℕ → ℕ → List DirtyBlock → ℕ → List ℕ → List ℕ
block_wanted hole keep [] i old = if nat_lt i keep then old else hole
block_wanted hole keep (d ∷ ds) i old = if d.index == i then d.bytes.value else block_wanted hole keep ds i old

-- what data blocks from i on are to be
unfoldable pub blocks_wanted : List ℕ → ℕ → List DirtyBlock → ℕ → List (List ℕ) → List (List ℕ)
blocks_wanted hole keep dirty i [] = []
blocks_wanted hole keep dirty i (old ∷ rest) = block_wanted hole keep dirty i old ∷ blocks_wanted hole keep dirty (i + 1) rest

-- What data block i is to be: a hole reads as zeros.
abbrev pub block_after : ℕ → List DirtyBlock → ℕ → List ℕ → List ℕ
block_after keep dirty i old = block_wanted (zeros 4096) keep dirty i old
