-- Runs of pointers that stay.
use Rattle.std.specs.Prelude.{ℕ, List, [], ◌∷◌, min}
use Rattle.sn_tree.specs.declared.new_block.DirtyBlock.{DirtyBlock}

-- the first data block that doesn't stay: the first dirty one, or the one after those that are to stay
abbrev pub kept_until : ℕ → List DirtyBlock → ℕ
kept_until keep [] = keep
kept_until keep (d ∷ ds) = min keep d.index
