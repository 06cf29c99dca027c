-- The sixteen pointers of a root of blocks, and the levels of indirect blocks below them.
use Rattle.std.specs.Prelude.{◌≡◌, ℕ, ◌*◌, ◌^◌, List, [], ◌∷◌, length, nat_lt, count_by}
use Rattle.sn_bytes.specs.Bytes.{AreNumbers}

-- sixteen pointers that fit their fields
pub record ArePointers (pointers : List ℕ) : Type 0 where
  pub count : length pointers ≡ 16
  pub fit : AreNumbers 4 pointers

-- how many bytes sixteen pointers reach over so many levels of indirect blocks
abbrev pub reach_of : ℕ → ℕ
reach_of levels = 65536 * 1024 ^ levels

-- The levels of indirect blocks that a size takes: one for each number of levels that doesn't reach it. No version has
-- more than three.
abbrev pub levels_of : ℕ → ℕ
levels_of size = count_by (λ levels. nat_lt (reach_of levels) size) (0 ∷ 1 ∷ 2 ∷ [])

-- how many bytes are below one of the sixteen pointers
abbrev pub span_of : ℕ → ℕ
span_of size = 4096 * 1024 ^ levels_of size
