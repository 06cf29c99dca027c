-- What a listing holds.
use Rattle.std.specs.Prelude.{ℕ, List}

-- the bytes of its entries, of which there may be as many as there is room for
pub record Filled : Type 0 where
  pub room : ℕ
  pub bytes : List ℕ
