-- An indirect block as its pointers.
use Rattle.std.specs.Prelude.{◌≡◌, ℕ, zero, suc, List, [], ◌∷◌, drop, length}
use Rattle.byteorder.specs.Endian.{little_number}
use Rattle.sn_layout.specs.Bytes.{AreNumbers, numbers_bytes}

-- the first n numbers of four bytes each
unfoldable pub numbers_of : ℕ → List ℕ → List ℕ
numbers_of zero bytes = []
numbers_of (suc n) bytes = little_number 4 bytes ∷ numbers_of n (drop 4 bytes)

unfoldable pub pointers_of : List ℕ → List ℕ
pointers_of bytes = numbers_of 1024 bytes

-- a block full of pointers
pub record ArePointers (pointers : List ℕ) : Type 0 where
  pub count : length pointers ≡ 1024
  pub fit : AreNumbers 4 pointers

-- one after the other
abbrev pub pointers_bytes : List ℕ → List ℕ
pointers_bytes pointers = numbers_bytes 4 pointers
