-- One bit of a word, and of each word of the map.
use Rattle.std.specs.Prelude.{◌≡◌, ◌≢◌, ℕ, ◌+◌, ◌-◌, ◌*◌, ◌^◌, List, length, slice_index}
use Rattle.std.specs.Int.{bit_at}

-- the number whose bit k is the given one, 0 or 1, and whose other bits are those of n
abbrev pub with_bit : ℕ → ℕ → ℕ → ℕ
with_bit n k bit = n - bit_at n k * 2 ^ k + bit * 2 ^ k

-- the word whose bit `to` is its bit `from`
abbrev pub with_bit_copied : ℕ → ℕ → ℕ → ℕ
with_bit_copied from to word = with_bit word to (bit_at word from)

-- the word without bit k
abbrev pub with_bit_cleared : ℕ → ℕ → ℕ
with_bit_cleared k word = with_bit word k 0

-- In each word bit `to` is what bit `from` was, and each other bit is what it was.
pub record CopiesBit (from to : ℕ) (old new : List ℕ) : Type 0 where
  pub as_many : length new ≡ length old
  pub copied : (block : ℕ) → bit_at (slice_index new block) to ≡ bit_at (slice_index old block) from
  pub others : (block k : ℕ) → k ≢ to → bit_at (slice_index new block) k ≡ bit_at (slice_index old block) k

-- In each word bit k is 0, and each other bit is what it was.
pub record ClearsBit (k : ℕ) (old new : List ℕ) : Type 0 where
  pub as_many : length new ≡ length old
  pub cleared : (block : ℕ) → bit_at (slice_index new block) k ≡ 0
  pub others : (block other : ℕ) → other ≢ k → bit_at (slice_index new block) other ≡ bit_at (slice_index old block) other

-- Bit k of one word is the given one. Its other bits and the other words are what they were.
pub record PutsBit (block k bit : ℕ) (old new : List ℕ) : Type 0 where
  pub as_many : length new ≡ length old
  pub put : bit_at (slice_index new block) k ≡ bit
  pub others : (other : ℕ) → other ≢ k → bit_at (slice_index new block) other ≡ bit_at (slice_index old block) other
  pub elsewhere : (other : ℕ) → other ≢ block → slice_index new other ≡ slice_index old other
