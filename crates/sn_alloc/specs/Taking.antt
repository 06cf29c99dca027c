-- Blocks taken from a map, one after another.
use Rattle.std.specs.Prelude.{◌≡◌, ℕ, ◌+◌, ◌-◌, ◌<◌, ◌≤◌, List, [], ◌∷◌, ◌++◌, length, drop, count_by, slice_index, All, Contains}
use Rattle.std.specs.List.Sorted.{IsStrictlyIncreasing}
use Rattle.sn_map.specs.Free.{is_free_word}

-- what an allocator has done so far
pub record Taking : Type 0 where
  -- the words of the map, which taking leaves as they are
  pub words : List ℕ
  -- the first block of the data area
  pub first : ℕ
  -- the blocks taken, in order
  pub taken : List ℕ
  -- where the next search begins
  pub next : ℕ
  -- how many words the searches looked at
  pub looked : ℕ
  -- how many more blocks there is room to remember
  pub room : ℕ

-- before the first block is taken, with no room yet
abbrev pub nothing_taken : List ℕ → ℕ → Taking
nothing_taken words first = record {
  words = words;
  first = first;
  taken = [];
  next = first;
  looked = 0;
  room = 0;
}

-- after a block is taken: the search looked at the words from where it began to that block's, both counted
abbrev pub after_take : Taking → ℕ → Taking
after_take t block = record t {
  taken = t.taken ++ block ∷ [];
  next = block + 1;
  looked = t.looked + (block - t.next + 1);
  room = t.room - 1;
}

-- after a search that found no block: it looked at the words to the end
abbrev pub after_full : Taking → Taking
after_full t = record t {
  next = length t.words;
  looked = t.looked + (length t.words - t.next);
}

-- a block of the data area that no root reaches
pub record IsFreeData (words : List ℕ) (first block : ℕ) : Type 0 where
  pub in_data_area : first ≤ block
  pub within : block < length words
  pub free : slice_index words block ≡ 0

-- a block that can still be taken: it is free, and wasn't taken before
pub record IsLeft (t : Taking) (block : ℕ) : Type 0 where
  pub is_free : IsFreeData t.words t.first block
  pub fresh : ¬ Contains t.taken block

-- each block that was free is taken
abbrev pub NoneLeft : Taking → Type 0
NoneLeft t = (block : ℕ) → IsFreeData t.words t.first block → Contains t.taken block

-- how many blocks of the data area are free
abbrev pub free_data : List ℕ → ℕ → ℕ
free_data words first = count_by is_free_word (drop first words)

-- What holds for each allocator: what it took are the free blocks of the data area below the word
-- at which its next search begins, in order, and the searches looked at each word below that one once.
pub record IsTaking (t : Taking) : Type 0 where
  pub began : t.first ≤ t.next
  pub within : t.next ≤ length t.words
  pub each : All (λ block. IsFreeData t.words t.first block × (block < t.next)) t.taken
  pub every : (block : ℕ) → IsFreeData t.words t.first block → block < t.next → Contains t.taken block
  pub ascending : IsStrictlyIncreasing t.taken
  pub counted : length t.taken + count_by is_free_word (drop t.next t.words) ≡ free_data t.words t.first
  pub looked_once : t.first + t.looked ≡ t.next
