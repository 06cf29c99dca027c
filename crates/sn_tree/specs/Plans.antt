-- What planning makes of pointers and of the data blocks below them.
use Rattle.std.specs.Prelude.{◌≡◌, ◌≢◌, ℕ, ◌+◌, ◌-◌, ◌*◌, ◌^◌, ◌<◌, ◌≤◌, ◌&&◌, ◌==◌, if◌then◌else◌, List, [], length, map, slice_index, nat_lt, All}
use Rattle.sn_ondisk.specs.Counts.{times}
use Rattle.sn_ondisk.specs.Trees.{Store, pointers_at, all_pointers}
use Rattle.sn_tree.specs.Drafts.{numbers_of}
use Rattle.sn_tree.specs.Dirty.{after, blocks_wanted}
use Rattle.sn_tree.specs.declared.new_block.NewBlock.{NewBlock}
use Rattle.sn_tree.specs.declared.new_block.DirtyBlock.{DirtyBlock}

-- These new blocks are in their places.
abbrev pub Holds : Store → List NewBlock → Type 0
Holds s added = All (λ (block : NewBlock). s block.number ≡ block.bytes.value) added

-- The blocks at these pointers are the same in both.
abbrev pub SameAmong : Store → Store → List ℕ → Type 0
SameAmong s r pointers = (block : ℕ) → block ≢ 0 → 0 < times block pointers → r block ≡ s block

-- the bytes of the data block at a pointer, where a hole is read as these
unfoldable pub named_or : List ℕ → Store → ℕ → List ℕ
named_or hole s pointer = if pointer == 0 then hole else s pointer

-- data blocks in order, by what a hole among them is read as
abbrev pub DataBlocks : Type 0
DataBlocks = List ℕ → List (List ℕ)

-- the data blocks so many levels below these pointers
abbrev pub contents : Store → ℕ → List ℕ → DataBlocks
contents s depth pointers = λ hole. map (named_or hole s) (pointers_at s depth pointers)

-- From data block `end` on there are holes alone, on every level below these pointers, which are so many levels above their data blocks, the first of them block `base`.
abbrev pub EndsBefore : Store → ℕ → ℕ → ℕ → List ℕ → Type 0
EndsBefore s depth base end pointers = (level i : ℕ) → level ≤ depth → end ≤ base + i * 1024 ^ (depth - level) → slice_index (pointers_at s level pointers) i ≡ 0

-- New pointers, where these were reached and the data blocks had those bytes, the first of them block `base`: in any store that has the new blocks and agrees with the old one in what was reached.
pub record PlansTo (s : Store) (was : List ℕ) (had : DataBlocks) (depth base keep : ℕ) (dirty : List DirtyBlock) (new : List ℕ) (added : List NewBlock) (released : List ℕ) : Type 0 where
  -- the data blocks below them are those that are wanted, and none of these is a hole that isn't to be one: they are the same whatever a hole is read as
  pub content : (hole : List ℕ) (r : Store) → SameAmong s r was → Holds r added → contents r depth new hole ≡ blocks_wanted hole keep dirty base (had hole)
  -- what they reach, with what is released, is what was reached with what is added, each block as often
  pub reach : (r : Store) → SameAmong s r was → Holds r added → (block : ℕ) → block ≢ 0
      → times block (all_pointers r depth new) + times block released ≡ times block was + times block (numbers_of added)
  -- from where nothing stays and nothing is dirty on, they are holes, and so are all below them
  pub ends : (r : Store) → SameAmong s r was → Holds r added → (end : ℕ) → keep ≤ end → after end dirty ≡ [] → EndsBefore r depth base end new

-- the same in place of pointers at the same height
abbrev pub Plans : Store → ℕ → ℕ → ℕ → List DirtyBlock → List ℕ → List ℕ → List NewBlock → List ℕ → Type 0
Plans s depth base keep dirty old new added released = PlansTo s (all_pointers s depth old) (contents s depth old) depth base keep dirty new added released

-- one where the end of what stays is within a range, and not at its ends
abbrev pub straddles : ℕ → ℕ → ℕ → ℕ
straddles base end keep = if nat_lt base keep && nat_lt keep end then 1 else 0

-- the most new blocks that a range takes: a path for each dirty block, and one for the end of what stays
abbrev pub most_added : ℕ → ℕ → ℕ → ℕ → List DirtyBlock → ℕ
most_added depth base end keep dirty = (depth + 1) * (length dirty - length (after end dirty)) + depth * straddles base end keep
