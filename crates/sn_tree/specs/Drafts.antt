-- The result of a build.
use Rattle.std.specs.Prelude.{◌≢◌, ℕ, List, ◌++◌, map, Contains}
use Rattle.sn_alloc.specs.Taking.{IsFreeData}
use Rattle.sn_tree.specs.declared.new_block.NewBlock.{NewBlock}

pub record Draft : Type 0 where
  -- the words of the block map that blocks are taken from
  pub words : List ℕ
  -- the first block of the data area
  pub first : ℕ
  -- the new blocks, in the order in which they were taken
  pub added : List NewBlock
  -- the blocks of the old trees that the new ones no longer reach
  pub released : List ℕ

-- the numbers of new blocks
abbrev pub numbers_of : List NewBlock → List ℕ
numbers_of added = map (λ (block : NewBlock). block.number) added

-- with these blocks added and those released
abbrev pub grown : Draft → List NewBlock → List ℕ → Draft
grown draft added released = record draft { added = draft.added ++ added; released = draft.released ++ released }

-- a block that can be added: it is free, no block 0, and wasn't added before
pub record IsFresh (draft : Draft) (block : ℕ) : Type 0 where
  pub is_free : IsFreeData draft.words draft.first block
  pub some : block ≢ 0
  pub once : ¬ Contains (numbers_of draft.added) block
