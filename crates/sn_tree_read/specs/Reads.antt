-- What a reader of trees answers.
use Rattle.std.specs.Prelude.{◌≡◌, ℕ, ◌+◌, ◌-◌, ◌/◌, ◌<◌, false, List, Option, length, min, slice_index}
use Rattle.sn_layout_node.specs.Inode.{size_of}
use Rattle.sn_layout_node.specs.declared.content.Content.{Content}
use Rattle.sn_layout_node.specs.declared.content.Content.TheVariants.{Inline, Tree}
use Rattle.sn_image.specs.Contents.{byte_of}
use Rattle.sn_ondisk.specs.Trees.{Store}
use Rattle.sn_tree_read.specs.Paths.{block_lies_on, block_met}

-- The bytes of a content from an offset on, n of them or as many as there are.
pub record IsPart (s : Store) (content : Content) (offset n : ℕ) (bytes : List ℕ) : Type 0 where
  pub count : length bytes ≡ min n (size_of content - offset)
  pub each : (k : ℕ) → k < length bytes → slice_index bytes k ≡ byte_of s content (offset + k)

-- One of the data blocks that hold these bytes, or an indirect block on the way to it, isn't on the device.
abbrev pub IsOutside : ℕ → Store → Content → ℕ → ℕ → Type 0
IsOutside sectors s (Inline bytes) offset n = ⊥
IsOutside sectors s (Tree tree) offset n = (k : ℕ) × (k < n) × (offset + k < tree.size) × (block_lies_on sectors s tree ((offset + k) / 4096) ≡ false)

-- The fault names the block that isn't on it.
abbrev pub IsOutsideAt : ℕ → Store → Content → ℕ → ℕ → Option ℕ → Type 0
IsOutsideAt sectors s (Inline bytes) offset n block = ⊥
IsOutsideAt sectors s (Tree tree) offset n block = (k : ℕ) × (k < n) × (offset + k < tree.size) × (block_lies_on sectors s tree ((offset + k) / 4096) ≡ false) × (block ≡ block_met sectors s tree ((offset + k) / 4096))
