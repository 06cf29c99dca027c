-- When what is wanted of a content ends at its size, and what bytes a content has.
use Rattle.std.specs.Prelude.{◌≡◌, ◌≢◌, ℕ, ◌+◌, ◌*◌, ◌/◌, ◌%◌, ◌<◌, ◌≤◌, List, slice_index, All}
use Rattle.std.specs.List.{AllByRecursion}
use Rattle.sn_layout_node.specs.Inode.{size_of}
use Rattle.sn_layout_node.specs.declared.content.Content.{Content}
use Rattle.sn_ondisk.specs.Trees.{Store}
use Rattle.sn_image.specs.Contents.{byte_of}
use Rattle.sn_image.specs.Sound.{ContentEnds}
use Rattle.sn_tree.specs.Laws.{EndsBy}
use Rattle.sn_tree.specs.Orders.{KeepsWithin}
use Rattle.sn_tree.specs.Replanned.{EndsAt}
use Rattle.sn_tree.specs.declared.new_block.DirtyBlock.{DirtyBlock}
use Rattle.sn_content.specs.Contents.{content_block, HasDataBlocks, HasItsForm}

-- Where the dirty blocks end at a size, so does what is wanted of a content that doesn't shrink and ends at its own.
abbrev pub GrownContentsEnd : Type 0
GrownContentsEnd = (s : Store) (old : Content) (size keep : ℕ) (dirty : List DirtyBlock) → ContentEnds s old → size_of old ≤ size → KeepsWithin size keep
    → AllByRecursion (EndsBy size) dirty → EndsAt (content_block s old) size keep dirty

-- The same of a content of which whole blocks stay.
abbrev pub CutContentsEnd : Type 0
CutContentsEnd = (s : Store) (old : Content) (size keep : ℕ) (dirty : List DirtyBlock) → 4096 * keep ≤ size
    → AllByRecursion (EndsBy size) dirty → EndsAt (content_block s old) size keep dirty

-- And of any content, where the blocks that stay and aren't dirty have zeros past the size.
abbrev pub KeptContentsEnd : Type 0
KeptContentsEnd = (s : Store) (old : Content) (size keep : ℕ) (dirty : List DirtyBlock) → KeepsWithin size keep → AllByRecursion (EndsBy size) dirty
    → ((i k : ℕ) → i < keep → All (λ (d : DirtyBlock). d.index ≢ i) dirty → k < 4096 → size ≤ 4096 * i + k → slice_index (content_block s old i) k ≡ 0)
    → EndsAt (content_block s old) size keep dirty

-- A content has the bytes of its data blocks, up to the most that three levels hold.
abbrev pub ContentsHaveTheBytes : Type 0
ContentsHaveTheBytes = (s : Store) (content : Content) (wanted : ℕ → List ℕ) → HasItsForm content → size_of content ≤ 70368744177664 → HasDataBlocks s content wanted
    → (k : ℕ) → k < size_of content → byte_of s content k ≡ slice_index (wanted (k / 4096)) (k % 4096)
