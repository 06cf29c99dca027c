-- The content of a file that is planned anew.
use Rattle.std.specs.Prelude.{◌≡◌, ◌≢◌, ℕ, ◌+◌, ◌-◌, ◌*◌, ◌^◌, ◌<◌, ◌≤◌, ◌==◌, if◌then◌else◌, List, [], ◌++◌, length, take, replicate}
use Rattle.std.specs.List.{AllByRecursion}
use Rattle.sn_layout.specs.Bytes.{zeros}
use Rattle.sn_layout.specs.Pointers.{levels_of}
use Rattle.sn_layout.specs.declared.tree.BlockTree.{BlockTree}
use Rattle.sn_layout_node.specs.Inode.{size_of}
use Rattle.sn_layout_node.specs.declared.content.Content.{Content}
use Rattle.sn_layout_node.specs.declared.content.Content.TheVariants.{Inline, Tree}
use Rattle.sn_ondisk.specs.Trees.{Store, data_block}
use Rattle.sn_ondisk.specs.TreeLaws.{SameIn}
use Rattle.sn_image.specs.Contents.{content_reach}
use Rattle.sn_image.specs.Sound.{ContentEnds}
use Rattle.sn_tree.specs.Dirty.{IsFrom, block_after}
use Rattle.sn_tree.specs.Drafts.{Draft, numbers_of, grown}
use Rattle.sn_ondisk.specs.Counts.{times}
use Rattle.sn_tree.specs.Plans.{Holds}
use Rattle.sn_tree.specs.Replanned.{EndsAt, IsReplanned}
use Rattle.sn_tree.specs.declared.new_block.NewBlock.{NewBlock}
use Rattle.sn_tree.specs.declared.new_block.DirtyBlock.{DirtyBlock}

-- data block i of a file whose bytes are in the inode: the first one has them, followed by zeros
abbrev pub inline_block : List ℕ → ℕ → List ℕ
inline_block bytes i = if i == 0 then bytes ++ zeros (4096 - length bytes) else zeros 4096

-- data block i of a content
abbrev pub content_block : Store → Content → ℕ → List ℕ
content_block s (Inline bytes) i = inline_block bytes i
content_block s (Tree tree) i = data_block s tree i

-- The content has these data blocks. Of the first one the inode holds as many bytes as there are.
abbrev pub HasDataBlocks : Store → Content → (ℕ → List ℕ) → Type 0
HasDataBlocks s (Inline bytes) wanted = bytes ≡ take (length bytes) (wanted 0)
HasDataBlocks s (Tree tree) wanted = (i : ℕ) → i < 16 * 1024 ^ levels_of tree.size → data_block s tree i ≡ wanted i

-- Up to 64 bytes are in the inode, and more in blocks.
abbrev pub HasItsForm : Content → Type 0
HasItsForm (Inline bytes) = length bytes ≤ 64
HasItsForm (Tree tree) = 64 < tree.size

-- The new content, in any store that has the new blocks and agrees with the old one in the blocks that the old content reaches: so writes elsewhere don't matter, and none of the old blocks is written.
pub record IsContentReplanned (s : Store) (old new : Content) (keep : ℕ) (dirty : List DirtyBlock) (added : List NewBlock) (released : List ℕ) : Type 0 where
  -- a data block is the dirty one if there is one, else that of the old content if it is among those that stay, else zeros
  pub blocks : (r : Store) → SameIn (content_reach s old) s r → Holds r added → HasDataBlocks r new (λ i. block_after keep dirty i (content_block s old i))
  -- what the new content reaches, with what is released, is what the old one reaches with what is added, each block as often
  pub reach : (r : Store) → SameIn (content_reach s old) s r → Holds r added → (block : ℕ) → block ≢ 0
      → times block (content_reach r new) + times block released ≡ times block (content_reach s old) + times block (numbers_of added)
  -- where what is wanted ends at the new size, so does the content
  pub ends : (r : Store) → SameIn (content_reach s old) s r → Holds r added → EndsAt (content_block s old) (size_of new) keep dirty → ContentEnds r new

-- A content was planned, which may take a path of new blocks for each dirty one and one more. Over a device that tells its bytes it is the one that is wanted.
pub record IsContentPlanned (Told : Type 0) (s : Store) (old new : Content) (keep : ℕ) (dirty : List DirtyBlock) (old_draft new_draft : Draft) : Type 0 where
  pub added : List NewBlock
  pub released : List ℕ
  pub grew : new_draft ≡ grown old_draft added released
  pub few : length added ≤ (levels_of (size_of new) + 1) * (length dirty + 1)
  pub form : HasItsForm new
  pub plans : Told → IsContentReplanned s old new keep dirty added released

-- All that a content reaches was released.
pub record IsReleased (Told : Type 0) (s : Store) (content : Content) (old_draft new_draft : Draft) : Type 0 where
  pub released : List ℕ
  pub grew : new_draft ≡ grown old_draft [] released
  pub all : Told → (block : ℕ) → block ≢ 0 → times block released ≡ times block (content_reach s content)

-- ---- on the way

-- Dirty blocks that are all that there is are those of a file whose bytes lay in the inode.
pub record IsMovedOut (bytes : List ℕ) (keep : ℕ) (old new : List DirtyBlock) : Type 0 where
  pub rise : IsFrom 0 new
  pub few : length new ≤ length old + 1
  pub blocks : (i : ℕ) → block_after 0 new i (zeros 4096) ≡ block_after keep old i (inline_block bytes i)
  pub begins : (size : ℕ) → 0 < size → AllByRecursion (λ (d : DirtyBlock). 4096 * d.index < size) old → AllByRecursion (λ (d : DirtyBlock). 4096 * d.index < size) new

-- a tree of holes
abbrev pub holes_of : ℕ → BlockTree
holes_of size = record { size = size; pointers = replicate 16 0 }

-- A tree was planned that has these dirty blocks, and holes beside them: a path of new blocks for each is the most that is taken.
pub record IsBuilt (Told : Type 0) (s : Store) (new : BlockTree) (dirty : List DirtyBlock) (old_draft new_draft : Draft) : Type 0 where
  pub added : List NewBlock
  pub released : List ℕ
  pub grew : new_draft ≡ grown old_draft added released
  pub few : length added ≤ (levels_of new.size + 1) * length dirty
  pub plans : Told → IsReplanned s (holes_of new.size) new 0 dirty added released
