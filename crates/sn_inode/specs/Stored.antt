-- The records of changes, and the blocks in which they are stored.
use Rattle.std.specs.Prelude.{◌≡◌, ℕ, ◌+◌, ◌*◌, ◌/◌, ◌%◌, ◌≤◌, ◌==◌, if◌then◌else◌, List, [], ◌∷◌, length, take, drop, Option, Some, None, map, sum_by, false, ◌<◌, Contains}
use Rattle.std.specs.List.{AllZip}
use Rattle.sn_layout.specs.declared.tree.BlockTree.{BlockTree}
use Rattle.sn_layout_node.specs.Inode.{record_bytes}
use Rattle.sn_layout_node.specs.declared.inode.Inode.{Inode}
use Rattle.sn_layout_node.specs.declared.inode.InodeRecord.{InodeRecord}
use Rattle.sn_layout_node.specs.declared.inode.InodeRecord.TheVariants.{Unused, Used}
use Rattle.sn_ondisk.specs.Trees.{Store}
use Rattle.sn_image.specs.Inodes.{inode_at}
use Rattle.sn_image.specs.Reach.{block_reach}
use Rattle.sn_tree.specs.Dirty.{block_after}
use Rattle.sn_tree.specs.Drafts.{Draft, numbers_of, grown}
use Rattle.sn_ondisk.specs.Counts.{times}
use Rattle.sn_tree.specs.Plans.{Holds}
use Rattle.sn_tree.specs.declared.new_block.NewBlock.{NewBlock}
use Rattle.sn_tree.specs.declared.new_block.DirtyBlock.{DirtyBlock}
use Rattle.sn_tree_read.specs.Paths.{block_lies_on, block_met}
use Rattle.sn_inode.specs.Changes.{numbers_in, acl_pointer, IsChanged, acl_times}
use Rattle.sn_inode.specs.declared.changes.InodeChange.{InodeChange}
use Rattle.sn_inode.specs.declared.changes.StoredRecord.{StoredRecord}

-- ---- records

abbrev pub inode_in : InodeRecord → Option Inode
inode_in Unused = None
inode_in (Used inode) = Some inode

-- An ACL block was put in place of the one at a pointer, or one pointer stayed, and something is so of any store that has the new blocks.
pub record IsPlaced (Is : Store → Type 0) (old_pointer new_pointer : ℕ) (old new : Draft) : Type 0 where
  pub added : List NewBlock
  pub released : List ℕ
  pub grew : new ≡ grown old added released
  pub few : length added ≤ 1
  pub is : (s : Store) → Holds s added → Is s
  pub count : (block : ℕ) → times block (block_reach new_pointer) + times block released ≡ times block (block_reach old_pointer) + times block (numbers_of added)

-- how often records name a block as their ACL block
abbrev pub stored_times : ℕ → List StoredRecord → ℕ
stored_times block stored = sum_by (λ (x : StoredRecord). times block (block_reach (acl_pointer (inode_in x.record)))) stored

-- The record is that of a change, in a store that has its ACLs.
pub record IsStored (r s : Store) (inodes : BlockTree) (change : InodeChange) (stored : StoredRecord) : Type 0 where
  pub number : stored.number ≡ change.number
  pub changed : IsChanged r (inode_at s inodes change.number) change.record (inode_in stored.record)

-- Each change has its record, and their ACL blocks were placed.
pub record AreSettled (Told : Type 0) (s : Store) (inodes : BlockTree) (changes : List InodeChange) (stored : List StoredRecord) (old new : Draft) : Type 0 where
  pub added : List NewBlock
  pub released : List ℕ
  pub grew : new ≡ grown old added released
  pub few : length added ≤ length changes
  pub numbers : map (λ (x : StoredRecord). x.number) stored ≡ numbers_in changes
  pub each : Told → (r : Store) → Holds r added → AllZip (IsStored r s inodes) changes stored
  pub count : Told → (block : ℕ) → stored_times block stored + times block released ≡ acl_times s inodes block changes + times block (numbers_of added)

-- ---- blocks

-- the bytes of a record of a block
abbrev pub record_in : ℕ → List ℕ → List ℕ
record_in index block = take 128 (drop (128 * index) block)

-- the bytes of a number's record after records were stored: the last of the number, if one has it
unfoldable pub bytes_after : List StoredRecord → ℕ → List ℕ → List ℕ
bytes_after [] number old = old
bytes_after (x ∷ xs) number old = bytes_after xs number (if x.number == number then record_bytes x.record else old)

-- Dirty blocks have these records stored in them, and the old ones beside.
abbrev pub ArePatched : (ℕ → List ℕ) → ℕ → List StoredRecord → List DirtyBlock → Type 0
ArePatched old keep stored dirty = (number : ℕ)
    → record_in (number % 32) (block_after keep dirty (number / 32) (old (number / 32))) ≡ bytes_after stored number (record_in (number % 32) (block_after keep [] (number / 32) (old (number / 32))))

-- The block of a number's record, which the file has, or one on the way to it isn't on the device, and the fault names that one.
abbrev pub IsOffAt : ℕ → Store → BlockTree → List ℕ → Option ℕ → Type 0
IsOffAt sectors s inodes numbers block = (number : ℕ) × Contains numbers number × (number / 32 < inodes.size / 4096) × (block_lies_on sectors s inodes (number / 32) ≡ false) × (block ≡ block_met sectors s inodes (number / 32))
