-- What a change makes of the inode of a number.
use Rattle.std.specs.Prelude.{◌≡◌, ◌≢◌, ℕ, ◌+◌, ◌*◌, ◌/◌, ◌<◌, ◌≤◌, Bool, true, false, if◌then◌else◌, List, [], length, Option, Some, None, map, sum_by, All, Contains, ◌⊎◌}
use Rattle.std.specs.List.{AllByRecursion}
use Rattle.std.specs.List.Sorted.{IsStrictlyIncreasing}
use Rattle.sn_limits.specs.declared.kind.Kind.{Kind}
use Rattle.sn_limits.specs.declared.kind.Kind.TheVariants.{File, Directory}
use Rattle.sn_limits.specs.declared.limits.Limits.{Limits}
use Rattle.sn_layout.specs.Bytes.{zeros}
use Rattle.sn_layout.specs.declared.tree.BlockTree.{BlockTree}
use Rattle.sn_layout_acl.specs.declared.acl_block.AclBlock.{AclBlock}
use Rattle.sn_layout_node.specs.Inode.{IsInode}
use Rattle.sn_layout_node.specs.declared.inode.Inode.{Inode}
use Rattle.sn_ondisk.specs.TreeLaws.{SameIn}
use Rattle.sn_ondisk.specs.Trees.{Store, tree_reach}
use Rattle.sn_image.specs.Acls.{acls_at}
use Rattle.sn_image.specs.Inodes.{record_at, inode_at}
use Rattle.sn_image.specs.Reach.{block_reach}
use Rattle.sn_image.specs.Sound.{SpellsRecord, SpellsAcls, EndsAtSize}
use Rattle.sn_tree.specs.Drafts.{Draft, numbers_of, grown}
use Rattle.sn_ondisk.specs.Counts.{times}
use Rattle.sn_tree.specs.Plans.{Holds}
use Rattle.sn_tree.specs.Steps.{LeadsOutsideAt}
use Rattle.sn_tree.specs.declared.new_block.NewBlock.{NewBlock}
use Rattle.sn_tree_read.specs.Paths.{block_met}
use Rattle.sn_inode.specs.Reads.{CanReadRecord}
use Rattle.sn_inode.specs.declared.changes.AclChange.{AclChange}
use Rattle.sn_inode.specs.declared.changes.AclChange.TheVariants.{Kept, Set}
use Rattle.sn_inode.specs.declared.changes.RecordChange.{RecordChange}
use Rattle.sn_inode.specs.declared.changes.RecordChange.TheVariants.{Unused, Used}
use Rattle.sn_inode.specs.declared.changes.InodeChange.{InodeChange}

-- ---- what is asked for

abbrev pub numbers_in : List InodeChange → List ℕ
numbers_in changes = map (λ (change : InodeChange). change.number) changes

-- a file has no default ACL
abbrev pub CanSet : Kind → AclChange → Type 0
CanSet kind Kept = Unit {0}
CanSet kind (Set acls) = kind ≡ File → acls.default ≡ None

abbrev pub IsNew : Limits → RecordChange → Type 0
IsNew limits Unused = Unit {0}
IsNew limits (Used inode acls) = IsInode limits inode × CanSet inode.kind acls

-- a change that a disk of this version allows: of a number that a node can have, to an inode that a record can hold, with ACLs that it can have
pub record IsChange (limits : Limits) (change : InodeChange) : Type 0 where
  pub least : 2 ≤ change.number
  pub most : change.number ≤ limits.largest_number
  pub new : IsNew limits change.record

-- Changes that can be made together: each can, and their numbers rise.
pub record AreChanges (limits : Limits) (changes : List InodeChange) : Type 0 where
  pub each : All (IsChange limits) changes
  pub rise : IsStrictlyIncreasing (numbers_in changes)

-- ---- what comes of it

-- the pointer to the ACL block of an inode, 0 where there is none
abbrev pub acl_pointer : Option Inode → ℕ
acl_pointer None = 0
acl_pointer (Some inode) = inode.acl_block

-- whether the kinds are one
abbrev pub is_same_kind : Kind → Kind → Bool
is_same_kind File File = true
is_same_kind File Directory = false
is_same_kind Directory File = false
is_same_kind Directory Directory = true

-- the pointer to the ACLs that stay: those of an inode of this kind, and none of one of the other kind, which may have a default ACL
abbrev pub kept_pointer : Option Inode → Kind → ℕ
kept_pointer None kind = 0
kept_pointer (Some inode) kind = if is_same_kind inode.kind kind then inode.acl_block else 0

-- The pointer names a block that spells these ACLs, or there are none and it is 0.
abbrev pub AclsStandAt : Store → AclBlock → ℕ → Type 0
AclsStandAt s acls pointer = (acls_at s pointer ≡ acls) × (pointer ≢ 0 → SpellsAcls (s pointer))

-- The new pointer leads to the ACLs that are set; kept ones stay at that of the inode that was there.
abbrev pub HasAclsOf : Store → Option Inode → Kind → AclChange → ℕ → Type 0
HasAclsOf s was kind Kept new = new ≡ kept_pointer was kind
HasAclsOf s was kind (Set acls) new = AclsStandAt s acls new

-- The inode is that of the change, but for its pointer, which is that of its ACLs.
abbrev pub IsChanged : Store → Option Inode → RecordChange → Option Inode → Type 0
IsChanged s was Unused new = new ≡ None
IsChanged s was (Used inode acls) new = (pointer : ℕ) × (new ≡ Some (record inode { acl_block = pointer })) × HasAclsOf s was inode.kind acls pointer

-- how often these numbers' inodes name a block as their ACL block
abbrev pub acl_times : Store → BlockTree → ℕ → List InodeChange → ℕ
acl_times s inodes block changes = sum_by (λ (change : InodeChange). times block (block_reach (acl_pointer (inode_at s inodes change.number)))) changes

-- The new inode file, in any store that has the new blocks and agrees with the old one in the blocks that the old file reaches: so writes elsewhere don't matter, and none of the old blocks is written.
pub record ChangesInodes (limits : Limits) (s : Store) (old new : BlockTree) (changes : List InodeChange) (added : List NewBlock) (released : List ℕ) : Type 0 where
  -- each number of a change has the inode of that
  pub changed : (r : Store) → SameIn (tree_reach s old) s r → Holds r added
      → AllByRecursion (λ (change : InodeChange). IsChanged r (inode_at s old change.number) change.record (inode_at r new change.number)) changes
  -- any other number has the inode that it had
  pub others : (r : Store) → SameIn (tree_reach s old) s r → Holds r added
      → (number : ℕ) → ¬ Contains (numbers_in changes) number → inode_at r new number ≡ inode_at s old number
  -- its record stays byte for byte, and is zeros where the old file had none: those that no node can have, too
  pub stays : (r : Store) → SameIn (tree_reach s old) s r → Holds r added
      → (number : ℕ) → ¬ Contains (numbers_in changes) number → number < old.size / 128 → record_at r new number ≡ record_at s old number
  pub unused : (r : Store) → SameIn (tree_reach s old) s r → Holds r added
      → (number : ℕ) → ¬ Contains (numbers_in changes) number → old.size / 128 ≤ number → number < new.size / 128 → record_at r new number ≡ zeros 128
  -- where the old records are spelled, so are all of the new file
  pub spelled : (r : Store) → SameIn (tree_reach s old) s r → Holds r added
      → ((number : ℕ) → number < old.size / 128 → SpellsRecord limits (record_at s old number)) → (number : ℕ) → number < new.size / 128 → SpellsRecord limits (record_at r new number)
  -- the file, and the ACLs of the numbers of changes, with what is released, reach what they did with what is added, each block as often
  pub reach : (r : Store) → SameIn (tree_reach s old) s r → Holds r added → (block : ℕ) → block ≢ 0
      → times block (tree_reach r new) + acl_times r new block changes + times block released ≡ times block (tree_reach s old) + acl_times s old block changes + times block (numbers_of added)
  -- where there is a change, the new tree ends at its size
  pub ends : changes ≢ [] → (r : Store) → SameIn (tree_reach s old) s r → Holds r added → EndsAtSize r new

-- A new inode file was planned, which may take three blocks for each change and two more, and none for none. Over a device that tells its bytes it is the one that is wanted.
pub record IsWith (Told : Type 0) (limits : Limits) (s : Store) (old new : BlockTree) (changes : List InodeChange) (old_draft new_draft : Draft) : Type 0 where
  pub added : List NewBlock
  pub released : List ℕ
  pub grew : new_draft ≡ grown old_draft added released
  pub few : length added ≤ 3 * length changes + 2
  pub none : changes ≡ [] → (new ≡ old) × (new_draft ≡ old_draft)
  pub changes_inodes : Told → ChangesInodes limits s old new changes added released

-- The old file can't be read where it has to be, and the fault names that block: that of the record of a change, or one that the file reaches.
abbrev pub IsUnreadableAt : Limits → ℕ → Store → BlockTree → List InodeChange → Option ℕ → Type 0
IsUnreadableAt limits sectors s inodes changes block =
    ((number : ℕ) × Contains (numbers_in changes) number × (CanReadRecord limits sectors s inodes number → ⊥) × (block ≡ block_met sectors s inodes (number / 32)))
    ⊎ LeadsOutsideAt sectors (tree_reach s inodes) block
