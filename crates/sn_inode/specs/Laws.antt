-- What follows from reading inodes, and what changes of them keep.
use Rattle.std.specs.Prelude.{◌≡◌, ℕ, ◌+◌, ◌*◌, ◌<◌, ◌≤◌, List, Option, Some, IfSome, All, Contains}
use Rattle.sn_limits.specs.declared.limits.Limits.{Limits}
use Rattle.sn_layout.specs.Bytes.{zeros}
use Rattle.sn_layout.specs.declared.tree.BlockTree.{BlockTree}
use Rattle.sn_layout_node.specs.declared.inode.Inode.{Inode}
use Rattle.sn_ondisk.specs.TreeLaws.{SameIn}
use Rattle.sn_ondisk.specs.Trees.{Store, tree_reach}
use Rattle.sn_image.specs.Inodes.{record_at, inode_at}
use Rattle.sn_image.specs.Reach.{reach_at}
use Rattle.sn_image.specs.Sound.{HasAcls, HasRecords, HasInodes, IsInodeFile}
use Rattle.sn_tree.specs.Plans.{Holds}
use Rattle.sn_tree.specs.declared.new_block.NewBlock.{NewBlock}
use Rattle.sn_inode.specs.Changes.{IsChange, IsChanged, ChangesInodes}
use Rattle.sn_inode.specs.Reads.{CanReadRecord, CanReadAcls}
use Rattle.sn_inode.specs.declared.changes.InodeChange.{InodeChange}

-- Where the records of an inode file are sound, and each block that it reaches is on the device, each of them can be read: `get` doesn't answer `Damaged`.
abbrev pub SoundInodesAreRead : Type 0
SoundInodesAreRead = (limits : Limits) (sectors : ℕ) (s : Store) (inodes : BlockTree) → HasRecords limits s inodes
    → ((block : ℕ) → Contains (tree_reach s inodes) block → 8 * block + 8 ≤ sectors)
    → (number : ℕ) → CanReadRecord limits sectors s inodes number

-- And where its inodes are, and the blocks that one reaches are on the device, neither does `acls` of that one.
abbrev pub SoundAclsAreRead : Type 0
SoundAclsAreRead = (sectors : ℕ) (s : Store) (inodes : BlockTree) (number : ℕ) (inode : Inode) → HasInodes s inodes
    → ((block : ℕ) → Contains (reach_at s inodes number) block → 8 * block + 8 ≤ sectors)
    → inode_at s inodes number ≡ Some inode → CanReadAcls sectors s inode

-- Where the ACLs of the inode that was there can be its own, so can those of the inode that a change makes: no file gets a default ACL.
abbrev pub ChangedAclsAreFit : Type 0
ChangedAclsAreFit = (limits : Limits) (r : Store) (was new : Option Inode) (change : InodeChange) → IsChange limits change → IsChanged r was change.record new
    → IfSome was (HasAcls r) → IfSome new (HasAcls r)

-- Where the two records are zeros that no node can have, they stay so.
abbrev pub ReservedRecordsStay : Type 0
ReservedRecordsStay = (limits : Limits) (s r : Store) (old new : BlockTree) (changes : List InodeChange) (added : List NewBlock) (released : List ℕ)
    → IsInodeFile limits old → All (IsChange limits) changes → ChangesInodes limits s old new changes added released → SameIn (tree_reach s old) s r → Holds r added
    → ((number : ℕ) → number < 2 → record_at s old number ≡ zeros 128) → (number : ℕ) → number < 2 → record_at r new number ≡ zeros 128
