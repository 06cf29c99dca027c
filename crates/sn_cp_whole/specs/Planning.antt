-- What a point is built from, and what is planned for it.
use Rattle.std.specs.Prelude.{◌≡◌, ℕ, ◌+◌, ◌^◌, ◌≤◌, length, All}
use Rattle.sn_device.specs.declared.status.Status.{Status}
use Rattle.sn_layout.specs.Bytes.{AreNumbers}
use Rattle.sn_layout.specs.RootBody.{IsRootBody}
use Rattle.sn_layout.specs.declared.root.RootBody.{RootBody}
use Rattle.sn_layout.specs.declared.tree.BlockTree.{BlockTree}
use Rattle.sn_limits.specs.Versions.{limits_written}
use Rattle.sn_log.specs.Positions.{LogPosition}
use Rattle.sn_model.specs.declared.outcome.AskedPoint.{AskedPoint}
use Rattle.sn_ondisk.specs.Trees.{Store}
use Rattle.sn_overlay.specs.Layers.{Layer}
use Rattle.sn_root.specs.Following.{epochs_of, following}
use Rattle.sn_root.specs.declared.following.PointKind.{PointKind}
use Rattle.sn_held.specs.Held.{Kept}
use Rattle.sn_cp_build.specs.Building.{Builds, IsWellBuilt}
use Rattle.sn_cp_build.specs.Edits.{base_bit}
use Rattle.sn_cp_build.specs.declared.building.Built.{Built}
use Rattle.sn_cp_held.specs.Builds.{CanBeBuiltOver, LeavesAge}
use Rattle.sn_cp_held.specs.Snapshots.{BeginsFrom, FollowsBy, edit_for}
use Rattle.sn_block.specs.Counts.{FailsRead}
use Rattle.sn_block.specs.declared.fault.ReadFault.{ReadFault}
use Rattle.sn_block.specs.declared.fault.ReadFault.TheVariants as read
use Rattle.sn_tree.specs.declared.fault.PlanFault.{PlanFault}
use Rattle.sn_tree.specs.declared.fault.PlanFault.TheVariants as plan
use Rattle.sn_tree.specs.declared.new_block.NewBlock.{NewBlock}
use Rattle.sn_tree_read.specs.declared.fault.TreeFault.TheVariants as tree
use Rattle.sn_cp_whole.specs.declared.base.PointBase.{PointBase}
use Rattle.sn_cp_whole.specs.declared.fault.PointFault.{PointFault}
use Rattle.sn_cp_whole.specs.declared.fault.PointFault.TheVariants.{Memory, Age, Read, Damaged, Device}

-- what is kept for a point, as `sn_cp_held` speaks of it: the root that counts, and what changed since
abbrev pub kept_in : PointBase → Layer → Kept
kept_in base changed = record { slot = base.slot; root = base.root; words = base.map; changed = changed }

-- The base is one of a disk whose log continues at this position, between two points: its root can be written, its map has a word for each block, and the log continues under the root's own epoch.
pub record IsBaseAt (at : LogPosition) (base : PointBase) : Type 0 where
  pub body : IsRootBody base.root
  pub words : length base.map ≡ at.blocks
  pub epoch : at.epoch ≡ base.root.epoch

-- On this root another can follow by a point of this kind, which leaves an age where it needs one.
abbrev pub HasAgeFor : PointKind → RootBody → Type 0
HasAgeFor kind root = (root.generation + 1 ≤ 2 ^ 62) × (root.epoch + epochs_of kind ≤ 2 ^ 62) × LeavesAge kind (following kind limits_written root)

-- The root that follows by a point of this kind, under the written limits, with the inode file that was built and the snapshots that are asked for: it can be written, and leaves such an age.
pub record IsNextRoot (kind : PointKind) (root : RootBody) (asked : AskedPoint) (bit : ℕ) (built : Built) (next : RootBody) : Type 0 where
  pub is : next ≡ record (following kind limits_written root) { inode_file = built.inode_file; snapshots = next.snapshots }
  pub snapshots : FollowsBy asked bit root next
  pub body : IsRootBody next
  pub age : LeavesAge kind next

-- What is planned for a point of this kind over what is kept, on a disk of n blocks: what was built from what changed over the inode file
-- that it begins from, and the root that follows with it, with the bit of the snapshot that is made, deleted, or brought back. What the new
-- inode file denotes is said where the device tells its bytes.
pub record IsPlanned (Told : Type 0) (n : ℕ) (s : Store) (kind : PointKind) (k : Kept) (asked : AskedPoint) (built : Built) (next : RootBody) : Type 0 where
  pub bit : ℕ
  pub file : BlockTree
  pub begins : BeginsFrom asked bit k.root file
  pub follows : IsNextRoot kind k.root asked bit built next
  pub well : IsWellBuilt n k.root.limits k.words k.changed (edit_for asked bit) built
  pub builds : Told → Builds n k.root.limits s file (base_bit (edit_for asked bit)) k.words k.changed built

-- what changed can be built over whichever inode file a point that is asked for in this way begins from
abbrev pub CanBeBuiltFor : ℕ → Store → Kept → AskedPoint → Type 0
CanBeBuiltFor n s k asked = (bit : ℕ) (file : BlockTree) → BeginsFrom asked bit k.root file → CanBeBuiltOver n s k file (base_bit (edit_for asked bit))

-- a block of 4,096 bytes
abbrev pub IsWholeBlock : NewBlock → Type 0
IsWholeBlock block = length block.bytes.value ≡ 4096

-- What was built has words of four bytes and whole blocks.
pub record IsSpellable (built : Built) : Type 0 where
  pub numbers : AreNumbers 4 built.map
  pub whole : All IsWholeBlock built.blocks.items

-- what a read that fails makes of a point, and what a build that does
abbrev pub read_fault_of : ReadFault → PointFault
read_fault_of read.Memory = Memory
read_fault_of read.Device = Read

abbrev pub point_fault_of : PlanFault → PointFault
point_fault_of plan.Memory = Memory
point_fault_of plan.Full = Damaged
point_fault_of (plan.Tree (tree.Damaged block)) = Damaged
point_fault_of (plan.Tree (tree.Read fault)) = read_fault_of fault

-- why none is planned: nothing was called but a read that failed
abbrev pub HasCauseToStop : PointFault → Status → Status → Type 0
HasCauseToStop Memory old new = new ≡ old
HasCauseToStop Age old new = new ≡ old
HasCauseToStop Read old new = FailsRead old new
HasCauseToStop Damaged old new = new ≡ old
HasCauseToStop Device old new = ⊥
