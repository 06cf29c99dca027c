-- What a point that is asked for makes of the snapshots of a root, and of the trees that these and its live root denote.
use Rattle.std.specs.Prelude.{◌≡◌, ℕ, List, Option, None, Some, Contains}
use Rattle.std.specs.FinMap as map
use Rattle.sn_layout.specs.declared.root.RootBody.{RootBody}
use Rattle.sn_layout.specs.declared.snapshot.Snapshot.{Snapshot}
use Rattle.sn_layout.specs.declared.tree.BlockTree.{BlockTree}
use Rattle.sn_layout.specs.Snapshot.{with_snapshot}
use Rattle.sn_model.specs.declared.outcome.AskedPoint.{AskedPoint}
use Rattle.sn_model.specs.declared.outcome.AskedPoint.TheVariants.{Unasked, Plain, Freezes, Thaws, Restores}
use Rattle.sn_model.specs.Settling.{settled}
use Rattle.sn_model.specs.Tree.{Tree}
use Rattle.sn_model.specs.World.{Trees}
use Rattle.sn_opening.specs.Worlds.{FrozenTrees}
use Rattle.sn_snap.specs.Catalogue.{others_than}
use Rattle.sn_snap.specs.Laws.{IsNew}
use Rattle.sn_cp_build.specs.declared.edits.SnapshotEdit.{SnapshotEdit}
use Rattle.sn_cp_build.specs.declared.edits.SnapshotEdit.TheVariants as edit

-- what its build makes of the bits of snapshots, where this one is the snapshot's
abbrev pub edit_for : AskedPoint → ℕ → SnapshotEdit
edit_for Unasked bit = edit.None
edit_for Plain bit = edit.None
edit_for (Freezes name) bit = edit.Freeze bit
edit_for (Thaws name) bit = edit.Thaw bit
edit_for (Restores name) bit = edit.Restore bit

-- the inode file that its build begins from: the live one, or that of the snapshot that is brought back, whose bit this is
abbrev pub BeginsFrom : AskedPoint → ℕ → RootBody → BlockTree → Type 0
BeginsFrom Unasked bit root file = file ≡ root.inode_file
BeginsFrom Plain bit root file = file ≡ root.inode_file
BeginsFrom (Freezes name) bit root file = file ≡ root.inode_file
BeginsFrom (Thaws name) bit root file = file ≡ root.inode_file
BeginsFrom (Restores name) bit root file = Contains root.snapshots (record { bit = bit; name = name; tree = file })

-- the snapshot that is made: its tree is the inode file that follows
abbrev pub new_snapshot : List ℕ → ℕ → RootBody → Snapshot
new_snapshot name bit next = record { bit = bit; name = name; tree = next.inode_file }

-- one more, whose name and bit no other has
pub record HasOneMore (name : List ℕ) (bit : ℕ) (root next : RootBody) : Type 0 where
  pub new : IsNew (new_snapshot name bit next) root.snapshots
  pub snapshots : next.snapshots ≡ with_snapshot (new_snapshot name bit next) root.snapshots

-- without the one that has the name, whose bit this is
pub record HasOneLess (name : List ℕ) (bit : ℕ) (root next : RootBody) : Type 0 where
  pub snapshot : Snapshot
  pub among : Contains root.snapshots snapshot
  pub name_is : snapshot.name ≡ name
  pub bit_is : snapshot.bit ≡ bit
  pub snapshots : next.snapshots ≡ others_than name root.snapshots

-- the snapshots of the root that follows
abbrev pub FollowsBy : AskedPoint → ℕ → RootBody → RootBody → Type 0
FollowsBy Unasked bit root next = next.snapshots ≡ root.snapshots
FollowsBy Plain bit root next = next.snapshots ≡ root.snapshots
FollowsBy (Freezes name) bit root next = HasOneMore name bit root next
FollowsBy (Thaws name) bit root next = HasOneLess name bit root next
FollowsBy (Restores name) bit root next = next.snapshots ≡ root.snapshots

-- the frozen trees after it, where the live tree is this
abbrev pub frozen_behind : AskedPoint → Tree → FrozenTrees → FrozenTrees
frozen_behind Unasked live frozen = frozen
frozen_behind Plain live frozen = frozen
frozen_behind (Freezes name) live frozen = map.insert frozen name live
frozen_behind (Thaws name) live frozen = map.remove frozen name
frozen_behind (Restores name) live frozen = frozen

-- a snapshot's tree, without its files without names, takes the live one's place
abbrev pub brought_back : Option Tree → Tree → Tree
brought_back None live = live
brought_back (Some tree) live = settled tree

-- the live tree after it
abbrev pub live_behind : AskedPoint → Trees → Tree
live_behind Unasked trees = trees.live
live_behind Plain trees = trees.live
live_behind (Freezes name) trees = trees.live
live_behind (Thaws name) trees = trees.live
live_behind (Restores name) trees = brought_back (map.get trees.frozen name) trees.live

-- the trees of a root for which this live tree was built
abbrev pub trees_built : AskedPoint → Tree → FrozenTrees → Trees
trees_built asked live frozen = record { live = live; frozen = frozen_behind asked live frozen }

abbrev pub trees_behind : AskedPoint → Trees → Trees
trees_behind asked trees = record { live = live_behind asked trees; frozen = frozen_behind asked trees.live trees.frozen }

-- what is asked for leaves the live tree as it is
abbrev pub KeepsLive : AskedPoint → Type 0
KeepsLive Unasked = Unit {0}
KeepsLive Plain = Unit {0}
KeepsLive (Freezes name) = Unit {0}
KeepsLive (Thaws name) = Unit {0}
KeepsLive (Restores name) = ⊥
