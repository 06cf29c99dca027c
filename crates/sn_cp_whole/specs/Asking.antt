-- What is asked of a point, and what the snapshots of a root allow of it.
use Rattle.std.specs.FinMap as map
use Rattle.std.specs.Prelude.{◌≡◌, ℕ, ◌<◌, ◌≤◌, true, false, List, length, None, Contains, IsTrue}
use Rattle.sn_layout.specs.declared.root.RootBody.{RootBody}
use Rattle.sn_layout.specs.declared.snapshot.Snapshot.{Snapshot}
use Rattle.sn_layout.specs.declared.tree.BlockTree.{BlockTree}
use Rattle.sn_layout.specs.Snapshot.{has_no_bit}
use Rattle.sn_limits.specs.declared.limits.Limits.{Limits}
use Rattle.sn_model.specs.declared.outcome.AskedPoint.{AskedPoint}
use Rattle.sn_model.specs.declared.outcome.AskedPoint.TheVariants.{Unasked, Plain, Freezes, Thaws, Restores}
use Rattle.sn_snap.specs.Catalogue.{catalogue}
use Rattle.sn_cp_build.specs.declared.edits.SnapshotEdit.{SnapshotEdit}
use Rattle.sn_cp_build.specs.declared.edits.SnapshotEdit.TheVariants as edit
use Rattle.sn_cp_held.specs.Snapshots.{BeginsFrom, edit_for}

-- There can be one more with this name and bit: no other has either, its version has the bit, and room for it.
pub record TakesOneMore (limits : Limits) (name : List ℕ) (bit : ℕ) (snapshots : List Snapshot) : Type 0 where
  pub from_one : 1 ≤ bit
  pub bit_free : IsTrue (has_no_bit bit snapshots)
  pub name_free : map.get (catalogue snapshots) name ≡ None
  pub room : length snapshots < limits.snapshots
  pub within : bit ≤ limits.largest_bit

-- One of them has this name, and this bit.
pub record HasSnapshot (name : List ℕ) (bit : ℕ) (snapshots : List Snapshot) : Type 0 where
  pub snapshot : Snapshot
  pub among : Contains snapshots snapshot
  pub name_is : snapshot.name ≡ name
  pub bit_is : snapshot.bit ≡ bit

-- what is asked for can be made of them with this bit
abbrev pub CanBeMadeWith : AskedPoint → ℕ → Limits → List Snapshot → Type 0
CanBeMadeWith Unasked bit limits snapshots = Unit {0}
CanBeMadeWith Plain bit limits snapshots = Unit {0}
CanBeMadeWith (Freezes name) bit limits snapshots = TakesOneMore limits name bit snapshots
CanBeMadeWith (Thaws name) bit limits snapshots = HasSnapshot name bit snapshots
CanBeMadeWith (Restores name) bit limits snapshots = HasSnapshot name bit snapshots

-- what is asked for can be made of them
abbrev pub CanBeMade : AskedPoint → Limits → List Snapshot → Type 0
CanBeMade Unasked limits snapshots = Unit {0}
CanBeMade Plain limits snapshots = Unit {0}
CanBeMade (Freezes name) limits snapshots = (map.contains_key (catalogue snapshots) name ≡ false) × (length snapshots < limits.snapshots)
CanBeMade (Thaws name) limits snapshots = map.contains_key (catalogue snapshots) name ≡ true
CanBeMade (Restores name) limits snapshots = map.contains_key (catalogue snapshots) name ≡ true

-- the bit of an edit, 0 where it has none
abbrev pub bit_in : SnapshotEdit → ℕ
bit_in edit.None = 0
bit_in (edit.Freeze bit) = bit
bit_in (edit.Thaw bit) = bit
bit_in (edit.Restore bit) = bit

-- The edit is that of what is asked for, with a bit that it can be made with of the snapshots of this root, and the inode file is the one that its build begins from.
pub record IsStartFor (asked : AskedPoint) (root : RootBody) (made : SnapshotEdit) (file : BlockTree) : Type 0 where
  pub is : made ≡ edit_for asked (bit_in made)
  pub fits : CanBeMadeWith asked (bit_in made) root.limits root.snapshots
  pub begins : BeginsFrom asked (bit_in made) root file
