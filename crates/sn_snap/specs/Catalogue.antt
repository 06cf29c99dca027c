-- The snapshots of a root as a finite map from their names.
use Rattle.std.specs.Prelude.{ℕ, ◌≤◌, not, List, filter, map as map_list, IsTrue}
use Rattle.std.specs.Cmp.Lexicographic.{slice_cmp}
use Rattle.std.specs.FinMap as map
use Rattle.std.specs.Ordering.{nat_cmp}
use Rattle.std.specs.Str.{bytes_eq}
use Rattle.sn_layout.specs.declared.snapshot.Snapshot.{Snapshot}
use Rattle.sn_layout.specs.declared.tree.BlockTree.{BlockTree}
use Rattle.sn_layout.specs.Snapshot.{are_distinct, are_rising, has_no_bit}

-- what a name denotes: the bit of its snapshot in each word of the map, and the root of its inode file
pub record Entry : Type 0 where
  pub bit : ℕ
  pub tree : BlockTree

abbrev pub entry_of : Snapshot → Entry
entry_of s = record { bit = s.bit; tree = s.tree }

-- What a snapshot says, by its name. Of a name that occurs twice it is what the first says.
abbrev pub by_name : {X : Type 0} → (Snapshot → X) → List Snapshot → map.FinMap (slice_cmp nat_cmp) X
by_name f snapshots = map.from_entries (map_list (λ s. (s.name, f s)) snapshots)

abbrev pub catalogue : List Snapshot → map.FinMap (slice_cmp nat_cmp) Entry
catalogue snapshots = by_name entry_of snapshots

-- by rising bit from 1 up, and no two of one name
pub record IsCatalogue (snapshots : List Snapshot) : Type 0 where
  pub rising : IsTrue (are_rising 0 snapshots)
  pub distinct : IsTrue (are_distinct snapshots)

-- those of another name
abbrev pub others_than : List ℕ → List Snapshot → List Snapshot
others_than name snapshots = filter (λ s. not (bytes_eq name s.name)) snapshots

-- the least bit from 1 up that no snapshot has
pub record IsLeastFree (snapshots : List Snapshot) (bit : ℕ) : Type 0 where
  pub from_one : 1 ≤ bit
  pub free : IsTrue (has_no_bit bit snapshots)
  pub least : (other : ℕ) → 1 ≤ other → IsTrue (has_no_bit other snapshots) → bit ≤ other
