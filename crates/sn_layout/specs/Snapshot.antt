-- Snapshots as a root body has them: the rules of a list of them, and the spelling of one.
use Rattle.std.specs.Prelude.{ℕ, suc, ◌-◌, ◌<◌, ◌==◌, Bool, true, not, ◌&&◌, List, [], ◌∷◌, ◌++◌, length, IsTrue, nat_lt, nat_le, if◌then◌else◌}
use Rattle.std.specs.List.{flat_map, AllByRecursion, list_any, list_all}
use Rattle.std.specs.Str.{bytes_eq}
use Rattle.sn_limits.specs.declared.limits.Limits.{Limits}
use Rattle.sn_limits.specs.SnapshotName.{is_snapshot_name}
use Rattle.sn_bytes.specs.Bytes.{zeros}
use Rattle.sn_layout.specs.declared.snapshot.Snapshot.{Snapshot}
use Rattle.sn_layout.specs.BlockTree.{IsBlockTree, tree_bytes}

-- a bit, a name and a tree that fit their fields
pub record IsSnapshot (snapshot : Snapshot) : Type 0 where
  pub bit : snapshot.bit < 256
  pub name : IsTrue (is_snapshot_name snapshot.name)
  pub tree : IsBlockTree snapshot.tree

-- the length of a name, and then the name in room for 38 bytes
abbrev pub name_bytes : List ℕ → List ℕ
name_bytes name = (length name ∷ name) ++ zeros (38 - length name)

-- the tree begins at 40
abbrev pub snapshot_bytes : Snapshot → List ℕ
snapshot_bytes s = (s.bit ∷ name_bytes s.name) ++ tree_bytes s.tree

abbrev pub snapshots_bytes : List Snapshot → List ℕ
snapshots_bytes snapshots = flat_map snapshot_bytes snapshots

-- each bit is above the one before it
abbrev pub are_rising : ℕ → List Snapshot → Bool
are_rising before [] = true
are_rising before (s ∷ more) = nat_lt before s.bit && are_rising s.bit more

-- no bit is above the largest
abbrev pub are_within : ℕ → List Snapshot → Bool
are_within largest snapshots = list_all (λ s. nat_le s.bit largest) snapshots

-- no two have one name
abbrev pub are_distinct : List Snapshot → Bool
are_distinct [] = true
are_distinct (s ∷ more) = not (list_any (λ other. bytes_eq s.name other.name) more) && are_distinct more

-- how many at the front have bits that are not above a bit
abbrev pub index_of : ℕ → List Snapshot → ℕ
index_of bit [] = 0
index_of bit (s ∷ more) = if nat_le s.bit bit then suc (index_of bit more) else 0

-- one more, after those at the front whose bits are not above its own
abbrev pub with_snapshot : Snapshot → List Snapshot → List Snapshot
with_snapshot s [] = s ∷ []
with_snapshot s (first ∷ more) = if nat_le first.bit s.bit then first ∷ with_snapshot s more else s ∷ first ∷ more

-- no snapshot has the bit
abbrev pub has_no_bit : ℕ → List Snapshot → Bool
has_no_bit bit snapshots = list_all (λ s. not (s.bit == bit)) snapshots

-- a disk of this version can hold them: not too many, by rising bit from 1 up, with different names
abbrev pub are_held : Limits → List Snapshot → Bool
are_held limits snapshots = nat_le (length snapshots) limits.snapshots && are_rising 0 snapshots && are_within limits.largest_bit snapshots && are_distinct snapshots

-- the snapshots of a root body
pub record AreSnapshots (limits : Limits) (snapshots : List Snapshot) : Type 0 where
  pub each : AllByRecursion IsSnapshot snapshots
  pub held : IsTrue (are_held limits snapshots)
