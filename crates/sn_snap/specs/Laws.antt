-- What follows from the definitions of a catalogue.
use Rattle.std.specs.Prelude.{◌≡◌, ◌≢◌, ℕ, ◌<◌, ◌≤◌, List, length, None, Some, IsTrue}
use Rattle.std.specs.FinMap as map
use Rattle.sn_limits.specs.declared.limits.Limits.{Limits}
use Rattle.sn_limits.specs.Versions.{limits_of}
use Rattle.sn_layout.specs.declared.root.RootBody.{RootBody}
use Rattle.sn_layout.specs.declared.snapshot.Snapshot.{Snapshot}
use Rattle.sn_layout.specs.RootBody.{IsRootBody}
use Rattle.sn_layout.specs.Snapshot.{IsSnapshot, has_no_bit, with_snapshot}
use Rattle.sn_snap.specs.Catalogue.{IsCatalogue, catalogue, others_than}

-- the snapshots of a root body are a catalogue
abbrev pub RootBodiesHoldCatalogues : Type 0
RootBodiesHoldCatalogues = (body : RootBody) → IsRootBody body → IsCatalogue body.snapshots

-- The snapshot can be put with the others: its bit and its name are its own.
pub record IsNew (s : Snapshot) (snapshots : List Snapshot) : Type 0 where
  pub from_one : 1 ≤ s.bit
  pub bit : IsTrue (has_no_bit s.bit snapshots)
  pub name : map.get (catalogue snapshots) s.name ≡ None

-- A root body is one with a new snapshot too, where its version allows one more and has its bit.
abbrev pub RootBodiesTakeOneMore : Type 0
RootBodiesTakeOneMore = (body : RootBody) (s : Snapshot) → IsRootBody body → IsSnapshot s → IsNew s body.snapshots
    → length body.snapshots < body.limits.snapshots → s.bit ≤ body.limits.largest_bit
    → IsRootBody (record body { snapshots = with_snapshot s body.snapshots })

-- A root body is one without any of its snapshots.
abbrev pub RootBodiesLetOneGo : Type 0
RootBodiesLetOneGo = (body : RootBody) (name : List ℕ) → IsRootBody body
    → IsRootBody (record body { snapshots = others_than name body.snapshots })

-- each version has a bit for each snapshot that it allows
abbrev pub VersionsHaveTheBits : Type 0
VersionsHaveTheBits = (version : ℕ) (limits : Limits) → limits_of version ≡ Some limits → limits.snapshots ≤ limits.largest_bit

-- a root body has room for each of them
abbrev pub VersionsHaveTheRoom : Type 0
VersionsHaveTheRoom = (version : ℕ) (limits : Limits) → limits_of version ≡ Some limits → limits.snapshots ≤ 31

-- What another name denotes stays, its bit with it: with one more snapshot, and without one.
abbrev pub OtherNamesStay : Type 0
OtherNamesStay = (s : Snapshot) (snapshots : List Snapshot) (other : List ℕ) → other ≢ s.name → map.get (catalogue snapshots) s.name ≡ None
    → map.get (catalogue (with_snapshot s snapshots)) other ≡ map.get (catalogue snapshots) other

abbrev pub OtherNamesOutlive : Type 0
OtherNamesOutlive = (name : List ℕ) (snapshots : List Snapshot) (other : List ℕ) → other ≢ name
    → map.get (catalogue (others_than name snapshots)) other ≡ map.get (catalogue snapshots) other

-- A new snapshot takes its own bit, and no other.
abbrev pub OneBitIsTaken : Type 0
OneBitIsTaken = (s : Snapshot) (snapshots : List Snapshot) (bit : ℕ) → bit ≢ s.bit
    → has_no_bit bit (with_snapshot s snapshots) ≡ has_no_bit bit snapshots

-- A snapshot that is put there and taken away leaves what was there.
abbrev pub PutAndTakenIsNothing : Type 0
PutAndTakenIsNothing = (s : Snapshot) (snapshots : List Snapshot) → map.get (catalogue snapshots) s.name ≡ None
    → others_than s.name (with_snapshot s snapshots) ≡ snapshots
