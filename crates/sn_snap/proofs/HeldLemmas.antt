-- A root body stays one with one more snapshot, and without one.
use Rattle.std.proofs.Common.{◌≡◌, ◌∙◌, ℕ, ◌<◌, ◌≤◌, Bool, true, not, ◌&&◌, List, length, arith}
use Rattle.std.specs.Prelude.{nat_le}
use Rattle.std.specs.Str.{bytes_eq}
use Rattle.std.specs.Cmp.Derive.{both_true}
use Rattle.std.proofs.lemmas.Bool.{and_parts, le-leb, leb-true}
use Rattle.sn_limits.specs.declared.limits.Limits.{Limits}
use Rattle.sn_layout.specs.declared.root.RootBody.{RootBody}
use Rattle.sn_layout.specs.declared.snapshot.Snapshot.{Snapshot}
use Rattle.sn_layout.specs.RootBody.{IsRootBody}
use Rattle.sn_layout.specs.Snapshot.{AreSnapshots, IsSnapshot, are_distinct, are_rising, are_within, with_snapshot}
use Rattle.sn_layout.proofs.Inserting.{rising_with}
use Rattle.sn_snap.specs.Catalogue.{IsCatalogue, entry_of, others_than}
use Rattle.sn_snap.specs.Laws.{IsNew}
use Rattle.sn_snap.proofs.NameLemmas.{absent}
use Rattle.sn_snap.proofs.ChangeLemmas.{distinct_filter, distinct_with, each_filter, each_with, length-filter, length-with, list_all-filter, list_all-with, rising_filter}

-- the four tests of snapshots that a disk can hold
record Tests (limits : Limits) (snapshots : List Snapshot) : Type 0 where
  few : length snapshots ≤ limits.snapshots
  rising : are_rising 0 snapshots ≡ true
  within : are_within limits.largest_bit snapshots ≡ true
  distinct : are_distinct snapshots ≡ true

tests_of : (limits : Limits) (snapshots : List Snapshot) → AreSnapshots limits snapshots → Tests limits snapshots
tests_of limits snapshots are =
    let few = nat_le (length snapshots) limits.snapshots in
    let rising = are_rising 0 snapshots in
    let within = are_within limits.largest_bit snapshots in
    let third = and_parts (few && rising && within) (are_distinct snapshots) are.held in
    let second = and_parts (few && rising) within third.0 in
    let first = and_parts few rising second.0 in
    record { few = leb-true (length snapshots) limits.snapshots first.0; rising = first.1; within = second.1; distinct = third.1 }

held_by : (limits : Limits) (snapshots : List Snapshot) → Tests limits snapshots
    → (nat_le (length snapshots) limits.snapshots && are_rising 0 snapshots && are_within limits.largest_bit snapshots && are_distinct snapshots) ≡ true
held_by limits snapshots are =
    let few = nat_le (length snapshots) limits.snapshots in
    let rising = are_rising 0 snapshots in
    let within = are_within limits.largest_bit snapshots in
    both_true {s = few && rising && within} {t = are_distinct snapshots}
    (both_true {s = few && rising} {t = within} (both_true {s = few} {t = rising} (le-leb (length snapshots) limits.snapshots are.few) are.rising) are.within)
    are.distinct

pub catalogue_with : (s : Snapshot) (snapshots : List Snapshot) → IsCatalogue snapshots → IsNew s snapshots → IsCatalogue (with_snapshot s snapshots)
catalogue_with s snapshots is new = record {
  rising = rising_with 0 s snapshots is.rising (omega (arith, new.from_one)) new.bit;
  distinct = distinct_with s snapshots is.distinct (absent entry_of snapshots s.name new.name);
}

pub catalogue_others : (name : List ℕ) (snapshots : List Snapshot) → IsCatalogue snapshots → IsCatalogue (others_than name snapshots)
catalogue_others name snapshots is = record {
  rising = rising_filter (λ s. not (bytes_eq name s.name)) 0 snapshots is.rising;
  distinct = distinct_filter (λ s. not (bytes_eq name s.name)) snapshots is.distinct;
}

pub held_with : (limits : Limits) (s : Snapshot) (snapshots : List Snapshot) → AreSnapshots limits snapshots → IsSnapshot s → IsNew s snapshots
    → length snapshots < limits.snapshots → s.bit ≤ limits.largest_bit → AreSnapshots limits (with_snapshot s snapshots)
held_with limits s snapshots are one new room bit =
    let tests = tests_of limits snapshots are in
    let is = catalogue_with s snapshots (record { rising = tests.rising; distinct = tests.distinct }) new in
    record {
      each = each_with IsSnapshot s snapshots one are.each;
      held = held_by limits (with_snapshot s snapshots) (record {
        few = omega (arith, length-with s snapshots);
        rising = is.rising;
        within = list_all-with (λ x. nat_le x.bit limits.largest_bit) s snapshots ∙ both_true {s = nat_le s.bit limits.largest_bit} {t = are_within limits.largest_bit snapshots} (le-leb s.bit limits.largest_bit bit) tests.within;
        distinct = is.distinct;
      });
    }

pub held_others : (limits : Limits) (name : List ℕ) (snapshots : List Snapshot) → AreSnapshots limits snapshots → AreSnapshots limits (others_than name snapshots)
held_others limits name snapshots are =
    let tests = tests_of limits snapshots are in
    let is = catalogue_others name snapshots (record { rising = tests.rising; distinct = tests.distinct }) in
    let kept : Snapshot → Bool = λ s. not (bytes_eq name s.name) in
    record {
      each = each_filter kept IsSnapshot snapshots are.each;
      held = held_by limits (others_than name snapshots) (record {
        few = omega (arith, length-filter kept snapshots, tests.few);
        rising = is.rising;
        within = list_all-filter kept (λ x. nat_le x.bit limits.largest_bit) snapshots tests.within;
        distinct = is.distinct;
      });
    }

pub body_with : (body : RootBody) (s : Snapshot) → IsRootBody body → IsSnapshot s → IsNew s body.snapshots
    → length body.snapshots < body.limits.snapshots → s.bit ≤ body.limits.largest_bit → IsRootBody (record body { snapshots = with_snapshot s body.snapshots })
body_with body s is one new room bit = record {
  version = is.version;
  generation = is.generation;
  epoch = is.epoch;
  inode_file = is.inode_file;
  snapshots = held_with body.limits s body.snapshots is.snapshots one new room bit;
}

pub body_without : (body : RootBody) (name : List ℕ) → IsRootBody body → IsRootBody (record body { snapshots = others_than name body.snapshots })
body_without body name is = record {
  version = is.version;
  generation = is.generation;
  epoch = is.epoch;
  inode_file = is.inode_file;
  snapshots = held_others body.limits name body.snapshots is.snapshots;
}
