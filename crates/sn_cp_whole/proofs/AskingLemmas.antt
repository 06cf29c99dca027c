-- What the snapshots of a root body allow, and what a world whose frozen trees are theirs does.
use Rattle.std.proofs.Common.{◌≡◌, ℕ, zero, suc, ◌+◌, ◌<◌, ◌≤◌, ◌&&◌, true, false, cond, not, List, [], ◌∷◌, length, Option, Some, None, Contains, refl, sym, ap, subst, ◌∙◌, arith, true≢false, Bor}
use Rattle.std.specs.Option.{option_copied, option_map}
use Rattle.std.specs.Prelude.{IsNone, is_some, nat_le, nat_lt, ◌↔◌}
use Rattle.std.specs.FinMap as fin
use Rattle.std.proofs.lemmas.Bool.{and_parts, leb-true, ltb-true, not-true}
use Rattle.sn_image.specs.Image.{image}
use Rattle.sn_image.proofs.AllowedLemmas.{snapshots_stay}
use Rattle.sn_layout.specs.declared.root.RootBody.{RootBody}
use Rattle.sn_layout.specs.declared.snapshot.Snapshot.{Snapshot}
use Rattle.sn_layout.specs.RootBody.{IsRootBody}
use Rattle.sn_layout.specs.Snapshot.{AreSnapshots, are_distinct, are_rising, are_within}
use Rattle.sn_limits.specs.declared.limits.Limits.{Limits}
use Rattle.sn_limits.specs.Versions.{Allows, limits_written}
use Rattle.sn_limits.proofs.VersionLemmas.{fixed, written_allows}
use Rattle.sn_model.specs.declared.outcome.AskedPoint.{AskedPoint}
use Rattle.sn_model.specs.declared.outcome.AskedPoint.TheVariants.{Unasked, Plain, Freezes, Thaws, Restores}
use Rattle.sn_model.specs.Tree.{Tree}
use Rattle.sn_model.specs.World.{World}
use Rattle.sn_ondisk.specs.Trees.{Store}
use Rattle.sn_opening.specs.Worlds.{FrozenTrees, frozen_of}
use Rattle.sn_snap.specs.Catalogue.{Entry, IsCatalogue, by_name, catalogue, entry_of}
use Rattle.sn_snap.proofs.NameLemmas.{by_bytes, get_is, has_name, named, names_total}
use Rattle.sn_cp_build.specs.declared.edits.SnapshotEdit.TheVariants as edit
use Rattle.sn_cp_held.proofs.RestoreLemmas.{stands_for}
use Rattle.sn_cp_whole.specs.Asking.{CanBeMade, CanBeMadeWith, HasSnapshot, IsStartFor}
use Rattle.sn_cp_whole.specs.Making.{CanBeAsked}

-- ---- the snapshots of a root body

module _ (root : RootBody) (fits : IsRootBody root) where
  -- of its four tests, the last three
  record Tests : Type 0 where
    rising : are_rising 0 root.snapshots ≡ true
    within : are_within root.limits.largest_bit root.snapshots ≡ true
    distinct : are_distinct root.snapshots ≡ true

  tests : Tests
  tests =
      let few = nat_le (length root.snapshots) root.limits.snapshots in
      let rising = are_rising 0 root.snapshots in
      let within = are_within root.limits.largest_bit root.snapshots in
      let third = and_parts (few && rising && within) (are_distinct root.snapshots) fits.snapshots.held in
      let second = and_parts (few && rising) within third.0 in
      let first = and_parts few rising second.0 in
      record { rising = first.1; within = second.1; distinct = third.1 }

  pub catalogue_in : IsCatalogue root.snapshots
  catalogue_in = record { rising = tests.rising; distinct = tests.distinct }

  -- a word of the map has each bit that its version has
  pub is_bit : (bit : ℕ) → bit ≤ root.limits.largest_bit → bit ≤ 31
  is_bit bit within = let most = (fixed root.limits.version root.limits fits.version).bits in omega (arith, within, most)

  -- the written version allows what its own does
  allows : Allows root.limits limits_written
  allows = written_allows root.limits.version root.limits fits.version

  -- so its snapshots are those of a root under the written limits, and what can be made of them can be under those
  pub snapshots_written : AreSnapshots limits_written root.snapshots
  snapshots_written = snapshots_stay root.limits limits_written allows root.snapshots fits.snapshots

  pub made_written : (asked : AskedPoint) (bit : ℕ) → CanBeMadeWith asked bit root.limits root.snapshots → CanBeMadeWith asked bit limits_written root.snapshots
  made_written Unasked bit can = can
  made_written Plain bit can = can
  made_written (Freezes name) bit can = record {
    from_one = can.from_one;
    bit_free = can.bit_free;
    name_free = can.name_free;
    room = omega (arith, can.room, allows.snapshots);
    within = omega (arith, can.within, allows.bits);
  }
  made_written (Thaws name) bit can = can
  made_written (Restores name) bit can = can

bit_between : (before largest : ℕ) (snapshots : List Snapshot) (s : Snapshot) → are_rising before snapshots ≡ true → are_within largest snapshots ≡ true → Contains snapshots s → (before < s.bit) × (s.bit ≤ largest)
bit_between before largest [] s rise small (k, within, is) = absurd (omega (arith, within))
bit_between before largest (x ∷ xs) s rise small (zero, within, is) =
    let same = ap (λ (y : Snapshot). y.bit) is in
    let above = ltb-true before x.bit (and_parts (nat_lt before x.bit) (are_rising x.bit xs) rise).0 in
    let below = leb-true x.bit largest (and_parts (nat_le x.bit largest) (are_within largest xs) small).0 in
    (omega (arith, same, above), omega (arith, same, below))
bit_between before largest (x ∷ xs) s rise small (suc k, within, is) =
    let first = and_parts (nat_lt before x.bit) (are_rising x.bit xs) rise in
    let above = ltb-true before x.bit first.0 in
    let more = bit_between x.bit largest xs s first.1 (and_parts (nat_le x.bit largest) (are_within largest xs) small).1 (k, omega (arith, within), is) in
    (omega (arith, above, more.0), more.1)

-- each of its snapshots has such a bit, and not that of the live tree
pub bits_in : (root : RootBody) → IsRootBody root → (s : Snapshot) → Contains root.snapshots s → (1 ≤ s.bit) × (s.bit ≤ 31)
bits_in root fits s among =
    let its = tests root fits in
    let between = bit_between 0 root.limits.largest_bit root.snapshots s its.rising its.within among in
    (omega (arith, between.0), is_bit root fits s.bit between.1)

-- ---- what a name denotes

module _ {X : Type 0} (f : Snapshot → X) where
  pub has_key : (snapshots : List Snapshot) (name : List ℕ) → fin.contains_key (by_name f snapshots) name ≡ has_name name snapshots
  has_key snapshots name = ap is_some (get_is f snapshots name) ∙ sym (named f snapshots name)

  -- there are as many names as snapshots
  count_is : (snapshots : List Snapshot) → are_distinct snapshots ≡ true → fin.len (by_name f snapshots) ≡ length snapshots
  count_is [] distinct = fin.len-empty by_bytes X
  count_is (s ∷ more) distinct =
      let parts = and_parts (not (has_name s.name more)) (are_distinct more) distinct in
      let new = has_key more s.name ∙ not-true (has_name s.name more) parts.0 in
      let rest = count_is more parts.1 in
      let one = fin.len-insert names_total (by_name f more) s.name (f s) ∙ ap (λ b. cond b (fin.len (by_name f more)) (fin.len (by_name f more) + 1)) new in
      omega (arith, one, rest)

-- the bit that a name denotes
module _ (root : RootBody) (name : List ℕ) (entry : Entry) (stands : fin.get (catalogue root.snapshots) name ≡ Some entry) where
  pub owns : (bit : ℕ) → bit ≡ entry.bit → HasSnapshot name bit root.snapshots
  owns bit same =
      let w = stands_for entry_of root.snapshots name entry stands in
      record { snapshot = w.snapshot; among = w.among; name_is = w.name_is; bit_is = ap (λ (e : Entry). e.bit) w.is ∙ sym same }

  pub own_is_bit : IsRootBody root → (1 ≤ entry.bit) × (entry.bit ≤ 31)
  own_is_bit fits =
      let w = stands_for entry_of root.snapshots name entry stands in
      let same = ap (λ (e : Entry). e.bit) w.is in
      let bits = bits_in root fits w.snapshot w.among in
      (omega (arith, same, bits.0), omega (arith, same, bits.1))

-- it is where its snapshot is brought back from
pub starts : (root : RootBody) (name : List ℕ) (entry : Entry) (bit : ℕ) → fin.get (catalogue root.snapshots) name ≡ Some entry → bit ≡ entry.bit → IsStartFor (Restores name) root (edit.Restore bit) entry.tree
starts root name entry bit stands same =
    let w = stands_for entry_of root.snapshots name entry stands in
    record {
      is = refl;
      fits = owns root name entry stands bit same;
      begins = subst (Contains root.snapshots) (λ i. record { bit = (ap (λ (e : Entry). e.bit) w.is ∙ sym same) i; name = w.name_is i; tree = (ap (λ (e : Entry). e.tree) w.is) i }) w.among;
    }

-- a look-up finds something where the name denotes something
pub found_some : (o : Option (Bor Snapshot)) → is_some (option_map entry_of (option_copied o)) ≡ is_some o
found_some None = refl
found_some (Some x) = refl

pub none_found : (o : Option (Bor Snapshot)) → is_some o ≡ false → option_map entry_of (option_copied o) ≡ None
none_found None e = refl
none_found (Some x) e = absurd cc

-- where a bit is free there is room for one more
pub has_room : (o : Option ℕ) (bit most count : ℕ) → o ≡ Some bit → (IsNone o ↔ (most ≤ count)) → count < most
has_room None bit most count is full = absurd cc
has_room (Some x) bit most count is full = let some : most ≤ count → ⊥ = λ less. true≢false (full.1 less) in omega (arith, some)

-- ---- a world whose frozen trees are those of a root that has the written limits

pub asked_can : (asked : AskedPoint) (world : World) (s : Store) (root : RootBody) → root.limits ≡ limits_written → IsRootBody root → world.frozen ≡ frozen_of s root.snapshots → CanBeAsked asked world → CanBeMade asked root.limits root.snapshots
asked_can Unasked world s root written fits frozen can = tt
asked_can Plain world s root written fits frozen can = tt
asked_can (Freezes name) world s root written fits frozen can =
    let tree : Snapshot → Tree = λ x. image s x.tree in
    let most = ap (λ (l : Limits). l.snapshots) written in
    let count = ap (λ (m : FrozenTrees). fin.len m) frozen ∙ count_is tree root.snapshots (tests root fits).distinct in
    (has_key entry_of root.snapshots name ∙ sym (has_key tree root.snapshots name) ∙ ap (λ (m : FrozenTrees). fin.contains_key m name) (sym frozen) ∙ can.0, omega (arith, most, count, can.1))
asked_can (Thaws name) world s root written fits frozen can =
    let tree : Snapshot → Tree = λ x. image s x.tree in
    has_key entry_of root.snapshots name ∙ sym (has_key tree root.snapshots name) ∙ ap (λ (m : FrozenTrees). fin.contains_key m name) (sym frozen) ∙ can
asked_can (Restores name) world s root written fits frozen can = absurd can

-- so can a snapshot be brought back that is there
pub restored_can : (name : List ℕ) (tree : Tree) (world : World) (s : Store) (root : RootBody) → world.frozen ≡ frozen_of s root.snapshots → fin.get world.frozen name ≡ Some tree → CanBeMade (Restores name) root.limits root.snapshots
restored_can name tree world s root frozen there =
    let tree_of : Snapshot → Tree = λ x. image s x.tree in
    has_key entry_of root.snapshots name ∙ sym (has_key tree_of root.snapshots name) ∙ ap (λ (m : FrozenTrees). fin.contains_key m name) (sym frozen) ∙ ap is_some there
