-- What follows from tests that pass; how many snapshots are listed; and whether a file of a tree is open, as sessions show it.
use Rattle.std.proofs.Common.{◌≡◌, ◌↔◌, ℕ, Bool, true, false, if◌then◌else◌, IsTrue, List, Option, Some, None, Result, Ok, Err, length, refl, sym, ap, ◌∙◌}
use Rattle.std.specs.Prelude.{IsOk, IsSomeAnd}
use Rattle.std.specs.FinMap as map
use Rattle.std.specs.List.{list_any}
use Rattle.std.specs.Cmp.Lexicographic.{same_text}
use Rattle.std.specs.declared.cmp.Ordering.{Ordering}
use Rattle.std.proofs.lemmas.Bool.{ltb-true}
use Rattle.std.proofs.lemmas.Map.Entries.{length-keys_of}
use Rattle.sn_limits.specs.Versions.{limits_written}
use Rattle.sn_walk.specs.declared.object.Home.{Home}
use Rattle.sn_walk.specs.declared.object.Home.TheVariants.{Live, Frozen}
use Rattle.sn_walk.specs.declared.object.Object.TheVariants as object
use Rattle.sn_walk.specs.Chains.{◌>>=◌}
use Rattle.sn_walk.specs.Objects.{is_same}
use Rattle.sn_model.specs.declared.call.Call.{Call}
use Rattle.sn_model.specs.declared.call.Call.TheVariants as call
use Rattle.sn_model.specs.declared.reply.Errno.TheVariants.{Ebusy}
use Rattle.sn_model.specs.declared.reply.Refusal.{Refusal}
use Rattle.sn_model.specs.Descriptors.{Descriptors}
use Rattle.sn_model.specs.Seen.{SeenNames, seen_names}
use Rattle.sn_model.specs.SnapshotCalls.{closed_tree, has_open}
use Rattle.sn_model.specs.Tests.{plain}
use Rattle.sn_model.specs.World.{Descriptor, World, trees_of}
use Rattle.sn_model.proofs.CountLemmas.{count, count_found}
use Rattle.sn_model.proofs.HeldLemmas.{any_counts, descriptors_total, exact_descriptors}
use Rattle.sn_model.proofs.PointedLemmas.{open_at}
use Rattle.sn_model.proofs.RestoreLemmas.{open_live}
use Rattle.sn_desc.specs.InUse.{HasOpen}
use Rattle.sn_core_decide_rules.specs.Decided.{IsRefusedAtOnce}
use Rattle.sn_core_decide.specs.declared.groups.Group.TheVariants.{Snapshots}
use Rattle.sn_core_decide.specs.Groups.{group_of}

-- where all tests pass, the first does
pub passed_first : {X Y R : Type 0} (test : Result X R) (more : X → Result Y R) (y : Y) → (test >>= more) ≡ Ok y → IsOk test
passed_first (Ok x) more y e = refl {a = true}
passed_first (Err r) more y e = cc

-- the calls that are refused at once are those of snapshots
pub at_once_group : (c : Call) → IsRefusedAtOnce c → group_of c ≡ Snapshots
at_once_group (call.SnapDelete name) asked = refl
at_once_group (call.SnapRestore name) asked = refl
at_once_group c asked = absurd asked

-- a map has as many keys as entries
keys_count : {K X : Type 0} {R : K → K → Ordering} (m : map.FinMap R X) → length (map.keys m) ≡ map.len m
keys_count m = length-keys_of (map.entries m) ∙ sym (map.len-entries m)

pub listed_count : (world : World) (names : SeenNames) (listed told : List (List ℕ)) → told ≡ listed → listed ≡ names.listed object.Snapshots → names ≡ seen_names limits_written (trees_of world) → length told ≡ map.len world.frozen
listed_count world names listed told same is seen = ap length (same ∙ is ∙ ap (λ (s : SeenNames). s.listed object.Snapshots) seen) ∙ keys_count world.frozen

-- ---- an open file of a tree

same_home : (home other : Home) → is_same home other ≡ true → other ≡ home
same_home Live Live e = refl
same_home Live (Frozen other) e = cc
same_home (Frozen name) Live e = cc
same_home (Frozen name) (Frozen other) e = ap Frozen (sym (same_text name other (sym e)))

-- whether any descriptor has a file of a tree
abbrev has_open_at : Descriptors → Home → Bool
has_open_at table home = list_any (λ (e : (ℕ × ℕ) × Descriptor). is_same home e.1.home) (map.entries table)

-- what the test finds has a descriptor
open_by : (table : Descriptors) (home : Home) → has_open_at table home ≡ true → HasOpen table home
open_by table home e =
    let w = count_found descriptors_total exact_descriptors is_there table (ltb-true 0 (count is_there table) (sym (any_counts is_there (map.entries table)) ∙ e)) in
    (w.0.0, w.0.1, there (map.get table (w.0.0, w.0.1)) w.1 w.2 (same_home home w.1.home w.3))
  where
    is_there : (ℕ × ℕ) × Descriptor → Bool
    is_there = λ e. is_same home e.1.home

    there : (o : Option Descriptor) (d : Descriptor) → o ≡ Some d → d.home ≡ home → IsSomeAnd o (λ d. d.home ≡ home)
    there None d f h = cc
    there (Some x) d f h = let same : d ≡ x = cc in ap (λ (y : Descriptor). y.home) (sym same) ∙ h

open_in : (table : Descriptors) (home : Home) (session fd : ℕ) (d : Descriptor) → map.get table (session, fd) ≡ Some d → d.home ≡ home → has_open_at table home ≡ true
open_in table Live session fd d e h = open_live table session fd d e h
open_in table (Frozen name) session fd d e h = open_at table name session fd d e h

open_of : (table : Descriptors) (home : Home) → HasOpen table home → has_open_at table home ≡ true
open_of table home (session, fd, is) = told (map.get table (session, fd)) refl is
  where
    told : (o : Option Descriptor) → map.get table (session, fd) ≡ o → IsSomeAnd o (λ d. d.home ≡ home) → has_open_at table home ≡ true
    told None e h = absurd h
    told (Some d) e h = open_in table home session fd d e h

open_is : (table : Descriptors) (home : Home) (b : Bool) → (IsTrue b ↔ HasOpen table home) → has_open_at table home ≡ b
open_is table home true is = open_of table home (is.0 refl)
open_is table home false is = told (has_open_at table home) refl
  where
    told : (b : Bool) → has_open_at table home ≡ b → b ≡ false
    told true e = sym (is.1 (open_by table home e))
    told false e = refl

-- what sessions report is what the model tests
abbrev pub busy_if : Bool → Result (Unit {0}) Refusal
busy_if b = if b then Err (plain Ebusy) else Ok tt

pub closed_is : (world : World) (name copy : List ℕ) (b : Bool) → copy ≡ name → (IsTrue b ↔ HasOpen world.descriptors (Frozen copy)) → closed_tree world (Frozen name) ≡ busy_if b
closed_is world name copy b same is = ap busy_if (ap (λ n. has_open world.descriptors (Frozen n)) (sym same) ∙ open_is world.descriptors (Frozen copy) b is)

pub closed_live_is : (world : World) (b : Bool) → (IsTrue b ↔ HasOpen world.descriptors Live) → closed_tree world Live ≡ busy_if b
closed_live_is world b is = ap busy_if (open_is world.descriptors Live b is)
