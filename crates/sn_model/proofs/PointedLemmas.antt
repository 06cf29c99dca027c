-- What a point that is asked for makes of a world: a snapshot is made of the live tree, one goes, or one is brought back.
use Rattle.std.proofs.Common.{◌≡◌, ◌≢◌, ◌⊎◌, inl, inr, ℕ, ◌+◌, ◌-◌, ◌≤◌, Bool, true, false, cond, IsTrue, List, Option, Some, None, is_some, refl, sym, ap, subst, ◌∙◌, arith, true≢false}
use Rattle.std.specs.FinMap as map
use Rattle.std.specs.Prelude.{IsSomeAnd}
use Rattle.std.specs.Cmp.Lexicographic.{nat_list_cmp_total}
use Rattle.std.proofs.lemmas.Bool.{lt-ltb}
use Rattle.std.proofs.lemmas.Cmp.{nat_list_eq_equiv}
use Rattle.std.proofs.lemmas.Map.Lookups.{exact_bytes}
use Rattle.sn_limits.specs.SnapshotName.{is_snapshot_name}
use Rattle.sn_limits.specs.declared.kind.Kind.TheVariants.{File}
use Rattle.sn_limits.specs.declared.limits.Limits.{Limits}
use Rattle.sn_walk.specs.Objects.{is_same}
use Rattle.sn_walk.specs.declared.object.Home.{Home}
use Rattle.sn_walk.specs.declared.object.Home.TheVariants.{Live, Frozen}
use Rattle.sn_model.specs.Descriptors.{Descriptors}
use Rattle.sn_model.specs.NameTree.{HasKind, IsTree}
use Rattle.sn_model.specs.Outcomes.{AskedPoint, Unasked, Plain, Freezes, Thaws, Restores}
use Rattle.sn_model.specs.SnapshotCalls.{has_open}
use Rattle.sn_model.specs.Steps.{pointed}
use Rattle.sn_model.specs.Tree.{Tree}
use Rattle.sn_model.specs.World.{Descriptor, World, tree_in, trees_of}
use Rattle.sn_model.specs.Worlds.{IsWorld}
use Rattle.sn_model.proofs.ChainLemmas.{some_same}
use Rattle.sn_model.proofs.CountLemmas.{count, count_some}
use Rattle.sn_model.proofs.HeldLemmas.{any_counts, descriptors_total, exact_descriptors}
use Rattle.sn_model.proofs.MapLemmas.{get_inserted, get_left, get_other, get_was, same_or_apart}
use Rattle.sn_model.proofs.OutcomeLemmas.{FitsPoint, LeavesLive}
use Rattle.sn_model.proofs.RestoreLemmas.{restored_world}

-- the live tree stays, but where a snapshot is brought back
pub pointed_live : (p : AskedPoint) → LeavesLive p → (w : World) → (pointed p w).live ≡ w.live
pointed_live Unasked leaves w = refl
pointed_live Plain leaves w = refl
pointed_live (Freezes name) leaves w = refl
pointed_live (Thaws name) leaves w = refl
pointed_live (Restores name) leaves w = absurd leaves

abbrev OneOf : World → List ℕ → Tree → Type 0
OneOf w name tree = map.get w.frozen name ≡ Some tree

-- ---- a snapshot is made

module _ (limits : Limits) (w : World) (name : List ℕ) (whole : IsWorld limits w) (fits : FitsPoint limits w (Freezes name)) where
  abbrev frozen : World
  frozen = pointed (Freezes name) w

  vacant : map.get w.frozen name ≡ None
  vacant = none (map.get w.frozen name) fits.1
    where
      none : (o : Option Tree) → is_some o ≡ false → o ≡ None
      none None e = refl
      none (Some t) e = absurd (true≢false e)

  -- it is the new one, or was there
  each : (other : List ℕ) (tree : Tree) → OneOf frozen other tree → ((other ≡ name) × (tree ≡ w.live)) ⊎ OneOf w other tree
  each other tree e = told (same_or_apart nat_list_cmp_total exact_bytes other name)
    where
      told : (other ≡ name) ⊎ (other ≢ name) → ((other ≡ name) × (tree ≡ w.live)) ⊎ OneOf w other tree
      told (inl same) = inl (same, some_same _ _ (sym e ∙ ap (map.get frozen.frozen) same ∙ get_inserted nat_list_cmp_total w.frozen name w.live))
      told (inr apart) = inr (sym (get_other nat_list_cmp_total exact_bytes w.frozen name w.live other apart) ∙ e)

  still_there : (home : Home) (number : ℕ) → IsSomeAnd (tree_in (trees_of w) home) (λ tree. HasKind tree number File) → IsSomeAnd (tree_in (trees_of frozen) home) (λ tree. HasKind tree number File)
  still_there Live number h = h
  still_there (Frozen other) number h = told (same_or_apart nat_list_cmp_total exact_bytes other name)
    where
      told : (other ≡ name) ⊎ (other ≢ name) → IsSomeAnd (map.get frozen.frozen other) (λ tree. HasKind tree number File)
      told (inl same) = absurd (subst (λ (o : Option Tree). IsSomeAnd o (λ tree. HasKind tree number File)) (ap (map.get w.frozen) same ∙ vacant) h)
      told (inr apart) = subst (λ (o : Option Tree). IsSomeAnd o (λ tree. HasKind tree number File)) (sym (get_other nat_list_cmp_total exact_bytes w.frozen name w.live other apart)) h

  freezes_world : IsWorld limits frozen
  freezes_world = record {
    live = whole.live;
    frozen = λ other tree e. tree_of tree (each other tree e);
    snapshot_names = λ other tree e. name_of other tree (each other tree e);
    few_snapshots = subst (λ (n : ℕ). n ≤ limits.snapshots) (sym (map.len-insert nat_list_cmp_total w.frozen name w.live ∙ ap (λ (b : Bool). cond b (map.len w.frozen) (map.len w.frozen + 1)) fits.1)) (omega (arith, fits.2));
    count = whole.count;
    callers = whole.callers;
    open_files = λ i fd d e. let f = whole.open_files i fd d e in record { caller = f.caller; number = f.number; file = still_there d.home d.number f.file; offset = f.offset; live = f.live };
    held = whole.held;
  }
    where
      tree_of : {other : List ℕ} (tree : Tree) → ((other ≡ name) × (tree ≡ w.live)) ⊎ OneOf w other tree → IsTree limits tree
      tree_of tree (inl new) = subst (IsTree limits) (sym new.1) whole.live
      tree_of tree (inr old) = whole.frozen _ tree old

      name_of : (other : List ℕ) (tree : Tree) → ((other ≡ name) × (tree ≡ w.live)) ⊎ OneOf w other tree → IsTrue (is_snapshot_name other)
      name_of other tree (inl new) = subst (λ (n : List ℕ). IsTrue (is_snapshot_name n)) (sym new.0) fits.0
      name_of other tree (inr old) = whole.snapshot_names other tree old

-- ---- one goes

-- a file that is open in a tree
pub open_at : (table : Descriptors) (name : List ℕ) (session fd : ℕ) (d : Descriptor) → map.get table (session, fd) ≡ Some d → d.home ≡ Frozen name → has_open table (Frozen name) ≡ true
open_at table name session fd d e home =
    let is_there : (ℕ × ℕ) × Descriptor → Bool = λ e. is_same (Frozen name) e.1.home in
    any_counts is_there (map.entries table) ∙ lt-ltb 0 (count is_there table) (count_some descriptors_total exact_descriptors is_there table (session, fd) d e (ap (is_same (Frozen name)) home ∙ nat_list_eq_equiv.refl name))

module _ (limits : Limits) (w : World) (name : List ℕ) (whole : IsWorld limits w) (fits : FitsPoint limits w (Thaws name)) where
  abbrev thawed : World
  thawed = pointed (Thaws name) w

  was : (other : List ℕ) (tree : Tree) → OneOf thawed other tree → OneOf w other tree
  was other tree e = (get_was nat_list_cmp_total exact_bytes w.frozen name other tree e).1

  left_there : (session fd : ℕ) (d : Descriptor) → map.get w.descriptors (session, fd) ≡ Some d → (home : Home) → d.home ≡ home → IsSomeAnd (tree_in (trees_of w) home) (λ tree. HasKind tree d.number File) → IsSomeAnd (tree_in (trees_of thawed) home) (λ tree. HasKind tree d.number File)
  left_there session fd d e Live is h = h
  left_there session fd d e (Frozen other) is h = told (same_or_apart nat_list_cmp_total exact_bytes other name)
    where
      told : (other ≡ name) ⊎ (other ≢ name) → IsSomeAnd (map.get thawed.frozen other) (λ tree. HasKind tree d.number File)
      told (inl same) = absurd (true≢false (sym (open_at w.descriptors name session fd d e (is ∙ ap Frozen same)) ∙ fits))
      told (inr apart) = subst (λ (o : Option Tree). IsSomeAnd o (λ tree. HasKind tree d.number File)) (sym (get_left nat_list_cmp_total exact_bytes w.frozen name other apart)) h

  fewer : (b : Bool) → cond b (map.len w.frozen - 1) (map.len w.frozen) ≤ limits.snapshots
  fewer true = let few = whole.few_snapshots in omega (arith, few)
  fewer false = whole.few_snapshots

  thaws_world : IsWorld limits thawed
  thaws_world = record {
    live = whole.live;
    frozen = λ other tree e. whole.frozen other tree (was other tree e);
    snapshot_names = λ other tree e. whole.snapshot_names other tree (was other tree e);
    few_snapshots = subst (λ (n : ℕ). n ≤ limits.snapshots) (sym (map.len-remove nat_list_cmp_total w.frozen name)) (fewer (map.contains_key w.frozen name));
    count = whole.count;
    callers = whole.callers;
    open_files = λ i fd d e. let f = whole.open_files i fd d e in record { caller = f.caller; number = f.number; file = left_there i fd d e d.home refl f.file; offset = f.offset; live = f.live };
    held = whole.held;
  }

-- ---- any of them

pub pointed_world : (limits : Limits) (w : World) (p : AskedPoint) → IsWorld limits w → FitsPoint limits w p → IsWorld limits (pointed p w)
pointed_world limits w Unasked whole fits = whole
pointed_world limits w Plain whole fits = whole
pointed_world limits w (Freezes name) whole fits = freezes_world limits w name whole fits
pointed_world limits w (Thaws name) whole fits = thaws_world limits w name whole fits
pointed_world limits w (Restores name) whole fits = restored_world limits w name whole fits.1
