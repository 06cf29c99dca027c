-- What a point that restores a snapshot makes of a world.
use Rattle.std.proofs.Common.{◌≡◌, ℕ, Bool, true, false, List, Option, Some, None, refl, sym, ap, ◌∙◌, true≢false}
use Rattle.std.specs.FinMap as map
use Rattle.std.specs.Prelude.{IsSomeAnd}
use Rattle.std.proofs.lemmas.Bool.{lt-ltb}
use Rattle.sn_limits.specs.declared.kind.Kind.TheVariants.{File}
use Rattle.sn_limits.specs.declared.limits.Limits.{Limits}
use Rattle.sn_walk.specs.Objects.{is_same}
use Rattle.sn_walk.specs.declared.object.Home.{Home}
use Rattle.sn_walk.specs.declared.object.Home.TheVariants.{Live, Frozen}
use Rattle.sn_model.specs.Descriptors.{Descriptors}
use Rattle.sn_model.specs.NameTree.{HasKind}
use Rattle.sn_model.specs.Outcomes.{Restores}
use Rattle.sn_model.specs.RestoreLaws.{StaysBeside}
use Rattle.sn_model.specs.Settling.{settled}
use Rattle.sn_model.specs.SnapshotCalls.{has_open}
use Rattle.sn_model.specs.Steps.{pointed, restored, with_live}
use Rattle.sn_model.specs.Tree.{Tree}
use Rattle.sn_model.specs.World.{Descriptor, World, tree_in, trees_of}
use Rattle.sn_model.specs.Worlds.{IsWorld}
use Rattle.sn_model.proofs.CountLemmas.{count, count_some}
use Rattle.sn_model.proofs.DropLemmas.{all_named, dropping_tree}
use Rattle.sn_model.proofs.HeldLemmas.{any_counts, descriptors_total, exact_descriptors}

-- a file that is open in the live tree
pub open_live : (table : Descriptors) (session fd : ℕ) (d : Descriptor) → map.get table (session, fd) ≡ Some d → d.home ≡ Live → has_open table Live ≡ true
open_live table session fd d e home =
    let is_there : (ℕ × ℕ) × Descriptor → Bool = λ e. is_same Live e.1.home in
    any_counts is_there (map.entries table) ∙ lt-ltb 0 (count is_there table) (count_some descriptors_total exact_descriptors is_there table (session, fd) d e (ap (is_same Live) home))

-- a settled tree in the live one's place
module _ (limits : Limits) (w : World) (name : List ℕ) (tree : Tree) (whole : IsWorld limits w) (is : map.get w.frozen name ≡ Some tree) (none_open : has_open w.descriptors Live ≡ false) where
  abbrev after : World
  after = with_live w (settled tree)

  still_there : (session fd : ℕ) (d : Descriptor) → map.get w.descriptors (session, fd) ≡ Some d → (home : Home) → d.home ≡ home → IsSomeAnd (tree_in (trees_of w) home) (λ t. HasKind t d.number File) → IsSomeAnd (tree_in (trees_of after) home) (λ t. HasKind t d.number File)
  still_there session fd d e Live home h = absurd (true≢false (sym (open_live w.descriptors session fd d e home) ∙ none_open))
  still_there session fd d e (Frozen other) home h = h

  after_world : IsWorld limits after
  after_world = record {
    live = dropping_tree limits tree (λ _. false) (whole.frozen name tree is);
    frozen = whole.frozen;
    snapshot_names = whole.snapshot_names;
    few_snapshots = whole.few_snapshots;
    count = whole.count;
    callers = whole.callers;
    open_files = λ i fd d e. let f = whole.open_files i fd d e in record { caller = f.caller; number = f.number; file = still_there i fd d e d.home refl f.file; offset = f.offset; live = f.live };
    held = λ number has none. absurd (all_named tree number has none);
  }

pub restored_world : (limits : Limits) (w : World) (name : List ℕ) → IsWorld limits w → has_open w.descriptors Live ≡ false → IsWorld limits (pointed (Restores name) w)
restored_world limits w name whole none_open = told (map.get w.frozen name) refl
  where
    told : (o : Option Tree) → map.get w.frozen name ≡ o → IsWorld limits (restored o w)
    told None e = whole
    told (Some tree) e = after_world limits w name tree whole e none_open

-- a tree or none
restored_beside_if : (o : Option Tree) (w : World) → StaysBeside w (restored o w)
restored_beside_if None w = record { frozen = refl; sessions = refl; descriptors = refl }
restored_beside_if (Some tree) w = record { frozen = refl; sessions = refl; descriptors = refl }

pub restored_beside : (w : World) (name : List ℕ) → StaysBeside w (pointed (Restores name) w)
restored_beside w name = restored_beside_if (map.get w.frozen name) w
