-- A change that is prepared, and laid over.
use Rattle.std.proofs.Common.{◌≡◌, List, true, Option, Some, None, is_some, refl, sym, ap, subst, ◌∙◌}
use Rattle.sn_directories.specs.Told.{IsShown, TellsDirectories}
use Rattle.sn_directories.specs.declared.table.Counted.{Counted}
use Rattle.sn_limits.proofs.VersionLemmas.{written_allows}
use Rattle.sn_limits.specs.Versions.{limits_of, limits_written}
use Rattle.sn_limits.specs.declared.limits.Limits.{Limits}
use Rattle.sn_model.proofs.AllowedLemmas.{change_stays}
use Rattle.sn_model.specs.declared.change.Change.{Change}
use Rattle.sn_model.specs.ChangeLaws.{ChangesKeepTheTree}
use Rattle.sn_model.specs.Changes.{apply}
use Rattle.sn_model.specs.NameTree.{IsHierarchy, IsTree}
use Rattle.sn_model.specs.Tree.{Tree}
use Rattle.sn_overlay.specs.Laws.{MergesLie, MergesShowBoth}
use Rattle.sn_overlay.specs.Layers.{Layer, through}
use Rattle.sn_overlay.specs.Merges.{merge}
use Rattle.sn_overlay.specs.Overlays.{layer_of}
use Rattle.sn_overlay.specs.Seen.{LiesOver}
use Rattle.sn_overlay_change.specs.ChangeLayers.{layer_of_change}
use Rattle.sn_logged.specs.Laid.{CanBeLaid}
use Rattle.sn_logged.specs.Moves.{moves_of}
use Rattle.sn_logged.specs.declared.moving.NameMoves.{NameMoves}
use Rattle.sn_overlay.specs.declared.overlay.Overlay.{Overlay}
use Rattle.sn_logged.specs.declared.preparing.PreparedChange.{PreparedChange}

pub can_be : {A : Type 0} (o : Option A) → true ≡ is_some o → (x : A) × (o ≡ Some x)
can_be None e = cc e
can_be (Some x) e = (x, refl)

-- What applies under limits that are read applies under the written ones, with the same result.
pub applies_written : (limits : Limits) → limits_of limits.version ≡ Some limits → (change : Change) (tree after : Tree) → apply limits change tree ≡ Some after → apply limits_written change tree ≡ Some after
applies_written limits version = change_stays limits limits_written (written_allows limits.version limits version)

module _ (limits : Limits) (older : Layer) (below : Tree) (rows next : List Counted) (change : Change) (p : PreparedChange) (new : Layer) (shown : IsShown older below rows) (can : CanBeLaid limits p (through older below) change) (is : new ≡ merge older (layer_of p.newer)) where
  merged : MergesShowBoth → through new below ≡ can.after
  merged both = ap (λ (l : Layer). through l below) is ∙ both older (layer_of p.newer) below shown.lies.whole can.lies.whole shown.lies.fits can.lies.fits ∙ can.shows

  pub laid_now : MergesShowBoth → apply limits change (through older below) ≡ Some (through new below)
  laid_now both = can.applied ∙ ap (λ (t : Tree). Some t) (sym (merged both))

  pub still_shown : limits_of limits.version ≡ Some limits → MergesShowBoth → MergesLie → ChangesKeepTheTree
      → ((tree after : Tree) (c : Change) → IsTree limits_written tree → p.moves ≡ moves_of tree c → apply limits_written c tree ≡ Some after → TellsDirectories tree rows → TellsDirectories after next) → IsShown new below next
  still_shown version both lie keep notes = record {
    lies = subst (λ (l : Layer). LiesOver l below) (sym is) (lie older (layer_of p.newer) below shown.lies can.lies);
    whole = subst (λ (t : Tree). IsTree limits_written t) (sym (merged both)) (keep limits_written change (through older below) can.after shown.whole allowed);
    tells = subst (λ (t : Tree). TellsDirectories t next) (sym (merged both)) (notes (through older below) can.after change shown.whole can.moves allowed shown.tells);
  }
    where
      allowed : apply limits_written change (through older below) ≡ Some can.after
      allowed = applies_written limits version change (through older below) can.after can.applied

-- what was prepared over a tree that shows what was shown before
module _ (limits : Limits) (now live : Tree) (same : now ≡ live) (change : Change) where
  pub can_be_laid : (moves : NameMoves) (newer : Overlay) → IsHierarchy live → (after : Tree) → apply limits change live ≡ Some after
      → ((a : Tree) → apply limits change now ≡ Some a → layer_of newer ≡ layer_of_change now change)
      → ((a : Tree) → IsHierarchy now → apply limits change now ≡ Some a → through (layer_of newer) now ≡ a)
      → ((a : Tree) → IsHierarchy now → apply limits change now ≡ Some a → LiesOver (layer_of newer) now)
      → moves ≡ moves_of live change → CanBeLaid limits (record { moves = moves; newer = newer }) live change
  can_be_laid moves newer whole after applied layered shows lies moved =
      let whole_now = subst IsHierarchy (sym same) whole in
      let applied_now = ap (apply limits change) same ∙ applied in
      record {
        after = after;
        applied = applied;
        layer = layered after applied_now ∙ ap (λ (t : Tree). layer_of_change t change) same;
        shows = subst (λ (t : Tree). through (layer_of newer) t ≡ after) same (shows after whole_now applied_now);
        lies = subst (LiesOver (layer_of newer)) same (lies after whole_now applied_now);
        moves = moved;
      }

  pub laid_there : (p : PreparedChange) → IsHierarchy live → true ≡ is_some (apply limits change live) → (IsHierarchy now → (a : Tree) → apply limits change now ≡ Some a → CanBeLaid limits p now change) → CanBeLaid limits p live change
  laid_there p whole can prepared =
      let made = can_be (apply limits change live) can in
      subst (λ (t : Tree). CanBeLaid limits p t change) same (prepared (subst IsHierarchy (sym same) whole) made.0 (ap (apply limits change) same ∙ made.1))
