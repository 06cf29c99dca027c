-- The layer of a change lies over the tree that it changes.
use Rattle.std.proofs.Common.{◌≡◌, Some, sym, subst}
use Rattle.sn_limits.specs.declared.limits.Limits.{Limits}
use Rattle.sn_model.specs.declared.change.Change.{Change}
use Rattle.sn_model.specs.Tree.{Tree}
use Rattle.sn_model.specs.Changes.{apply}
use Rattle.sn_model.specs.NameTree.{IsHierarchy}
use Rattle.sn_overlay_change.specs.ChangeLayers.{layer_of_change}
use Rattle.sn_overlay.specs.Seen.{CountsNames, LiesOver}
use Rattle.sn_overlay_change.proofs.ChangeWholeLemmas.{changes_are_whole}
use Rattle.sn_overlay_change.proofs.NamesLemmas.{changes_count}
use Rattle.sn_overlay_change.proofs.ShownLemmas.{changes_show}

pub changes_lie : (limits : Limits) (change : Change) (tree after : Tree) → IsHierarchy tree → apply limits change tree ≡ Some after → LiesOver (layer_of_change tree change) tree
changes_lie limits change tree after h e =
    let whole = changes_are_whole limits change tree after h e in
    record {
      whole = whole.0;
      fits = whole.1;
      counts = subst (λ (t : Tree). CountsNames (layer_of_change tree change) tree t) (sym (changes_show limits change tree after h e)) (changes_count limits change tree after h e);
    }
