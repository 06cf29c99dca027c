-- A merge counts names and lies over a tree where both layers do.
use Rattle.std.proofs.Common.{◌≡◌, ℕ, Bool, true, false, cond, Option, Some, None, refl, sym, ap, subst, ◌∙◌}
use Rattle.std.specs.FinMap as map
use Rattle.sn_model.specs.Tree.{Tree, link_count, names_for}
use Rattle.sn_model.proofs.ChainLemmas.{some_same, some_none}
use Rattle.sn_overlay.specs.declared.node.NodeChange.{NodeChange}
use Rattle.sn_overlay.specs.declared.node.NodeChange.TheVariants.{Gone, Changed}
use Rattle.sn_overlay.specs.declared.node.NodeState.{NodeState}
use Rattle.sn_overlay.specs.Layers.{Layer, through}
use Rattle.sn_overlay.specs.Merges.{merge, state_over}
use Rattle.sn_overlay.specs.Seen.{CountsNames, LiesOver}
use Rattle.sn_overlay.proofs.LayerLemmas.{nodes_over, get-merge_nodes}
use Rattle.sn_overlay.proofs.MergeLemmas.{merge_shows, merge_fits, merge_is_layer}

-- a merge counts names where both layers do
pub merges_count : (older newer : Layer) (tree between after : Tree) → CountsNames older tree between → CountsNames newer between after → CountsNames (merge older newer) tree after
merges_count older newer tree between after ho hn = record {
  changed = λ number state e. changed number state (map.get older.nodes number) (map.get newer.nodes number) refl refl (sym (get-merge_nodes older newer number) ∙ e);
  others = λ number e. others number (map.get older.nodes number) (map.get newer.nodes number) refl refl (sym (get-merge_nodes older newer number) ∙ e);
}
  where
    changed : (number : ℕ) (state : NodeState) (old new : Option NodeChange) → map.get older.nodes number ≡ old → map.get newer.nodes number ≡ new → nodes_over old new ≡ Some (Changed state) → state.links ≡ link_count state.kind (names_for after number)
    changed number state old None e f h = ho.changed number state (e ∙ h) ∙ ap (link_count state.kind) (sym (hn.others number f))
    changed number state None (Some c) e f h = hn.changed number state (f ∙ h)
    changed number state (Some (Gone x)) (Some c) e f h = hn.changed number state (f ∙ h)
    changed number state (Some (Changed o)) (Some (Gone x)) e f h = let never : Gone x ≡ Changed state = some_same _ _ h in cc
    changed number state (Some (Changed o)) (Some (Changed s)) e f h = told s.fresh refl
      where
        told : (b : Bool) → s.fresh ≡ b → state.links ≡ link_count state.kind (names_for after number)
        told true g = hn.changed number state (f ∙ ap (λ b. Some (cond b (Changed s) (Changed (state_over o s)))) (sym g) ∙ h)
        told false g =
            let same : Changed (state_over o s) ≡ Changed state = ap (λ b. cond b (Changed s) (Changed (state_over o s))) (sym g) ∙ some_same _ _ h in
            let one : state_over o s ≡ state = cc in
            subst (λ (t : NodeState). t.links ≡ link_count t.kind (names_for after number)) one (hn.changed number s f)

    others : (number : ℕ) (old new : Option NodeChange) → map.get older.nodes number ≡ old → map.get newer.nodes number ≡ new → nodes_over old new ≡ None → names_for after number ≡ names_for tree number
    others number old None e f h = hn.others number f ∙ ho.others number (e ∙ h)
    others number old (Some c) e f h = told old h
      where
        told : (it : Option NodeChange) → nodes_over it (Some c) ≡ None → names_for after number ≡ names_for tree number
        told None k = absurd (some_none _ _ refl k)
        told (Some it) k = absurd (some_none _ _ refl k)

pub merges_lie : (older newer : Layer) (tree : Tree) → LiesOver older tree → LiesOver newer (through older tree) → LiesOver (merge older newer) tree
merges_lie older newer tree o n = record {
  whole = merge_is_layer older newer o.whole n.whole;
  fits = merge_fits older newer o.whole n.whole tree o.fits n.fits;
  counts = subst (λ (t : Tree). CountsNames (merge older newer) tree t) (sym (merge_shows older newer o.whole n.whole tree o.fits n.fits)) (merges_count older newer tree (through older tree) (through newer (through older tree)) o.counts n.counts);
}
