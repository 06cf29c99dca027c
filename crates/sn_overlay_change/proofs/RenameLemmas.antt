-- What is seen through the layer of a rename.
use Rattle.std.proofs.Common.{◌≡◌, ℕ, Bool, true, false, cond, Option, Some, None, refl, sym, ap, ◌∙◌, inl, inr}
use Rattle.std.specs.Ordering.{eq_by_cmp}
use Rattle.std.specs.Cmp.{nat_cmp_total}
use Rattle.std.specs.FinMap as map
use Rattle.std.proofs.lemmas.Map.Views.{tells_apart}
use Rattle.sn_walk.specs.Views.{is_directory}
use Rattle.sn_limits.specs.declared.limits.Limits.{Limits}
use Rattle.sn_model.specs.declared.link.Link.{Link}
use Rattle.sn_model.specs.Tree.{Node, Tree, link_cmp}
use Rattle.sn_model.specs.Changes.{put_link, take_link, take_node, replaced, renamed}
use Rattle.sn_model.proofs.ChainLemmas.{some_same}
use Rattle.sn_model.proofs.PartLemmas.{renamed_is, replaced_is, unlinked_is, Renamed, IsRenamed, Unlinked}
use Rattle.sn_model.proofs.LinkLemmas.{exact_links, links_total}
use Rattle.sn_overlay.specs.declared.node.NodeChange.TheVariants.{Gone, Changed}
use Rattle.sn_overlay.specs.Layers.{Layer, through, hides_names, node_seen, name_seen}
use Rattle.sn_overlay.specs.Overlays.{no_changes, with_node, with_name}
use Rattle.sn_overlay_change.specs.ChangeLayers.{state_of, touching, one_name_less, without_name, replacing, exchange_layer, renaming, rename_layer}
use Rattle.sn_overlay_change.proofs.ChangeLemmas.{IsPlain, through_is, same_seen, plain_none, plain_changed, plain_changing, plain_touching, nodes_with, names_seen, nothing_hidden, none_under, none_in, counts_same, counts_less}

-- two names in a layer without other names
names_twice : (layer : Layer) (old new : Link) (number : ℕ) → layer.names ≡ map.empty → (q : Link) (below : Option ℕ)
    → name_seen (with_name (with_name layer old None) new (Some number)) q (map.get (map.insert (map.insert layer.names old None) new (Some number)) q) below
    ≡ cond (eq_by_cmp link_cmp q new) (Some number) (cond (eq_by_cmp link_cmp q old) None (cond (hides_names (map.get layer.nodes q.directory)) None below))
names_twice layer old new number none q below =
    ap (λ found. name_seen (with_name layer old None) q found below) (map.get-insert links_total (map.insert layer.names old None) new (Some number) q)
    ∙ told (eq_by_cmp link_cmp q new)
  where
    told : (b : Bool) → name_seen (with_name layer old None) q (cond b (Some (Some number)) (map.get (map.insert layer.names old None) q)) below ≡ cond b (Some number) (cond (eq_by_cmp link_cmp q old) None (cond (hides_names (map.get layer.nodes q.directory)) None below))
    told true = refl
    told false = names_seen layer old None none q below

-- what the new name gets hides what it had
exchanged_alike : (b c : Bool) (x seen left was : Option ℕ) → seen ≡ was → left ≡ cond b None was → cond b x (cond c None seen) ≡ cond b x (cond c None left)
exchanged_alike true c x seen left was h k = refl
exchanged_alike false c x seen left was h k = ap (cond c None) (h ∙ sym k)

-- a name that isn't there is as one that went
absent_alike : (tree : Tree) (link q : Link) → map.get tree.links link ≡ None → map.get tree.links q ≡ cond (eq_by_cmp link_cmp q link) None (map.get tree.links q)
absent_alike tree link q none = told (eq_by_cmp link_cmp q link) refl
  where
    told : (b : Bool) → eq_by_cmp link_cmp q link ≡ b → map.get tree.links q ≡ cond b None (map.get tree.links q)
    told true e = ap (map.get tree.links) (tells_apart exact_links q link e) ∙ none
    told false e = refl

module _ (tree : Tree) (old new : Link) (number : ℕ) where
  abbrev parents : Layer
  parents = touching tree new.directory (touching tree old.directory no_changes)

  plain_parents : IsPlain parents tree
  plain_parents = plain_changing (touching tree old.directory no_changes) tree new.directory (λ state. state) counts_same (plain_touching tree old.directory)

  abbrev with_both : Layer → Layer
  with_both layer = with_name (with_name layer old None) new (Some number)

  -- a layer in which the nodes of a tree are seen, and the tree without what had the new name
  both_show : (layer : Layer) (cleared : Tree) → layer.names ≡ map.empty
      → ((q : ℕ) → node_seen layer q (map.get layer.nodes q) (map.get tree.nodes q) ≡ map.get cleared.nodes q)
      → ((q : Link) → cond (hides_names (map.get layer.nodes q.directory)) None (map.get tree.links q) ≡ map.get tree.links q)
      → ((q : Link) → map.get cleared.links q ≡ cond (eq_by_cmp link_cmp q new) None (map.get tree.links q))
      → through (with_both layer) tree ≡ put_link (take_link cleared old) new number
  both_show layer cleared none nodes unhidden left = through_is (with_both layer) tree (put_link (take_link cleared old) new number)
      (λ q. same_seen (with_both layer) layer tree q refl ∙ nodes q)
      (λ q. names_twice layer old new number none q (map.get tree.links q)
      ∙ exchanged_alike (eq_by_cmp link_cmp q new) (eq_by_cmp link_cmp q old) (Some number) _ (map.get cleared.links q) (map.get tree.links q) (unhidden q) (left q)
      ∙ sym (map.get-insert links_total (map.remove cleared.links old) new number q ∙ ap (cond (eq_by_cmp link_cmp q new) (Some number)) (map.get-remove links_total cleared.links old q)))

  -- nothing had the new name
  free_shows : map.get tree.links new ≡ None → through (with_both parents) tree ≡ put_link (take_link tree old) new number
  free_shows none = both_show parents tree plain_parents.names plain_parents.nodes (nothing_hidden parents tree plain_parents.hides) (λ q. absent_alike tree new q none)

  -- what had the new name lost it
  abbrev lost : ℕ → Node → Bool → Layer
  lost n node b = with_node parents n (cond b (Gone false) (Changed (one_name_less (state_of tree n node))))

  lost_shows : (n : ℕ) (node : Node) (cleared : Tree) → map.get tree.nodes n ≡ Some node → Unlinked tree new n node cleared → through (with_both (lost n node (is_directory node.kind))) tree ≡ put_link (take_link cleared old) new number
  lost_shows n node cleared there (inl p) =
      ap (λ b. through (with_both (lost n node b)) tree) p.kind
      ∙ both_show (lost n node true) (take_node (take_link tree new) n) plain_parents.names
      (λ q. same_seen (lost n node true) parents tree q refl ∙ nodes_with parents tree n (Gone false) None plain_parents refl q ∙ sym (map.get-remove nat_cmp_total tree.nodes n q))
      (none_under parents tree n (Gone false) plain_parents.hides refl (none_in tree n p.empty))
      (λ q. map.get-remove links_total tree.links new q)
      ∙ ap (λ t. put_link (take_link t old) new number) p.gives
  lost_shows n node cleared there (inr p) =
      let layer = lost n node false in
      let plain = plain_changed parents tree n one_name_less node counts_less plain_parents there in
      ap (λ b. through (with_both (lost n node b)) tree) p.kind
      ∙ both_show layer (take_link tree new) plain.names plain.nodes (nothing_hidden layer tree plain.hides) (λ q. map.get-remove links_total tree.links new q)
      ∙ ap (λ t. put_link (take_link t old) new number) p.gives

  pub moved_shows : (moved : Node) (cleared : Tree) (found : Option ℕ) → map.get tree.links new ≡ found → replaced tree new moved found ≡ Some cleared → through (with_both (replacing tree parents found)) tree ≡ put_link (take_link cleared old) new number
  moved_shows moved cleared None named e = free_shows named ∙ ap (λ t. put_link (take_link t old) new number) (some_same _ _ e)
  moved_shows moved cleared (Some n) named e =
      let p = replaced_is tree new moved n cleared e in
      ap (λ node. through (with_both (without_name tree n parents node)) tree) p.there
      ∙ lost_shows n p.node cleared p.there (unlinked_is tree new n p.node cleared p.gone)

pub renames_show : (limits : Limits) (tree after : Tree) (old new : Link) → renamed limits tree old new ≡ Some after → through (rename_layer tree old new) tree ≡ after
renames_show limits tree after old new e = ap (λ found. through (renaming tree old new found) tree) p.named ∙ told p.done
  where
    p : Renamed limits tree old new after
    p = renamed_is limits tree old new after e

    told : IsRenamed limits tree old new p.number p.node after → through (renaming tree old new (Some p.number)) tree ≡ after
    told (inl q) = ap (λ b. through (cond b no_changes (exchange_layer tree old new p.number)) tree) q.0
        ∙ through_is no_changes tree tree (plain_none tree).nodes
        (λ l. ap (λ found. name_seen no_changes l found (map.get tree.links l)) (map.get-empty link_cmp l)
        ∙ nothing_hidden no_changes tree (plain_none tree).hides l)
        ∙ q.1
    told (inr q) = ap (λ b. through (cond b no_changes (exchange_layer tree old new p.number)) tree) q.0
        ∙ moved_shows tree old new p.number p.node (q.1).cleared (map.get tree.links new) refl (q.1).cleared_is
        ∙ (q.1).gives
