-- The layer in which a file is gone.
use Rattle.std.proofs.Common.{◌≡◌, ◌≢◌, ℕ, ◌+◌, ◌*◌, Bool, cond, eqb, List, Option, Some, None, is_some, refl, sym, ap, subst, ◌∙◌, ◌⊎◌, inl, inr}
use Rattle.std.specs.Prelude.{IsSomeAnd}
use Rattle.std.specs.Ordering.{nat_cmp}
use Rattle.std.specs.Cmp.{nat_cmp_total}
use Rattle.std.specs.FinMap as map
use Rattle.std.proofs.lemmas.Bool.{true≢false}
use Rattle.std.proofs.lemmas.Map.Lookups.{exact_unsigned}
use Rattle.sn_limits.specs.declared.kind.Kind.TheVariants.{File, Directory}
use Rattle.sn_limits.specs.declared.limits.Limits.{Limits}
use Rattle.sn_model.specs.declared.link.Link.{Link}
use Rattle.sn_model.specs.Tree.{Node, Tree, link_cmp, names_for}
use Rattle.sn_model.specs.Changes.{take_node}
use Rattle.sn_model.specs.NameTree.{IsHierarchy, HasKind}
use Rattle.sn_model.proofs.ChainLemmas.{some_same, some_none}
use Rattle.sn_model.proofs.LinkLemmas.{exact_links, links_total}
use Rattle.sn_model.proofs.MapLemmas.{same_or_apart, get_inserted, get_other, get_removed, get_left}
use Rattle.sn_overlay.specs.declared.node.NodeChange.{NodeChange}
use Rattle.sn_overlay.specs.declared.node.NodeChange.TheVariants.{Gone, Changed}
use Rattle.sn_overlay.specs.declared.node.NodeState.{NodeState}
use Rattle.sn_overlay.specs.Keys.{file_block_cmp}
use Rattle.sn_overlay.specs.Layers.{Layer, through, node_seen, name_seen, hides_names}
use Rattle.sn_overlay.specs.Needs.{levels, need, need_of, counts}
use Rattle.sn_overlay.specs.Overlays.{gone}
use Rattle.sn_overlay.specs.Seen.{LiesOver}
use Rattle.sn_overlay.proofs.LayerLemmas.{get-through_nodes, get-through_links}

module _ (number : ℕ) (by_close : Bool) where
  abbrev dropped : Layer
  dropped = gone number by_close

  is_gone : map.get dropped.nodes number ≡ Some (Gone by_close)
  is_gone = get_inserted nat_cmp_total map.empty number (Gone by_close)

  is_other : (q : ℕ) → q ≢ number → map.get dropped.nodes q ≡ None
  is_other q apart = get_other nat_cmp_total exact_unsigned map.empty number (Gone by_close) q apart ∙ map.get-empty nat_cmp q

  none_changed : (q : ℕ) (state : NodeState) → map.get dropped.nodes q ≡ Some (Changed state) → ⊥
  none_changed q state e = told (same_or_apart nat_cmp_total exact_unsigned q number)
    where
      told : (q ≡ number) ⊎ (q ≢ number) → ⊥
      told (inl same) = let never : Gone by_close ≡ Changed state = some_same _ _ (sym is_gone ∙ ap (map.get dropped.nodes) (sym same) ∙ e) in cc
      told (inr apart) = some_none _ _ e (is_other q apart)

  module _ (tree : Tree) where
    node_left : (q : ℕ) → map.get (through dropped tree).nodes q ≡ map.get (take_node tree number).nodes q
    node_left q = get-through_nodes dropped tree q ∙ told (same_or_apart nat_cmp_total exact_unsigned q number)
      where
        told : (q ≡ number) ⊎ (q ≢ number) → node_seen dropped q (map.get dropped.nodes q) (map.get tree.nodes q) ≡ map.get (map.remove tree.nodes number) q
        told (inl same) = ap (λ c. node_seen dropped q c (map.get tree.nodes q)) (ap (map.get dropped.nodes) same ∙ is_gone) ∙ sym (ap (map.get (map.remove tree.nodes number)) same ∙ get_removed nat_cmp_total tree.nodes number)
        told (inr apart) = ap (λ c. node_seen dropped q c (map.get tree.nodes q)) (is_other q apart) ∙ sym (get_left nat_cmp_total exact_unsigned tree.nodes number q apart)

    -- no name is in a file
    file_holds_none : IsHierarchy tree → HasKind tree number File → (link : Link) (other : ℕ) → map.get tree.links link ≡ Some other → link.directory ≢ number
    file_holds_none h file link other e same = told (map.get tree.nodes number) file (subst (λ q. HasKind tree q Directory) same (h.held link other e))
      where
        told : (found : Option Node) → IsSomeAnd found (λ node. node.kind ≡ File) → IsSomeAnd found (λ node. node.kind ≡ Directory) → ⊥
        told None f d = f
        told (Some node) f d = let never : File ≡ Directory = sym f ∙ d in cc

    name_left : IsHierarchy tree → HasKind tree number File → (link : Link) → map.get (through dropped tree).links link ≡ map.get tree.links link
    name_left h file link =
        get-through_links dropped tree link
        ∙ ap (λ x. name_seen dropped link x (map.get tree.links link)) (map.get-empty link_cmp link)
        ∙ told (map.get tree.links link) refl (same_or_apart nat_cmp_total exact_unsigned link.directory number)
      where
        told : (found : Option ℕ) → map.get tree.links link ≡ found → (link.directory ≡ number) ⊎ (link.directory ≢ number) → cond (hides_names (map.get dropped.nodes link.directory)) None found ≡ found
        told None e (inl same) = ap (λ c. cond (hides_names c) None None) (ap (map.get dropped.nodes) same ∙ is_gone)
        told (Some other) e (inl same) = absurd (file_holds_none h file link other e same)
        told found e (inr apart) = ap (λ c. cond (hides_names c) None found) (is_other link.directory apart)

    pub drops_show : IsHierarchy tree → HasKind tree number File → through dropped tree ≡ take_node tree number
    drops_show h file =
        let nodes : (through dropped tree).nodes ≡ (take_node tree number).nodes = map.same_map nat_cmp_total exact_unsigned _ _ node_left in
        let links : (through dropped tree).links ≡ (take_node tree number).links = map.same_map links_total exact_links _ _ (name_left h file) in
        λ i. record { nodes = nodes i; links = links i }

    pub drops_lie : IsHierarchy tree → HasKind tree number File → LiesOver dropped tree
    drops_lie h file = record {
      whole = record {
        names = λ link e. absurd (true≢false (sym e ∙ ap is_some (map.get-empty link_cmp link)));
        blocks = λ file_block e. absurd (true≢false (sym e ∙ ap is_some (map.get-empty file_block_cmp file_block)));
        lengths = λ file_block bytes e. absurd (some_none _ _ e (map.get-empty file_block_cmp file_block));
        begins = λ file_block state e f. absurd (none_changed file_block.file state f);
        cuts = λ q state e. absurd (none_changed q state e);
      };
      fits = record {
        kinds = λ q state e. absurd (none_changed q state e);
        acls = λ q state e. absurd (none_changed q state e);
        zeros = λ q state index at e. absurd (none_changed q state e);
      };
      counts = record {
        changed = λ q state e. absurd (none_changed q state e);
        others = λ q e. ap (λ (t : Tree). names_for t q) (drops_show h file);
      };
    }

pub drops_need : (limits : Limits) (number : ℕ) (by_close : Bool) → need limits (gone number by_close) ≡ need_of limits (counts 1 0 0)
drops_need limits number by_close = counted (levels limits) (map.len (gone number by_close).nodes) (map.len (gone number by_close).names) (map.len (gone number by_close).blocks) one (map.len-empty link_cmp (Option ℕ)) (map.len-empty file_block_cmp (List ℕ))
  where
    one : map.len (gone number by_close).nodes ≡ 1
    one = map.len-insert nat_cmp_total map.empty number (Gone by_close)
        ∙ ap (λ (found : Option NodeChange). cond (is_some found) (map.len (map.empty {X = NodeChange} {R = nat_cmp})) (map.len (map.empty {X = NodeChange} {R = nat_cmp}) + 1)) (map.get-empty nat_cmp number)
        ∙ ap (λ (n : ℕ). n + 1) (map.len-empty nat_cmp NodeChange)

    counted : (l n m b : ℕ) → n ≡ 1 → m ≡ 0 → b ≡ 0 → (3 + l) * n + l * (m + b) + cond (eqb n 0) 0 2 ≡ (3 + l) * 1 + l * (0 + 0) + cond (eqb 1 0) 0 2
    counted l n m b e f g = λ i. (3 + l) * e i + l * (f i + g i) + cond (eqb (e i) 0) 0 2
