-- What is seen through the layer of a change of nodes and names.
use Rattle.std.proofs.Common.{◌≡◌, ℕ, ◌*◌, Bool, true, false, cond, ◌||◌, ◌&&◌, ◌==◌, nat_lt, nat_le, leb, [], length, Option, Some, None, is_none, is_some, refl, sym, ap, subst, ◌∙◌, inl, inr, arith}
use Rattle.std.specs.Prelude.{IsSomeAnd}
use Rattle.std.specs.Option.{unwrap_or}
use Rattle.std.specs.Ordering.{nat_cmp, eq_by_cmp}
use Rattle.std.proofs.lemmas.Map.Views.{tells_apart}
use Rattle.std.specs.Cmp.{nat_cmp_total}
use Rattle.std.specs.FinMap as map
use Rattle.std.proofs.lemmas.Bool.{true≢false, leb-true, eqb-true}
use Rattle.std.proofs.lemmas.Map.Lookups.{exact_unsigned}
use Rattle.sn_limits.specs.declared.kind.Kind.{Kind}
use Rattle.sn_limits.specs.declared.kind.Kind.TheVariants.{Directory}
use Rattle.sn_walk.specs.Views.{is_directory}
use Rattle.sn_limits.specs.declared.limits.Limits.{Limits}
use Rattle.sn_model.specs.declared.change.Ownership.{Ownership}
use Rattle.sn_model.specs.declared.link.Link.{Link}
use Rattle.sn_model.specs.Tree.{Node, Tree, link_cmp, names_in, names_for}
use Rattle.sn_model.specs.Changes.{is_file, is_free_number, node_with, put_node, put_link, take_link, take_node, owned, linked, made, removed, file_at}
use Rattle.sn_model.specs.NameTree.{IsHierarchy, HasKind}
use Rattle.sn_model.proofs.ChainLemmas.{and_left, and_right}
use Rattle.sn_model.proofs.NameLemmas.{not_in}
use Rattle.sn_model.proofs.PartLemmas.{owned_is, linked_is, made_is, removed_is, unlinked_is, file_is, DirectoryGone, NameGone, Unlinked}
use Rattle.sn_model.proofs.LinkLemmas.{exact_links, links_total}
use Rattle.sn_overlay.specs.declared.node.NodeChange.{NodeChange}
use Rattle.sn_overlay.specs.declared.node.NodeChange.TheVariants.{Gone, Changed}
use Rattle.sn_overlay.specs.declared.node.NodeState.{NodeState}
use Rattle.sn_overlay.specs.Pieces.{zeros, piece, joined}
use Rattle.sn_overlay.specs.Keys.{file_block_cmp, file_block_at}
use Rattle.sn_overlay.specs.Layers.{Layer, through, hides_names, hides_block, block_seen, bytes_of, node_seen, name_seen}
use Rattle.sn_overlay.specs.Overlays.{no_changes, with_node, with_name}
use Rattle.sn_overlay_change.specs.ChangeLayers.{state_of, new_state, with_change, changing, touching, one_name_more, one_name_less, without_name, removing, make_layer, link_layer, remove_layer, ownership_layer, with_ownership}
use Rattle.sn_overlay.proofs.PieceLemmas.{piece_past, length-joined, joined_alike, joined-piece}
use Rattle.sn_overlay.proofs.PutLemmas.{nothing_left}
use Rattle.sn_overlay.proofs.LayerLemmas.{get-through_nodes, get-through_links}

-- a tree is seen through a layer that shows its nodes and its names
pub through_is : (layer : Layer) (tree other : Tree)
    → ((q : ℕ) → node_seen layer q (map.get layer.nodes q) (map.get tree.nodes q) ≡ map.get other.nodes q)
    → ((q : Link) → name_seen layer q (map.get layer.names q) (map.get tree.links q) ≡ map.get other.links q)
    → through layer tree ≡ other
through_is layer tree other nodes links =
    let same_nodes : (through layer tree).nodes ≡ other.nodes = map.same_map nat_cmp_total exact_unsigned _ _ (λ q. get-through_nodes layer tree q ∙ nodes q) in
    let same_links : (through layer tree).links ≡ other.links = map.same_map links_total exact_links _ _ (λ q. get-through_links layer tree q ∙ links q) in
    λ i. record { nodes = same_nodes i; links = same_links i }

-- a node that is changed without its bytes keeps them
pub state_shown : (layer : Layer) (number : ℕ) (s : NodeState) (node : Node) → layer.blocks ≡ map.empty → s.size ≡ length node.bytes → s.cut ≡ length node.bytes → s.fresh ≡ false
    → node_seen layer number (Some (Changed s)) (Some node) ≡ Some (node_with s.kind s.ownership node.bytes)
state_shown layer number s node none size cut old = ap (λ bytes. Some (node_with s.kind s.ownership bytes))
    (joined_alike 4096 s.size (block_seen layer number s node.bytes) (piece 4096 node.bytes) piece_shown
    ∙ ap (λ n. joined 4096 n (piece 4096 node.bytes)) size ∙ joined-piece 4096 node.bytes (omega arith))
  where
    hidden : (index : ℕ) (b : Bool) → leb (length node.bytes) (index * 4096) ≡ b → cond b (zeros 4096) (piece 4096 node.bytes index) ≡ piece 4096 node.bytes index
    hidden index true e = sym (piece_past 4096 node.bytes index (leb-true (length node.bytes) (index * 4096) e))
    hidden index false e = refl

    piece_shown : (index : ℕ) → block_seen layer number s node.bytes index ≡ piece 4096 node.bytes index
    piece_shown index =
        ap (λ blocks. unwrap_or (map.get blocks (file_block_at number index)) (cond (hides_block (Some (Changed s)) index) (zeros 4096) (piece 4096 node.bytes index))) none
        ∙ ap (λ found. unwrap_or found (cond (hides_block (Some (Changed s)) index) (zeros 4096) (piece 4096 node.bytes index))) (map.get-empty file_block_cmp (file_block_at number index))
        ∙ ap (λ b. cond (b || leb s.cut (index * 4096)) (zeros 4096) (piece 4096 node.bytes index)) old
        ∙ ap (λ n. cond (leb n (index * 4096)) (zeros 4096) (piece 4096 node.bytes index)) cut
        ∙ hidden index (leb (length node.bytes) (index * 4096)) refl

-- what is seen of a node depends on the blocks alone
pub same_blocks : (a b : Layer) (q : ℕ) (change : Option NodeChange) (below : Option Node) → a.blocks ≡ b.blocks → node_seen a q change below ≡ node_seen b q change below
same_blocks a b q None below e = refl
same_blocks a b q (Some (Gone by_close)) below e = refl
same_blocks a b q (Some (Changed s)) below e = ap (λ blocks. Some (node_with s.kind s.ownership (joined 4096 s.size (λ index. unwrap_or (map.get blocks (file_block_at q index)) (cond (hides_block (Some (Changed s)) index) (zeros 4096) (piece 4096 (bytes_of below) index)))))) e

pub same_seen : (a b : Layer) (tree : Tree) (q : ℕ) → a.blocks ≡ b.blocks → node_seen a q (map.get a.nodes q) (map.get tree.nodes q) ≡ node_seen b q (map.get a.nodes q) (map.get tree.nodes q)
same_seen a b tree q e = same_blocks a b q (map.get a.nodes q) (map.get tree.nodes q) e

-- a layer through which nothing is another yet: what it has of nodes is as below
pub record IsPlain (layer : Layer) (tree : Tree) : Type 0 where
  pub nodes : (q : ℕ) → node_seen layer q (map.get layer.nodes q) (map.get tree.nodes q) ≡ map.get tree.nodes q
  pub names : layer.names ≡ map.empty
  pub blocks : layer.blocks ≡ map.empty
  pub hides : (q : ℕ) → hides_names (map.get layer.nodes q) ≡ false

pub plain_none : (tree : Tree) → IsPlain no_changes tree
plain_none tree = record {
  nodes = λ q. ap (λ c. node_seen no_changes q c (map.get tree.nodes q)) (map.get-empty nat_cmp q);
  names = refl;
  blocks = refl;
  hides = λ q. ap hides_names (map.get-empty nat_cmp q);
}

-- what is seen at each number once one of them has another change
pub nodes_with : (layer : Layer) (tree : Tree) (number : ℕ) (change : NodeChange) (seen : Option Node) → IsPlain layer tree → node_seen layer number (Some change) (map.get tree.nodes number) ≡ seen
    → (q : ℕ) → node_seen layer q (map.get (map.insert layer.nodes number change) q) (map.get tree.nodes q) ≡ cond (eq_by_cmp nat_cmp q number) seen (map.get tree.nodes q)
nodes_with layer tree number change seen plain is q = ap (λ c. node_seen layer q c (map.get tree.nodes q)) (map.get-insert nat_cmp_total layer.nodes number change q) ∙ told (eq_by_cmp nat_cmp q number) refl
  where
    told : (b : Bool) → eq_by_cmp nat_cmp q number ≡ b → node_seen layer q (cond b (Some change) (map.get layer.nodes q)) (map.get tree.nodes q) ≡ cond b seen (map.get tree.nodes q)
    told true e = ap (λ n. node_seen layer n (Some change) (map.get tree.nodes n)) (tells_apart exact_unsigned q number e) ∙ is
    told false e = plain.nodes q

pub hides_with : (layer : Layer) (number : ℕ) (change : NodeChange) → ((q : ℕ) → hides_names (map.get layer.nodes q) ≡ false)
    → (q : ℕ) → hides_names (map.get (map.insert layer.nodes number change) q) ≡ cond (eq_by_cmp nat_cmp q number) (hides_names (Some change)) false
hides_with layer number change none q = ap hides_names (map.get-insert nat_cmp_total layer.nodes number change q) ∙ told (eq_by_cmp nat_cmp q number)
  where
    told : (b : Bool) → hides_names (cond b (Some change) (map.get layer.nodes q)) ≡ cond b (hides_names (Some change)) false
    told true = refl
    told false = none q

same_there : (tree : Tree) (number : ℕ) (node : Node) (q : ℕ) → map.get tree.nodes number ≡ Some node → cond (eq_by_cmp nat_cmp q number) (Some node) (map.get tree.nodes q) ≡ map.get tree.nodes q
same_there tree number node q e = told (eq_by_cmp nat_cmp q number) refl
  where
    told : (b : Bool) → eq_by_cmp nat_cmp q number ≡ b → cond b (Some node) (map.get tree.nodes q) ≡ map.get tree.nodes q
    told true t = sym (ap (map.get tree.nodes) (tells_apart exact_unsigned q number t) ∙ e)
    told false t = refl

same_false : (b : Bool) → cond b false false ≡ false
same_false true = refl
same_false false = refl

-- a change of how many names a node has leaves it plain
abbrev pub CountsNames : (NodeState → NodeState) → Type 0
CountsNames f = (s : NodeState) → ((f s).kind ≡ s.kind) × ((f s).ownership ≡ s.ownership) × ((f s).size ≡ s.size) × ((f s).cut ≡ s.cut) × ((f s).fresh ≡ s.fresh)

pub counted_shown : (layer : Layer) (tree : Tree) (number : ℕ) (f : NodeState → NodeState) (node : Node) → CountsNames f → layer.blocks ≡ map.empty → node_seen layer number (Some (Changed (f (state_of tree number node)))) (Some node) ≡ Some node
counted_shown layer tree number f node same none =
    let s = same (state_of tree number node) in
    state_shown layer number (f (state_of tree number node)) node none s.2 s.3 s.4
    ∙ ap (λ k. Some (node_with k (f (state_of tree number node)).ownership node.bytes)) s.0
    ∙ ap (λ o. Some (node_with node.kind o node.bytes)) s.1

pub plain_changed : (layer : Layer) (tree : Tree) (number : ℕ) (f : NodeState → NodeState) (node : Node) → CountsNames f → IsPlain layer tree → map.get tree.nodes number ≡ Some node → IsPlain (with_node layer number (Changed (f (state_of tree number node)))) tree
plain_changed layer tree number f node same plain e = record {
  nodes = λ q. same_seen (with_node layer number (Changed (f (state_of tree number node)))) layer tree q refl ∙ nodes_with layer tree number (Changed (f (state_of tree number node))) (Some node) plain
      (ap (node_seen layer number (Some (Changed (f (state_of tree number node))))) e ∙ counted_shown layer tree number f node same plain.blocks) q
      ∙ same_there tree number node q e;
  names = plain.names;
  blocks = plain.blocks;
  hides = λ q. hides_with layer number (Changed (f (state_of tree number node))) plain.hides q
      ∙ ap (λ b. cond (eq_by_cmp nat_cmp q number) b false) (same (state_of tree number node)).4 ∙ same_false (eq_by_cmp nat_cmp q number);
}

pub plain_changing : (layer : Layer) (tree : Tree) (number : ℕ) (f : NodeState → NodeState) → CountsNames f → IsPlain layer tree → IsPlain (changing tree number f layer) tree
plain_changing layer tree number f same plain = told (map.get tree.nodes number) refl
  where
    told : (found : Option Node) → map.get tree.nodes number ≡ found → IsPlain (with_change tree number f layer found) tree
    told None e = plain
    told (Some node) e = plain_changed layer tree number f node same plain e

pub counts_same : CountsNames (λ state. state)
counts_same s = (refl, refl, refl, refl, refl)

pub plain_touching : (tree : Tree) (number : ℕ) → IsPlain (touching tree number no_changes) tree
plain_touching tree number = plain_changing no_changes tree number (λ state. state) counts_same (plain_none tree)

-- a name that is set or taken in a layer without other names
pub names_seen : (layer : Layer) (link : Link) (value : Option ℕ) → layer.names ≡ map.empty → (q : Link) (below : Option ℕ)
    → name_seen (with_name layer link value) q (map.get (map.insert layer.names link value) q) below ≡ cond (eq_by_cmp link_cmp q link) value (cond (hides_names (map.get layer.nodes q.directory)) None below)
names_seen layer link value none q below =
    ap (λ found. name_seen (with_name layer link value) q found below) (map.get-insert links_total layer.names link value q)
    ∙ ap (λ names. name_seen (with_name layer link value) q (cond (eq_by_cmp link_cmp q link) (Some value) (map.get names q)) below) none
    ∙ ap (λ found. name_seen (with_name layer link value) q (cond (eq_by_cmp link_cmp q link) (Some value) found) below) (map.get-empty link_cmp q)
    ∙ told (eq_by_cmp link_cmp q link)
  where
    told : (b : Bool) → name_seen (with_name layer link value) q (cond b (Some value) None) below ≡ cond b value (cond (hides_names (map.get layer.nodes q.directory)) None below)
    told true = refl
    told false = refl

-- the same where no name is hidden that was there
names_with : (layer : Layer) (tree : Tree) (link : Link) (value : Option ℕ) → layer.names ≡ map.empty → ((q : Link) → cond (hides_names (map.get layer.nodes q.directory)) None (map.get tree.links q) ≡ map.get tree.links q)
    → (q : Link) → name_seen (with_name layer link value) q (map.get (map.insert layer.names link value) q) (map.get tree.links q) ≡ cond (eq_by_cmp link_cmp q link) value (map.get tree.links q)
names_with layer tree link value none hides q = names_seen layer link value none q (map.get tree.links q) ∙ ap (cond (eq_by_cmp link_cmp q link) value) (hides q)

pub nothing_hidden : (layer : Layer) (tree : Tree) → ((q : ℕ) → hides_names (map.get layer.nodes q) ≡ false) → (q : Link) → cond (hides_names (map.get layer.nodes q.directory)) None (map.get tree.links q) ≡ map.get tree.links q
nothing_hidden layer tree hides q = ap (λ b. cond b None (map.get tree.links q)) (hides q.directory)

-- a number in which no names were hides none of them
pub none_under : (layer : Layer) (tree : Tree) (number : ℕ) (change : NodeChange) → ((q : ℕ) → hides_names (map.get layer.nodes q) ≡ false) → hides_names (Some change) ≡ true
    → ((q : Link) → q.directory ≡ number → map.get tree.links q ≡ None)
    → (q : Link) → cond (hides_names (map.get (map.insert layer.nodes number change) q.directory)) None (map.get tree.links q) ≡ map.get tree.links q
none_under layer tree number change hides anew none q =
    ap (λ b. cond b None (map.get tree.links q)) (hides_with layer number change hides q.directory ∙ ap (λ b. cond (eq_by_cmp nat_cmp q.directory number) b false) anew)
    ∙ told (eq_by_cmp nat_cmp q.directory number) refl
  where
    told : (b : Bool) → eq_by_cmp nat_cmp q.directory number ≡ b → cond (cond b true false) None (map.get tree.links q) ≡ map.get tree.links q
    told true e = sym (none q (tells_apart exact_unsigned q.directory number e))
    told false e = refl

-- set attributes
pub attributes_show : (tree after : Tree) (number : ℕ) (o : Ownership) → owned tree number o ≡ Some after → through (ownership_layer tree number o) tree ≡ after
attributes_show tree after number o e =
    let p = owned_is tree number o after e in
    let node = p.node in
    let s = with_ownership o (state_of tree number node) in
    let plain = plain_none tree in
    ap (λ found. through (with_change tree number (with_ownership o) no_changes found) tree) p.there
    ∙ through_is (with_node no_changes number (Changed s)) tree (put_node tree number (node_with node.kind o node.bytes))
    (λ q. same_seen (with_node no_changes number (Changed s)) no_changes tree q refl
    ∙ nodes_with no_changes tree number (Changed s) (Some (node_with node.kind o node.bytes)) plain
    (ap (node_seen no_changes number (Some (Changed s))) p.there ∙ state_shown no_changes number s node refl refl refl refl) q
    ∙ sym (map.get-insert nat_cmp_total tree.nodes number (node_with node.kind o node.bytes) q))
    (λ q. ap (λ found. name_seen (with_node no_changes number (Changed s)) q found (map.get tree.links q)) (map.get-empty link_cmp q)
    ∙ ap (λ b. cond b None (map.get tree.links q)) (hides_with no_changes number (Changed s) plain.hides q.directory ∙ same_false (eq_by_cmp nat_cmp q.directory number)))
    ∙ p.gives

pub counts_more : CountsNames one_name_more
counts_more s = (refl, refl, refl, refl, refl)

pub counts_less : CountsNames one_name_less
counts_less s = (refl, refl, refl, refl, refl)

-- one more name of a file
pub links_show : (limits : Limits) (tree after : Tree) (link : Link) (number : ℕ) → linked limits tree link number ≡ Some after → through (link_layer tree link number) tree ≡ after
links_show limits tree after link number e =
    let layer = changing tree number one_name_more (touching tree link.directory no_changes) in
    let plain = plain_changing (touching tree link.directory no_changes) tree number one_name_more counts_more (plain_touching tree link.directory) in
    through_is (with_name layer link (Some number)) tree (put_link tree link number)
    (λ q. same_seen (with_name layer link (Some number)) layer tree q refl ∙ plain.nodes q)
    (λ q. names_with layer tree link (Some number) plain.names (nothing_hidden layer tree plain.hides) q ∙ sym (map.get-insert links_total tree.links link number q))
    ∙ (linked_is limits tree link number after e).gives

-- a free number is no directory's
pub not_a_directory : (limits : Limits) (tree : Tree) (number : ℕ) → is_free_number limits tree number ≡ true → HasKind tree number Directory → ⊥
not_a_directory limits tree number e = told (map.get tree.nodes number) refl (and_right (nat_lt 2 number && nat_le number limits.largest_number) _ e)
  where
    of_file : (found : Option Node) → file_at tree number ≡ found → is_some found ≡ true → IsSomeAnd (map.get tree.nodes number) (λ x. x.kind ≡ Directory) → ⊥
    of_file None f g h = true≢false (sym g)
    of_file (Some y) f g h =
        let is = file_is tree number y f in
        let kind : y.kind ≡ Directory = subst (λ (o : Option Node). IsSomeAnd o (λ x. x.kind ≡ Directory)) is.0 h in
        true≢false (sym is.1 ∙ ap is_file kind)

    told : (found : Option Node) → map.get tree.nodes number ≡ found → (is_none found || (is_some (file_at tree number) && (names_for tree number == 0))) ≡ true → IsSomeAnd (map.get tree.nodes number) (λ x. x.kind ≡ Directory) → ⊥
    told None f g h = subst (λ (o : Option Node). IsSomeAnd o (λ x. x.kind ≡ Directory)) f h
    told (Some x) f g h = of_file (file_at tree number) refl (and_left (is_some (file_at tree number)) (names_for tree number == 0) g) h

-- a number that isn't a directory's has no names in it
pub no_names : (tree : Tree) (number : ℕ) → IsHierarchy tree → (HasKind tree number Directory → ⊥) → (q : Link) → q.directory ≡ number → map.get tree.links q ≡ None
no_names tree number h file q same = told (map.get tree.links q) refl
  where
    told : (found : Option ℕ) → map.get tree.links q ≡ found → found ≡ None
    told None e = refl
    told (Some n) e = absurd (file (subst (λ (d : ℕ). HasKind tree d Directory) same (h.held q n e)))

-- a new node under a new name
pub makes_show : (limits : Limits) (tree after : Tree) (link : Link) (number : ℕ) (kind : Kind) (o : Ownership) → IsHierarchy tree → made limits tree link number kind o ≡ Some after → through (make_layer tree link number kind o) tree ≡ after
makes_show limits tree after link number kind o h e =
    let p = made_is limits tree link number kind o after e in
    let parent = touching tree link.directory no_changes in
    let plain = plain_touching tree link.directory in
    let change = Changed (new_state kind o) in
    let layer = with_node parent number change in
    through_is (with_name layer link (Some number)) tree (put_link (put_node tree number (node_with kind o [])) link number)
    (λ q. same_seen (with_name layer link (Some number)) parent tree q refl
    ∙ nodes_with parent tree number change (Some (node_with kind o [])) plain
    (ap (λ bytes. Some (node_with kind o bytes)) (nothing_left _ (length-joined 4096 0 (block_seen parent number (new_state kind o) (bytes_of (map.get tree.nodes number)))))) q
    ∙ sym (map.get-insert nat_cmp_total tree.nodes number (node_with kind o []) q))
    (λ q. names_with layer tree link (Some number) plain.names (none_under parent tree number change plain.hides refl (no_names tree number h (not_a_directory limits tree number p.free))) q
    ∙ sym (map.get-insert links_total tree.links link number q))
    ∙ p.gives

-- no names are in what counts none
pub none_in : (tree : Tree) (number : ℕ) → (names_in tree number == 0) ≡ true → (q : Link) → q.directory ≡ number → map.get tree.links q ≡ None
none_in tree number empty q same = told (map.get tree.links q) refl
  where
    told : (found : Option ℕ) → map.get tree.links q ≡ found → found ≡ None
    told None e = refl
    told (Some n) e = absurd (not_in tree number (eqb-true (names_in tree number) 0 empty) q n e same)

-- a name is removed, and a directory with it
module _ (tree after : Tree) (link : Link) (number : ℕ) (node : Node) (there : map.get tree.nodes number ≡ Some node) where
  abbrev parent : Layer
  parent = touching tree link.directory no_changes

  abbrev lost : Bool → Layer
  lost b = with_name (with_node parent number (cond b (Gone false) (Changed (one_name_less (state_of tree number node))))) link None

  directory_shows : DirectoryGone tree link number node after → through (lost true) tree ≡ after
  directory_shows p =
      let plain = plain_touching tree link.directory in
      through_is (lost true) tree (take_node (take_link tree link) number)
      (λ q. same_seen (lost true) parent tree q refl ∙ nodes_with parent tree number (Gone false) None plain refl q ∙ sym (map.get-remove nat_cmp_total tree.nodes number q))
      (λ q. names_with (with_node parent number (Gone false)) tree link None plain.names (none_under parent tree number (Gone false) plain.hides refl (none_in tree number p.empty)) q
      ∙ sym (map.get-remove links_total tree.links link q))
      ∙ p.gives

  name_shows : NameGone tree link node after → through (lost false) tree ≡ after
  name_shows p =
      let layer = with_node parent number (Changed (one_name_less (state_of tree number node))) in
      let plain = plain_changed parent tree number one_name_less node counts_less (plain_touching tree link.directory) there in
      through_is (lost false) tree (take_link tree link)
      (λ q. same_seen (lost false) layer tree q refl ∙ plain.nodes q)
      (λ q. names_with layer tree link None plain.names (nothing_hidden layer tree plain.hides) q ∙ sym (map.get-remove links_total tree.links link q))
      ∙ p.gives

  lost_shows : Unlinked tree link number node after → through (lost (is_directory node.kind)) tree ≡ after
  lost_shows (inl p) = ap (λ b. through (lost b) tree) p.kind ∙ directory_shows p
  lost_shows (inr p) = ap (λ b. through (lost b) tree) p.kind ∙ name_shows p

pub removes_show : (tree after : Tree) (link : Link) → removed tree link ≡ Some after → through (remove_layer tree link) tree ≡ after
removes_show tree after link e =
    let p = removed_is tree link after e in
    ap (λ found. through (removing tree link found) tree) p.named
    ∙ ap (λ found. through (with_name (without_name tree p.number (touching tree link.directory no_changes) found) link None) tree) p.there
    ∙ lost_shows tree after link p.number p.node p.there (unlinked_is tree link p.number p.node after p.gone)
