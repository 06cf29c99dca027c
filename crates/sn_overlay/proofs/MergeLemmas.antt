-- The merge of two layers shows what both show.
use Rattle.std.proofs.Common.{◌≡◌, ℕ, ◌+◌, ◌*◌, ◌<◌, ◌≤◌, Bool, true, false, cond, ◌||◌, leb, List, [], length, get_or, Option, Some, None, is_some, min, refl, sym, ap, subst, ◌∙◌, ◌⊎◌, inl, inr, arith}
use Rattle.std.specs.Option.{option_map, unwrap_or}
use Rattle.std.specs.Cmp.{nat_cmp_total}
use Rattle.std.specs.FinMap as map
use Rattle.std.proofs.lemmas.Bool.{true≢false}
use Rattle.std.proofs.lemmas.Bool.Decides.{nat_tests}
use Rattle.std.proofs.lemmas.Map.Lookups.{exact_unsigned}
use Rattle.sn_acl.specs.declared.entries.Entry.{Entry}
use Rattle.sn_model.specs.declared.link.Link.{Link}
use Rattle.sn_model.specs.Tree.{Node, Tree}
use Rattle.sn_model.specs.Changes.{node_with}
use Rattle.sn_model.proofs.LinkLemmas.{exact_links, links_total}
use Rattle.sn_model.proofs.ChainLemmas.{some_same, some_none}
use Rattle.sn_overlay.specs.declared.file_block.FileBlock.{FileBlock}
use Rattle.sn_overlay.specs.declared.node.NodeChange.{NodeChange}
use Rattle.sn_overlay.specs.declared.node.NodeChange.TheVariants.{Gone, Changed}
use Rattle.sn_overlay.specs.declared.node.NodeState.{NodeState}
use Rattle.sn_overlay.specs.Pieces.{zeros, piece, joined}
use Rattle.sn_overlay.specs.Keys.{file_block_at}
use Rattle.sn_overlay.specs.Layers.{Layer, IsLayer, Fits, through, hides_names, hides_block, block_seen, bytes_of, acls_of, node_seen, name_seen}
use Rattle.sn_overlay.specs.Merges.{merge, state_over}
use Rattle.sn_overlay.proofs.PieceLemmas.{length-zeros, length-piece, joined_alike, piece-joined}
use Rattle.sn_overlay.proofs.LayerLemmas.{get-through_nodes, get-through_links, get-merge_nodes, get-merge_names, get-merge_blocks, nodes_over, kept_under}

-- what a lesser cut hides
hidden_still : (f g : Bool) (a b x : ℕ) → (g || leb b x) ≡ true → ((f || g) || leb (min a b) x) ≡ true
hidden_still true g a b x h = refl
hidden_still false true a b x h = refl
hidden_still false false a b x h = grind (arith, nat_tests)

hidden_by_older : (f g : Bool) (a b x : ℕ) → (g || leb b x) ≡ false → ((f || g) || leb (min a b) x) ≡ (f || leb a x)
hidden_by_older true g a b x h = refl
hidden_by_older false true a b x h = absurd (true≢false h)
hidden_by_older false false a b x h = less (leb a x) refl
  where
    less : (t : Bool) → leb a x ≡ t → leb (min a b) x ≡ leb a x
    less true e = grind (arith, nat_tests)
    less false e = grind (arith, nat_tests)

or_false : (b : Bool) → (b || false) ≡ b
or_false true = refl
or_false false = refl

first_part : (a b : Bool) → (a || b) ≡ false → a ≡ false
first_part true b h = absurd (true≢false h)
first_part false b h = refl

second_part : (a b : Bool) → (a || b) ≡ false → b ≡ false
second_part true b h = absurd (true≢false h)
second_part false b h = h

neither : (a b : Bool) → (a || b) ≡ false → (a ≡ false) × (b ≡ false)
neither a b h = (first_part a b h, second_part a b h)

told_some : {A B : Type 0} (f : A → B) (x : Option A) (y : B) → option_map f x ≡ Some y → is_some x ≡ true
told_some f None y h = absurd (some_none _ _ refl (sym h))
told_some f (Some x) y h = refl

-- What a layer says of the node below, unless it says that the two may differ.
record Tells {A : Type 0} (of_node : Node → A) (of_state : NodeState → A) (apart : NodeState → Bool) : Type 0 where
  shown : (s : NodeState) (bytes : List ℕ) → of_node (node_with s.kind s.ownership bytes) ≡ of_state s
  over : (o s : NodeState) → of_state (state_over o s) ≡ of_state s
  parts : (o s : NodeState) → apart (state_over o s) ≡ false → (apart o ≡ false) × (apart s ≡ false)
  old : (s : NodeState) → apart s ≡ false → s.fresh ≡ false

tells_kinds : Tells (λ (node : Node). node.kind) (λ (s : NodeState). s.kind) (λ (s : NodeState). s.fresh)
tells_kinds = record { shown = λ s bytes. refl; over = λ o s. refl; parts = λ o s h. neither o.fresh s.fresh h; old = λ s h. h }

abbrev acls_told : NodeState → List Entry × Option (List Entry)
acls_told s = (s.ownership.acl, s.ownership.default_acl)

abbrev apart_acls : NodeState → Bool
apart_acls s = s.fresh || s.acl_changed

tells_acls : Tells acls_of acls_told apart_acls
tells_acls = record {
  shown = λ s bytes. refl;
  over = λ o s. refl;
  parts = λ o s h.
      let both = neither (o.fresh || s.fresh) (o.acl_changed || s.acl_changed) h in
      let fresh = neither o.fresh s.fresh both.0 in
      let acl = neither o.acl_changed s.acl_changed both.1 in
      (ap (λ b. b || o.acl_changed) fresh.0 ∙ acl.0, ap (λ b. b || s.acl_changed) fresh.1 ∙ acl.1);
  old = λ s h. first_part s.fresh s.acl_changed h;
}

absent : {A : Type 0} (x : Option A) (b : Bool) → (is_some x ≡ true → b ≡ true) → b ≡ false → x ≡ None
absent None b h e = refl
absent (Some x) b h e = absurd (true≢false (sym (h refl) ∙ e))

-- a number that a layer doesn't have has no block and no name in it
unstored : (layer : Layer) → IsLayer layer → (number index : ℕ) → map.get layer.nodes number ≡ None → map.get layer.blocks (file_block_at number index) ≡ None
unstored layer h number index e = absent _ _ (h.blocks (file_block_at number index)) (ap is_some e)

unnamed : (layer : Layer) → IsLayer layer → (link : Link) → map.get layer.nodes link.directory ≡ None → map.get layer.names link ≡ None
unnamed layer h link e = absent _ _ (h.names link) (ap is_some e)

under_hidden : {X : Type 0} (x y : Option X) (z : X) → unwrap_or (kept_under x true y) z ≡ unwrap_or x z
under_hidden None y z = refl
under_hidden (Some x) y z = refl

under_seen : {X : Type 0} (x y : Option X) (z : X) → unwrap_or (kept_under x false y) z ≡ unwrap_or x (unwrap_or y z)
under_seen None y z = refl
under_seen (Some x) y z = refl

module _ (older newer : Layer) (ho : IsLayer older) (hn : IsLayer newer) where
  stored : (number index : ℕ) (change : Option NodeChange) → map.get newer.nodes number ≡ change → map.get (merge older newer).blocks (file_block_at number index) ≡ kept_under (map.get newer.blocks (file_block_at number index)) (hides_block change index) (map.get older.blocks (file_block_at number index))
  stored number index change e = get-merge_blocks older newer (file_block_at number index)
      ∙ ap (λ c. kept_under (map.get newer.blocks (file_block_at number index)) (hides_block c index) (map.get older.blocks (file_block_at number index))) e

  -- a number that the newer one doesn't have
  pub block_below : (number index : ℕ) (state : NodeState) (bytes : List ℕ) → map.get newer.nodes number ≡ None → block_seen (merge older newer) number state bytes index ≡ block_seen older number state bytes index
  block_below number index state bytes e = ap (λ b. unwrap_or b (cond (hides_block (Some (Changed state)) index) (zeros 4096) (piece 4096 bytes index)))
      (stored number index None e ∙ ap (λ b. kept_under b false (map.get older.blocks (file_block_at number index))) (unstored newer hn number index e))

  -- a number that the older one doesn't have
  pub block_above : (number index : ℕ) (state : NodeState) (bytes : List ℕ) → map.get older.nodes number ≡ None → map.get newer.nodes number ≡ Some (Changed state) → block_seen (merge older newer) number state bytes index ≡ block_seen newer number state bytes index
  block_above number index state bytes e f = ap (λ b. unwrap_or b (cond (hides_block (Some (Changed state)) index) (zeros 4096) (piece 4096 bytes index)))
      (stored number index (Some (Changed state)) f ∙ ap (kept_under (map.get newer.blocks (file_block_at number index)) (hides_block (Some (Changed state)) index)) (unstored older ho number index e) ∙ alone (map.get newer.blocks (file_block_at number index)) (hides_block (Some (Changed state)) index))
    where
      alone : {X : Type 0} (x : Option X) (b : Bool) → kept_under x b None ≡ x
      alone (Some x) b = refl
      alone None true = refl
      alone None false = refl

  -- a number that was made anew
  pub block_fresh : (number index : ℕ) (state : NodeState) (bytes other : List ℕ) → map.get newer.nodes number ≡ Some (Changed state) → state.fresh ≡ true → block_seen (merge older newer) number state bytes index ≡ block_seen newer number state other index
  block_fresh number index state bytes other e f =
      let hidden : hides_block (Some (Changed state)) index ≡ true = ap (λ b. b || leb state.cut (index * 4096)) f in
      ap (λ h. unwrap_or (map.get (merge older newer).blocks (file_block_at number index)) (cond h (zeros 4096) (piece 4096 bytes index))) hidden
      ∙ ap (λ b. unwrap_or b (zeros 4096)) (stored number index (Some (Changed state)) e ∙ ap (λ h. kept_under (map.get newer.blocks (file_block_at number index)) h (map.get older.blocks (file_block_at number index))) hidden)
      ∙ under_hidden (map.get newer.blocks (file_block_at number index)) (map.get older.blocks (file_block_at number index)) (zeros 4096)
      ∙ sym (ap (λ h. unwrap_or (map.get newer.blocks (file_block_at number index)) (cond h (zeros 4096) (piece 4096 other index))) hidden)

  block_long : (number index : ℕ) (state : NodeState) (bytes : List ℕ) → length (block_seen older number state bytes index) ≡ 4096
  block_long number index state bytes = told (map.get older.blocks (file_block_at number index)) refl (hides_block (Some (Changed state)) index)
    where
      told : (x : Option (List ℕ)) → map.get older.blocks (file_block_at number index) ≡ x → (b : Bool) → length (unwrap_or x (cond b (zeros 4096) (piece 4096 bytes index))) ≡ 4096
      told (Some block) e b = ho.lengths (file_block_at number index) block e
      told None e true = length-zeros 4096
      told None e false = length-piece 4096 bytes index

  -- a number that both have
  pub block_over : (number index : ℕ) (old new : NodeState) (bytes : List ℕ) → map.get newer.nodes number ≡ Some (Changed new)
      → ((at : ℕ) → at < 4096 → old.size ≤ index * 4096 + at → get_or (block_seen older number old bytes index) at 0 ≡ 0)
      → block_seen (merge older newer) number (state_over old new) bytes index ≡ block_seen newer number new (joined 4096 old.size (block_seen older number old bytes)) index
  block_over number index old new bytes e past = told (hides_block (Some (Changed new)) index) refl
    where
      told : (h : Bool) → hides_block (Some (Changed new)) index ≡ h → block_seen (merge older newer) number (state_over old new) bytes index ≡ block_seen newer number new (joined 4096 old.size (block_seen older number old bytes)) index
      told true h =
          ap (λ b. unwrap_or (map.get (merge older newer).blocks (file_block_at number index)) (cond b (zeros 4096) (piece 4096 bytes index))) (hidden_still old.fresh new.fresh old.cut new.cut (index * 4096) h)
          ∙ ap (λ b. unwrap_or b (zeros 4096)) (stored number index (Some (Changed new)) e ∙ ap (λ b. kept_under (map.get newer.blocks (file_block_at number index)) b (map.get older.blocks (file_block_at number index))) h)
          ∙ under_hidden (map.get newer.blocks (file_block_at number index)) (map.get older.blocks (file_block_at number index)) (zeros 4096)
          ∙ sym (ap (λ b. unwrap_or (map.get newer.blocks (file_block_at number index)) (cond b (zeros 4096) (piece 4096 (joined 4096 old.size (block_seen older number old bytes)) index))) h)
      told false h =
          ap (λ b. unwrap_or (map.get (merge older newer).blocks (file_block_at number index)) (cond b (zeros 4096) (piece 4096 bytes index))) (hidden_by_older old.fresh new.fresh old.cut new.cut (index * 4096) h)
          ∙ ap (λ b. unwrap_or b (cond (hides_block (Some (Changed old)) index) (zeros 4096) (piece 4096 bytes index))) (stored number index (Some (Changed new)) e ∙ ap (λ b. kept_under (map.get newer.blocks (file_block_at number index)) b (map.get older.blocks (file_block_at number index))) h)
          ∙ under_seen (map.get newer.blocks (file_block_at number index)) (map.get older.blocks (file_block_at number index)) (cond (hides_block (Some (Changed old)) index) (zeros 4096) (piece 4096 bytes index))
          ∙ ap (unwrap_or (map.get newer.blocks (file_block_at number index))) (sym (piece-joined 4096 old.size (block_seen older number old bytes) index (block_long number index old bytes) past))
          ∙ sym (ap (λ b. unwrap_or (map.get newer.blocks (file_block_at number index)) (cond b (zeros 4096) (piece 4096 (joined 4096 old.size (block_seen older number old bytes)) index))) h)

  module _ (tree : Tree) (fo : Fits older tree) (fn : Fits newer (through older tree)) where
    -- what isn't made anew is seen below
    not_gone : (number : ℕ) (state : NodeState) (change : Option NodeChange) → map.get older.nodes number ≡ change → map.get newer.nodes number ≡ Some (Changed state) → state.fresh ≡ false → is_some (node_seen older number change (map.get tree.nodes number)) ≡ true
    not_gone number state change e f g = ap (λ c. is_some (node_seen older number c (map.get tree.nodes number))) (sym e) ∙ ap is_some (sym (get-through_nodes older tree number)) ∙ told_some (λ (node : Node). node.kind) _ _ (fn.kinds number state f g)

    node_over : (number : ℕ) (old new : Option NodeChange) → map.get older.nodes number ≡ old → map.get newer.nodes number ≡ new
        → node_seen (merge older newer) number (nodes_over old new) (map.get tree.nodes number) ≡ node_seen newer number new (node_seen older number old (map.get tree.nodes number))
    node_over number None None e f = refl
    node_over number (Some (Gone by_close)) None e f = refl
    node_over number (Some (Changed s)) None e f = ap (λ b. Some (node_with s.kind s.ownership b)) (joined_alike 4096 s.size _ _ (λ index. block_below number index s (bytes_of (map.get tree.nodes number)) f))
    node_over number None (Some (Gone by_close)) e f = refl
    node_over number (Some (Gone x)) (Some (Gone by_close)) e f = refl
    node_over number (Some (Changed s)) (Some (Gone by_close)) e f = refl
    node_over number None (Some (Changed s)) e f = ap (λ b. Some (node_with s.kind s.ownership b)) (joined_alike 4096 s.size _ _ (λ index. block_above number index s (bytes_of (map.get tree.nodes number)) e f))
    node_over number (Some (Gone x)) (Some (Changed s)) e f = told s.fresh refl
      where
        told : (b : Bool) → s.fresh ≡ b → node_seen (merge older newer) number (Some (Changed s)) (map.get tree.nodes number) ≡ node_seen newer number (Some (Changed s)) None
        told true g = ap (λ b. Some (node_with s.kind s.ownership b)) (joined_alike 4096 s.size _ _ (λ index. block_fresh number index s (bytes_of (map.get tree.nodes number)) [] f g))
        told false g = absurd (true≢false (sym (not_gone number s (Some (Gone x)) e f g)))
    node_over number (Some (Changed o)) (Some (Changed s)) e f = told s.fresh refl
      where
        told : (b : Bool) → s.fresh ≡ b → node_seen (merge older newer) number (Some (cond s.fresh (Changed s) (Changed (state_over o s)))) (map.get tree.nodes number)
            ≡ node_seen newer number (Some (Changed s)) (node_seen older number (Some (Changed o)) (map.get tree.nodes number))
        told true g = ap (λ b. node_seen (merge older newer) number (Some (cond b (Changed s) (Changed (state_over o s)))) (map.get tree.nodes number)) g
            ∙ ap (λ b. Some (node_with s.kind s.ownership b)) (joined_alike 4096 s.size _ _ (λ index. block_fresh number index s (bytes_of (map.get tree.nodes number)) (joined 4096 o.size (block_seen older number o (bytes_of (map.get tree.nodes number)))) f g))
        told false g = ap (λ b. node_seen (merge older newer) number (Some (cond b (Changed s) (Changed (state_over o s)))) (map.get tree.nodes number)) g
            ∙ ap (λ b. Some (node_with s.kind s.ownership b)) (joined_alike 4096 s.size _ _ (λ index. block_over number index o s (bytes_of (map.get tree.nodes number)) f (λ at. fo.zeros number o index at e)))

    -- what hides names in the merge hides them in one of both
    hides_over : (link : Link) (number : ℕ) (old new : Option NodeChange) → map.get older.nodes number ≡ old → map.get newer.nodes number ≡ new → (hides_names new ≡ true → hides_names (nodes_over old new) ≡ true) × (hides_names new ≡ false → hides_names (nodes_over old new) ≡ hides_names old)
    hides_over link number old None e f = (λ h. absurd (true≢false (sym h)), λ h. refl)
    hides_over link number None (Some (Gone x)) e f = (λ h. refl, λ h. absurd (true≢false h))
    hides_over link number (Some (Gone y)) (Some (Gone x)) e f = (λ h. refl, λ h. refl)
    hides_over link number (Some (Changed o)) (Some (Gone x)) e f = (λ h. refl, λ h. absurd (true≢false h))
    hides_over link number None (Some (Changed s)) e f = (λ h. h, λ h. h)
    hides_over link number (Some (Gone x)) (Some (Changed s)) e f = (λ h. h, λ h. absurd (true≢false (sym (not_gone number s (Some (Gone x)) e f h))))
    hides_over link number (Some (Changed o)) (Some (Changed s)) e f = (λ h. ap (λ b. hides_names (Some (cond b (Changed s) (Changed (state_over o s))))) h ∙ h, λ h. ap (λ b. hides_names (Some (cond b (Changed s) (Changed (state_over o s))))) h ∙ ap (λ b. o.fresh || b) h ∙ or_false o.fresh)

    name_over : (link : Link) (old new : Option NodeChange) (x y : Option (Option ℕ)) → map.get older.nodes link.directory ≡ old → map.get newer.nodes link.directory ≡ new → map.get newer.names link ≡ x → map.get older.names link ≡ y
        → name_seen (merge older newer) link (kept_under x (hides_names new) y) (map.get tree.links link) ≡ name_seen newer link x (name_seen older link y (map.get tree.links link))
    name_over link old new (Some number) y e f g h = refl
    name_over link old new None y e f g h = told (hides_names new) refl y
      where
        over : hides_names (map.get (merge older newer).nodes link.directory) ≡ hides_names (nodes_over old new)
        over = ap hides_names (get-merge_nodes older newer link.directory ∙ ap (λ c. nodes_over c (map.get newer.nodes link.directory)) e ∙ ap (nodes_over old) f)

        told : (b : Bool) → hides_names new ≡ b → (z : Option (Option ℕ)) → name_seen (merge older newer) link (kept_under None b z) (map.get tree.links link) ≡ name_seen newer link None (name_seen older link z (map.get tree.links link))
        told true q z = ap (λ b. cond b None (map.get tree.links link)) (over ∙ (hides_over link link.directory old new e f).0 q)
            ∙ sym (ap (λ b. cond b None (name_seen older link z (map.get tree.links link))) (ap hides_names f ∙ q))
        told false q (Some number) = sym (ap (λ b. cond b None number) (ap hides_names f ∙ q))
        told false q None = ap (λ b. cond b None (map.get tree.links link)) (over ∙ (hides_over link link.directory old new e f).1 q ∙ sym (ap hides_names e))
            ∙ sym (ap (λ b. cond b None (name_seen older link None (map.get tree.links link))) (ap hides_names f ∙ q))

    merged_nodes : (number : ℕ) → map.get (through (merge older newer) tree).nodes number ≡ map.get (through newer (through older tree)).nodes number
    merged_nodes number =
        get-through_nodes (merge older newer) tree number
        ∙ ap (λ c. node_seen (merge older newer) number c (map.get tree.nodes number)) (get-merge_nodes older newer number)
        ∙ node_over number (map.get older.nodes number) (map.get newer.nodes number) refl refl
        ∙ sym (get-through_nodes newer (through older tree) number ∙ ap (node_seen newer number (map.get newer.nodes number)) (get-through_nodes older tree number))

    merged_links : (link : Link) → map.get (through (merge older newer) tree).links link ≡ map.get (through newer (through older tree)).links link
    merged_links link =
        get-through_links (merge older newer) tree link
        ∙ ap (λ x. name_seen (merge older newer) link x (map.get tree.links link)) (get-merge_names older newer link)
        ∙ name_over link (map.get older.nodes link.directory) (map.get newer.nodes link.directory) (map.get newer.names link) (map.get older.names link) refl refl refl refl
        ∙ sym (get-through_links newer (through older tree) link ∙ ap (name_seen newer link (map.get newer.names link)) (get-through_links older tree link))

    pub merge_shows : through (merge older newer) tree ≡ through newer (through older tree)
    merge_shows =
        let nodes : (through (merge older newer) tree).nodes ≡ (through newer (through older tree)).nodes = map.same_map nat_cmp_total exact_unsigned _ _ merged_nodes in
        let links : (through (merge older newer) tree).links ≡ (through newer (through older tree)).links = map.same_map links_total exact_links _ _ merged_links in
        λ i. record { nodes = nodes i; links = links i }

    below_over : {A : Type 0} (of_node : Node → A) (of_state : NodeState → A) (apart : NodeState → Bool) → Tells of_node of_state apart → (number : ℕ)
        → ((s : NodeState) → map.get older.nodes number ≡ Some (Changed s) → apart s ≡ false → option_map of_node (map.get tree.nodes number) ≡ Some (of_state s))
        → ((s : NodeState) → map.get newer.nodes number ≡ Some (Changed s) → apart s ≡ false → option_map of_node (map.get (through older tree).nodes number) ≡ Some (of_state s))
        → (state : NodeState) (old new : Option NodeChange) → map.get older.nodes number ≡ old → map.get newer.nodes number ≡ new → nodes_over old new ≡ Some (Changed state) → apart state ≡ false → option_map of_node (map.get tree.nodes number) ≡ Some (of_state state)
    below_over {A} of_node of_state apart t number fits_older fits_newer state old None e f h g = fits_older state (e ∙ h) g
    below_over {A} of_node of_state apart t number fits_older fits_newer state old (Some (Gone x)) e f h g = told old h
      where
        told : (c : Option NodeChange) → nodes_over c (Some (Gone x)) ≡ Some (Changed state) → option_map of_node (map.get tree.nodes number) ≡ Some (of_state state)
        told None k = let never : Gone x ≡ Changed state = some_same _ _ k in cc
        told (Some (Gone y)) k = let never : Gone x ≡ Changed state = some_same _ _ k in cc
        told (Some (Changed s)) k = let never : Gone x ≡ Changed state = some_same _ _ k in cc
    below_over {A} of_node of_state apart t number fits_older fits_newer state None (Some (Changed s)) e f h g =
        ap (option_map of_node) (sym (get-through_nodes older tree number ∙ ap (λ c. node_seen older number c (map.get tree.nodes number)) e)) ∙ fits_newer state (f ∙ h) g
    below_over {A} of_node of_state apart t number fits_older fits_newer state (Some (Gone x)) (Some (Changed s)) e f h g =
        let none : None ≡ Some (of_state state) = ap (option_map of_node) (sym (get-through_nodes older tree number ∙ ap (λ c. node_seen older number c (map.get tree.nodes number)) e)) ∙ fits_newer state (f ∙ h) g in
        absurd (some_none _ _ refl (sym none))
    below_over {A} of_node of_state apart t number fits_older fits_newer state (Some (Changed o)) (Some (Changed s)) e f h g = told s.fresh refl
      where
        told : (b : Bool) → s.fresh ≡ b → option_map of_node (map.get tree.nodes number) ≡ Some (of_state state)
        told true q =
            let same : Changed s ≡ Changed state = ap (λ b. cond b (Changed s) (Changed (state_over o s))) (sym q) ∙ some_same _ _ h in
            let one : s ≡ state = cc in
            absurd (true≢false (sym q ∙ t.old s (ap apart one ∙ g)))
        told false q =
            let same : Changed (state_over o s) ≡ Changed state = ap (λ b. cond b (Changed s) (Changed (state_over o s))) (sym q) ∙ some_same _ _ h in
            let one : state_over o s ≡ state = cc in
            let both = t.parts o s (ap apart one ∙ g) in
            let seen : Some (of_node (node_with o.kind o.ownership (joined 4096 o.size (block_seen older number o (bytes_of (map.get tree.nodes number)))))) ≡ Some (of_state s) =
            ap (option_map of_node) (sym (get-through_nodes older tree number ∙ ap (λ c. node_seen older number c (map.get tree.nodes number)) e)) ∙ fits_newer s f both.1 in
            fits_older o e both.0 ∙ ap (λ a. Some a) (sym (t.shown o (joined 4096 o.size (block_seen older number o (bytes_of (map.get tree.nodes number)))))) ∙ seen ∙ ap (λ a. Some a) (sym (t.over o s) ∙ ap of_state one)

    abbrev AreZeros : Layer → ℕ → NodeState → List ℕ → ℕ → ℕ → Type 0
    AreZeros layer number state below index at = get_or (block_seen layer number state below index) at 0 ≡ 0

    -- what the newer one shows past an end is zeros
    newer_zeros : (number index at : ℕ) (s : NodeState) (old : Option NodeChange) → map.get older.nodes number ≡ old → map.get newer.nodes number ≡ Some (Changed s) → at < 4096 → s.size ≤ index * 4096 + at → AreZeros newer number s (bytes_of (node_seen older number old (map.get tree.nodes number))) index at
    newer_zeros number index at s old e f b k =
        ap (λ (n : Option Node). get_or (block_seen newer number s (bytes_of n) index) at 0) (ap (λ c. node_seen older number c (map.get tree.nodes number)) (sym e) ∙ sym (get-through_nodes older tree number))
        ∙ fn.zeros number s index at f b k

    zeros_over : (number : ℕ) (state : NodeState) (index at : ℕ) (old new : Option NodeChange) → map.get older.nodes number ≡ old → map.get newer.nodes number ≡ new → nodes_over old new ≡ Some (Changed state) → at < 4096 → state.size ≤ index * 4096 + at → AreZeros (merge older newer) number state (bytes_of (map.get tree.nodes number)) index at
    zeros_over number state index at old None e f h b k =
        ap (λ (l : List ℕ). get_or l at 0) (block_below number index state (bytes_of (map.get tree.nodes number)) f) ∙ fo.zeros number state index at (e ∙ h) b k
    zeros_over number state index at old (Some (Gone x)) e f h b k = told old h
      where
        told : (c : Option NodeChange) → nodes_over c (Some (Gone x)) ≡ Some (Changed state) → AreZeros (merge older newer) number state (bytes_of (map.get tree.nodes number)) index at
        told None q = let never : Gone x ≡ Changed state = some_same _ _ q in cc
        told (Some (Gone y)) q = let never : Gone x ≡ Changed state = some_same _ _ q in cc
        told (Some (Changed s)) q = let never : Gone x ≡ Changed state = some_same _ _ q in cc
    zeros_over number state index at None (Some (Changed s)) e f h b k =
        let same : Changed s ≡ Changed state = some_same _ _ h in
        let one : s ≡ state = cc in
        let here : map.get newer.nodes number ≡ Some (Changed state) = f ∙ h in
        ap (λ (l : List ℕ). get_or l at 0) (block_above number index state (bytes_of (map.get tree.nodes number)) e here) ∙ newer_zeros number index at state None e here b k
    zeros_over number state index at (Some (Gone x)) (Some (Changed s)) e f h b k = told state.fresh refl
      where
        here : map.get newer.nodes number ≡ Some (Changed state)
        here = f ∙ h

        told : (t : Bool) → state.fresh ≡ t → AreZeros (merge older newer) number state (bytes_of (map.get tree.nodes number)) index at
        told true g = ap (λ (l : List ℕ). get_or l at 0) (block_fresh number index state (bytes_of (map.get tree.nodes number)) [] here g) ∙ newer_zeros number index at state (Some (Gone x)) e here b k
        told false g = absurd (true≢false (sym (not_gone number state (Some (Gone x)) e here g)))
    zeros_over number state index at (Some (Changed o)) (Some (Changed s)) e f h b k = told s.fresh refl
      where
        told : (t : Bool) → s.fresh ≡ t → AreZeros (merge older newer) number state (bytes_of (map.get tree.nodes number)) index at
        told true g =
            let same : Changed s ≡ Changed state = ap (λ t. cond t (Changed s) (Changed (state_over o s))) (sym g) ∙ some_same _ _ h in
            let one : s ≡ state = cc in
            let here : map.get newer.nodes number ≡ Some (Changed state) = f ∙ ap (λ c. Some c) same in
            ap (λ (l : List ℕ). get_or l at 0) (block_fresh number index state (bytes_of (map.get tree.nodes number)) (joined 4096 o.size (block_seen older number o (bytes_of (map.get tree.nodes number)))) here (ap (λ (t : NodeState). t.fresh) (sym one) ∙ g))
            ∙ newer_zeros number index at state (Some (Changed o)) e here b k
        told false g =
            let same : Changed (state_over o s) ≡ Changed state = ap (λ t. cond t (Changed s) (Changed (state_over o s))) (sym g) ∙ some_same _ _ h in
            let one : state_over o s ≡ state = cc in
            let short : s.size ≤ index * 4096 + at = subst (λ (t : NodeState). t.size ≤ index * 4096 + at) (sym one) k in
            ap (λ (t : NodeState). get_or (block_seen (merge older newer) number t (bytes_of (map.get tree.nodes number)) index) at 0) (sym one)
            ∙ ap (λ (l : List ℕ). get_or l at 0) (block_over number index o s (bytes_of (map.get tree.nodes number)) f (λ j. fo.zeros number o index j e))
            ∙ newer_zeros number index at s (Some (Changed o)) e f b short

    pub merge_fits : Fits (merge older newer) tree
    merge_fits = record {
      kinds = λ n s e g. below_over (λ (node : Node). node.kind) (λ (s : NodeState). s.kind) (λ (s : NodeState). s.fresh) tells_kinds n (fo.kinds n) (fn.kinds n) s (map.get older.nodes n) (map.get newer.nodes n) refl refl (sym (get-merge_nodes older newer n) ∙ e) g;
      acls = λ n s e g k. below_over acls_of acls_told apart_acls tells_acls n (λ s e q. let both = neither s.fresh s.acl_changed q in fo.acls n s e both.0 both.1) (λ s e q. let both = neither s.fresh s.acl_changed q in fn.acls n s e both.0 both.1) s (map.get older.nodes n) (map.get newer.nodes n) refl refl (sym (get-merge_nodes older newer n) ∙ e) (ap (λ b. b || s.acl_changed) g ∙ k);
      zeros = λ n s index at e b k. zeros_over n s index at (map.get older.nodes n) (map.get newer.nodes n) refl refl (sym (get-merge_nodes older newer n) ∙ e) b k;
    }

  kept_some : {X : Type 0} (x y : Option X) (old new : Option NodeChange) (hidden : Bool) → (is_some x ≡ true → is_some new ≡ true) → (is_some y ≡ true → is_some old ≡ true) → is_some (kept_under x hidden y) ≡ true → is_some (nodes_over old new) ≡ true
  kept_some x y old (Some c) hidden f g h = refl
  kept_some (Some x) y old None hidden f g h = absurd (true≢false (sym (f refl)))
  kept_some None y old None true f g h = absurd (true≢false (sym h))
  kept_some None y old None false f g h = g h

  kept_long : (x y : Option (List ℕ)) (hidden : Bool) (bytes : List ℕ) → ((b : List ℕ) → x ≡ Some b → length b ≡ 4096) → ((b : List ℕ) → y ≡ Some b → length b ≡ 4096) → kept_under x hidden y ≡ Some bytes → length bytes ≡ 4096
  kept_long (Some x) y hidden bytes f g h = f bytes h
  kept_long None y true bytes f g h = absurd (some_none _ _ h refl)
  kept_long None y false bytes f g h = g bytes h

  cut_over : (number : ℕ) (state : NodeState) (old new : Option NodeChange) → map.get older.nodes number ≡ old → map.get newer.nodes number ≡ new → nodes_over old new ≡ Some (Changed state) → state.cut ≤ state.size
  cut_over number state old None e f h = ho.cuts number state (e ∙ h)
  cut_over number state None (Some c) e f h = hn.cuts number state (f ∙ h)
  cut_over number state (Some (Gone x)) (Some c) e f h = hn.cuts number state (f ∙ h)
  cut_over number state (Some (Changed o)) (Some (Gone x)) e f h = let never : Gone x ≡ Changed state = some_same _ _ h in cc
  cut_over number state (Some (Changed o)) (Some (Changed s)) e f h = told s.fresh refl
    where
      told : (b : Bool) → s.fresh ≡ b → state.cut ≤ state.size
      told true g = hn.cuts number state (f ∙ ap (λ b. Some (cond b (Changed s) (Changed (state_over o s)))) (sym g) ∙ h)
      told false g =
          let same : Changed (state_over o s) ≡ Changed state = ap (λ b. cond b (Changed s) (Changed (state_over o s))) (sym g) ∙ some_same _ _ h in
          let one : state_over o s ≡ state = cc in
          let short : s.cut ≤ s.size = hn.cuts number s f in
          let less : (state_over o s).cut ≤ (state_over o s).size = omega arith in
          subst (λ (t : NodeState). t.cut ≤ t.size) one less

  size_over : (old : Option NodeChange) (s state : NodeState) → nodes_over old (Some (Changed s)) ≡ Some (Changed state) → s.size ≡ state.size
  size_over None s state h =
      let same : Changed s ≡ Changed state = some_same _ _ h in
      let one : s ≡ state = cc in
      ap (λ (t : NodeState). t.size) one
  size_over (Some (Gone x)) s state h =
      let same : Changed s ≡ Changed state = some_same _ _ h in
      let one : s ≡ state = cc in
      ap (λ (t : NodeState). t.size) one
  size_over (Some (Changed o)) s state h = told s.fresh (some_same _ _ h)
    where
      told : (b : Bool) → cond b (Changed s) (Changed (state_over o s)) ≡ Changed state → s.size ≡ state.size
      told true same =
          let one : s ≡ state = cc in
          ap (λ (t : NodeState). t.size) one
      told false same =
          let one : state_over o s ≡ state = cc in
          ap (λ (t : NodeState). t.size) one

  -- a block that a merge keeps is the newer one's, or one of the older one's that the newer one doesn't hide
  kept_either : {X : Type 0} (x y : Option X) (hidden : Bool) → is_some (kept_under x hidden y) ≡ true → (is_some x ≡ true) ⊎ ((hidden ≡ false) × (is_some y ≡ true))
  kept_either (Some x) y hidden h = inl refl
  kept_either None y true h = absurd (true≢false (sym h))
  kept_either None y false h = inr (refl, h)

  begins_over : (file_block : FileBlock) (state : NodeState) (old new : Option NodeChange) → map.get older.nodes file_block.file ≡ old → map.get newer.nodes file_block.file ≡ new → nodes_over old new ≡ Some (Changed state)
      → (is_some (map.get newer.blocks file_block) ≡ true) ⊎ ((hides_block new file_block.index ≡ false) × (is_some (map.get older.blocks file_block) ≡ true)) → file_block.index * 4096 < state.size
  begins_over file_block state old None e f h (inl k) = absurd (true≢false (sym (hn.blocks file_block k) ∙ ap is_some f))
  begins_over file_block state old None e f h (inr k) = ho.begins file_block state k.1 (e ∙ h)
  begins_over file_block state old (Some (Gone x)) e f h (inl k) = told old h
    where
      told : (c : Option NodeChange) → nodes_over c (Some (Gone x)) ≡ Some (Changed state) → file_block.index * 4096 < state.size
      told None q = let never : Gone x ≡ Changed state = some_same _ _ q in cc
      told (Some (Gone y)) q = let never : Gone x ≡ Changed state = some_same _ _ q in cc
      told (Some (Changed s)) q = let never : Gone x ≡ Changed state = some_same _ _ q in cc
  begins_over file_block state old (Some (Gone x)) e f h (inr k) = absurd (true≢false k.0)
  begins_over file_block state old (Some (Changed s)) e f h (inl k) = omega (arith, hn.begins file_block s k f, size_over old s state h)
  begins_over file_block state old (Some (Changed s)) e f h (inr k) =
      let visible : leb s.cut (file_block.index * 4096) ≡ false = second_part s.fresh (leb s.cut (file_block.index * 4096)) k.0 in
      omega (arith, below_cut s.cut (file_block.index * 4096) visible, hn.cuts file_block.file s f, size_over old s state h)
    where
      below_cut : (cut at : ℕ) → leb cut at ≡ false → at < cut
      below_cut cut at h = grind (arith, nat_tests)

  pub merge_is_layer : IsLayer (merge older newer)
  merge_is_layer = record {
    names = λ link h. ap is_some (get-merge_nodes older newer link.directory) ∙ kept_some (map.get newer.names link) (map.get older.names link) (map.get older.nodes link.directory) (map.get newer.nodes link.directory) (hides_names (map.get newer.nodes link.directory)) (hn.names link) (ho.names link) (ap is_some (sym (get-merge_names older newer link)) ∙ h);
    blocks = λ file_block h. ap is_some (get-merge_nodes older newer file_block.file) ∙ kept_some (map.get newer.blocks file_block) (map.get older.blocks file_block) (map.get older.nodes file_block.file) (map.get newer.nodes file_block.file) (hides_block (map.get newer.nodes file_block.file) file_block.index) (hn.blocks file_block) (ho.blocks file_block) (ap is_some (sym (get-merge_blocks older newer file_block)) ∙ h);
    lengths = λ file_block bytes e. kept_long (map.get newer.blocks file_block) (map.get older.blocks file_block) (hides_block (map.get newer.nodes file_block.file) file_block.index) bytes (hn.lengths file_block) (ho.lengths file_block) (sym (get-merge_blocks older newer file_block) ∙ e);
    begins = λ file_block state h e. begins_over file_block state (map.get older.nodes file_block.file) (map.get newer.nodes file_block.file) refl refl (sym (get-merge_nodes older newer file_block.file) ∙ e)
        (kept_either (map.get newer.blocks file_block) (map.get older.blocks file_block) (hides_block (map.get newer.nodes file_block.file) file_block.index) (ap is_some (sym (get-merge_blocks older newer file_block)) ∙ h));
    cuts = λ number state e. cut_over number state (map.get older.nodes number) (map.get newer.nodes number) refl refl (sym (get-merge_nodes older newer number) ∙ e);
  }
