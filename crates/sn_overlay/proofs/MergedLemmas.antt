-- Entries that were laid over others are those of the merged layer.
use Rattle.std.proofs.Common.{◌≡◌, ℕ, Bool, true, false, cond, not, eqb, List, [], ◌∷◌, Option, Some, None, refl, sym, ap, ◌∙◌, arith}
use Rattle.std.specs.declared.boxed.Box.{Box}
use Rattle.std.specs.Global.{Global}
use Rattle.std.specs.Ordering.{nat_cmp, is_eq}
use Rattle.std.specs.Option.{option_map}
use Rattle.std.specs.Cmp.{nat_cmp_total}
use Rattle.std.specs.FinMap as fin
use Rattle.std.specs.FinMap.Entries.{find, put, is_sorted, where_key, find-where_key}
use Rattle.std.proofs.lemmas.Bool.Decides.{nat_tests}
use Rattle.std.proofs.lemmas.Map.Lookups.{exact_unsigned}
use Rattle.sn_model.specs.declared.link.Link.{Link}
use Rattle.sn_model.specs.Tree.{link_cmp}
use Rattle.sn_model.proofs.LinkLemmas.{exact_links, links_total}
use Rattle.sn_overlay.specs.declared.file_block.FileBlock.{FileBlock}
use Rattle.sn_overlay.specs.declared.node.NodeChange.{NodeChange}
use Rattle.sn_overlay.specs.declared.node.NodeChange.TheVariants.{Gone, Changed}
use Rattle.sn_overlay.specs.Keys.{file_block_cmp}
use Rattle.sn_overlay.specs.Layers.{Layer, hides_names, hides_block}
use Rattle.sn_overlay.specs.Merges.{merge, change_over}
use Rattle.sn_overlay.specs.Overlays.{nodes_of, names_of, blocks_of, gone}
use Rattle.sn_overlay.specs.Sorted.{put_each, newer_value}
use Rattle.sn_overlay.proofs.OverlaidLemmas.{exact_file_blocks, file_blocks_total}
use Rattle.sn_overlay.proofs.OverlayLemmas.{get-nodes_of, get-names_of, get-blocks_of, nodes_of-put}
use Rattle.sn_overlay.proofs.LayerLemmas.{get-merge_nodes, get-merge_names, get-merge_blocks, nodes_over, kept_under}
use Rattle.sn_overlay.proofs.PutLemmas.{find-put_each, put_each-cons, put_each-none, value_over}

abbrev Bytes : Type 0
Bytes = Box (List ℕ) Global

over_nodes : (n o : Option NodeChange) → value_over change_over n o ≡ nodes_over o n
over_nodes None o = refl
over_nodes (Some c) o = refl

over_kept : {X : Type 0} (n o : Option X) (b : Bool) → value_over newer_value n (cond (not b) o None) ≡ kept_under n b o
over_kept (Some x) o b = refl
over_kept None o true = refl
over_kept None o false = refl

read_kept : (n o : Option Bytes) (b : Bool) → option_map (λ (x : Bytes). x.value) (kept_under n b o) ≡ kept_under (option_map (λ (x : Bytes). x.value) n) b (option_map (λ (x : Bytes). x.value) o)
read_kept (Some x) o b = refl
read_kept None o true = refl
read_kept None o false = refl

module _ (nodes newer_nodes : List (ℕ × NodeChange)) (names newer_names : List (Link × Option ℕ)) (blocks newer_blocks : List (FileBlock × Box (List ℕ) Global)) where
  abbrev older : Layer
  older = record { nodes = nodes_of nodes; names = names_of names; blocks = blocks_of blocks }

  abbrev newer : Layer
  newer = record { nodes = nodes_of newer_nodes; names = names_of newer_names; blocks = blocks_of newer_blocks }

  pub merged_nodes : is_sorted nat_cmp newer_nodes ≡ true → nodes_of (put_each nat_cmp change_over newer_nodes nodes) ≡ (merge older newer).nodes
  merged_nodes h = fin.same_map nat_cmp_total exact_unsigned _ _ (λ q.
      get-nodes_of (put_each nat_cmp change_over newer_nodes nodes) q
      ∙ find-put_each nat_cmp_total change_over newer_nodes nodes q h
      ∙ over_nodes (find nat_cmp q newer_nodes) (find nat_cmp q nodes)
      ∙ sym (get-merge_nodes older newer q ∙ ap (λ o. nodes_over o (fin.get (nodes_of newer_nodes) q)) (get-nodes_of nodes q) ∙ ap (nodes_over (find nat_cmp q nodes)) (get-nodes_of newer_nodes q)))

  pub merged_names : is_sorted link_cmp newer_names ≡ true → names_of (put_each link_cmp newer_value newer_names (where_key link_cmp (λ link. not (hides_names (find nat_cmp link.directory newer_nodes))) names)) ≡ (merge older newer).names
  merged_names h = fin.same_map links_total exact_links _ _ (λ q.
      let seen = λ (link : Link). not (hides_names (find nat_cmp link.directory newer_nodes)) in
      get-names_of (put_each link_cmp newer_value newer_names (where_key link_cmp seen names)) q
      ∙ find-put_each links_total newer_value newer_names (where_key link_cmp seen names) q h
      ∙ ap (value_over newer_value (find link_cmp q newer_names)) (find-where_key link_cmp seen q (λ x e. ap seen (sym (exact_links q x e))) names)
      ∙ over_kept (find link_cmp q newer_names) (find link_cmp q names) (hides_names (find nat_cmp q.directory newer_nodes))
      ∙ sym (get-merge_names older newer q
      ∙ ap (λ o. kept_under (fin.get (names_of newer_names) q) (hides_names (fin.get (nodes_of newer_nodes) q.directory)) o) (get-names_of names q)
      ∙ ap (λ n. kept_under n (hides_names (fin.get (nodes_of newer_nodes) q.directory)) (find link_cmp q names)) (get-names_of newer_names q)
      ∙ ap (λ c. kept_under (find link_cmp q newer_names) (hides_names c) (find link_cmp q names)) (get-nodes_of newer_nodes q.directory)))

  pub merged_blocks : is_sorted file_block_cmp newer_blocks ≡ true → blocks_of (put_each file_block_cmp newer_value newer_blocks (where_key file_block_cmp (λ file_block. not (hides_block (find nat_cmp file_block.file newer_nodes) file_block.index)) blocks)) ≡ (merge older newer).blocks
  merged_blocks h = fin.same_map file_blocks_total exact_file_blocks _ _ (λ q.
      let seen = λ (file_block : FileBlock). not (hides_block (find nat_cmp file_block.file newer_nodes) file_block.index) in
      get-blocks_of (put_each file_block_cmp newer_value newer_blocks (where_key file_block_cmp seen blocks)) q
      ∙ ap (option_map (λ (x : Bytes). x.value)) (find-put_each file_blocks_total newer_value newer_blocks (where_key file_block_cmp seen blocks) q h
      ∙ ap (value_over newer_value (find file_block_cmp q newer_blocks)) (find-where_key file_block_cmp seen q (λ x e. ap seen (sym (exact_file_blocks q x e))) blocks)
      ∙ over_kept (find file_block_cmp q newer_blocks) (find file_block_cmp q blocks) (hides_block (find nat_cmp q.file newer_nodes) q.index))
      ∙ read_kept (find file_block_cmp q newer_blocks) (find file_block_cmp q blocks) (hides_block (find nat_cmp q.file newer_nodes) q.index)
      ∙ sym (get-merge_blocks older newer q
      ∙ ap (λ o. kept_under (fin.get (blocks_of newer_blocks) q) (hides_block (fin.get (nodes_of newer_nodes) q.file) q.index) o) (get-blocks_of blocks q)
      ∙ ap (λ n. kept_under n (hides_block (fin.get (nodes_of newer_nodes) q.file) q.index) (option_map (λ (x : Bytes). x.value) (find file_block_cmp q blocks))) (get-blocks_of newer_blocks q)
      ∙ ap (λ c. kept_under (option_map (λ (x : Bytes). x.value) (find file_block_cmp q newer_blocks)) (hides_block c q.index) (option_map (λ (x : Bytes). x.value) (find file_block_cmp q blocks))) (get-nodes_of newer_nodes q.file)))

-- ---- one node that is dropped

module _ (nodes : List (ℕ × NodeChange)) (names : List (Link × Option ℕ)) (blocks : List (FileBlock × Bytes)) (number : ℕ) (by_close : Bool) where
  abbrev held : Layer
  held = record { nodes = nodes_of nodes; names = names_of names; blocks = blocks_of blocks }

  abbrev one_gone : List (ℕ × NodeChange)
  one_gone = (number, Gone by_close) ∷ []

  -- the entries of one node that is dropped are its layer's
  gone_is : record { nodes = nodes_of one_gone; names = names_of []; blocks = blocks_of [] } ≡ gone number by_close
  unfolding nodes_of names_of blocks_of
  gone_is =
      let one = nodes_of-put [] number (Gone by_close) in
      λ i. record (gone number by_close) { nodes = one i }

  stays_gone : (older : Option NodeChange) → change_over older (Gone by_close) ≡ Gone by_close
  stays_gone None = refl
  stays_gone (Some (Gone x)) = refl
  stays_gone (Some (Changed s)) = refl

  pub dropped_nodes : nodes_of (put nat_cmp number (Gone by_close) nodes) ≡ (merge held (gone number by_close)).nodes
  dropped_nodes =
      ap (λ c. nodes_of (put nat_cmp number c nodes)) (sym (stays_gone (find nat_cmp number nodes)))
      ∙ ap nodes_of (sym (put_each-cons nat_cmp change_over (number, Gone by_close) [] nodes ∙ put_each-none nat_cmp change_over (put nat_cmp number (change_over (find nat_cmp number nodes) (Gone by_close)) nodes)))
      ∙ merged_nodes nodes one_gone names [] blocks [] refl
      ∙ ap (λ newer. (merge held newer).nodes) gone_is

  hides : (b : Bool) → hides_names (cond b (Some (Gone by_close)) None) ≡ b
  hides true = refl
  hides false = refl

  hides_all : (b : Bool) (index : ℕ) → hides_block (cond b (Some (Gone by_close)) None) index ≡ b
  hides_all true index = refl
  hides_all false index = refl

  tied : (n : ℕ) → is_eq (nat_cmp n number) ≡ eqb n number
  tied n = grind (arith, nat_tests)

  seen_name : (link : Link) → not (eqb link.directory number) ≡ not (hides_names (find nat_cmp link.directory one_gone))
  seen_name link = ap not (sym (hides (is_eq (nat_cmp link.directory number)) ∙ tied link.directory))

  seen_block : (file_block : FileBlock) → not (eqb file_block.file number) ≡ not (hides_block (find nat_cmp file_block.file one_gone) file_block.index)
  seen_block file_block = ap not (sym (hides_all (is_eq (nat_cmp file_block.file number)) file_block.index ∙ tied file_block.file))

  pub dropped_names : names_of (where_key link_cmp (λ link. not (eqb link.directory number)) names) ≡ (merge held (gone number by_close)).names
  dropped_names =
      (λ i. names_of (where_key link_cmp (λ link. seen_name link i) names))
      ∙ ap names_of (sym (put_each-none link_cmp newer_value (where_key link_cmp (λ link. not (hides_names (find nat_cmp link.directory one_gone))) names)))
      ∙ merged_names nodes one_gone names [] blocks [] refl
      ∙ ap (λ newer. (merge held newer).names) gone_is

  pub dropped_blocks : blocks_of (where_key file_block_cmp (λ file_block. not (eqb file_block.file number)) blocks) ≡ (merge held (gone number by_close)).blocks
  dropped_blocks =
      (λ i. blocks_of (where_key file_block_cmp (λ file_block. seen_block file_block i) blocks))
      ∙ ap blocks_of (sym (put_each-none file_block_cmp newer_value (where_key file_block_cmp (λ file_block. not (hides_block (find nat_cmp file_block.file one_gone) file_block.index)) blocks)))
      ∙ merged_blocks nodes one_gone names [] blocks [] refl
      ∙ ap (λ newer. (merge held newer).blocks) gone_is
