-- What is seen through a layer, and through the merge of two.
use Rattle.std.proofs.Common.{◌≡◌, ℕ, Bool, true, false, cond, not, Option, Some, None, refl, sym, ap, ◌∙◌}
use Rattle.std.specs.Option.{option_map, unwrap_or}
use Rattle.std.specs.Cmp.{nat_cmp_total}
use Rattle.std.specs.FinMap as map
use Rattle.std.proofs.lemmas.Map.Lookups.{exact_unsigned}
use Rattle.sn_model.specs.declared.link.Link.{Link}
use Rattle.sn_model.specs.Tree.{Node, Tree}
use Rattle.sn_model.proofs.LinkLemmas.{exact_links, links_total}
use Rattle.sn_overlay.specs.declared.file_block.FileBlock.{FileBlock}
use Rattle.sn_overlay.specs.declared.node.NodeChange.{NodeChange}
use Rattle.sn_overlay.specs.declared.node.NodeChange.TheVariants.{Gone, Changed}
use Rattle.sn_overlay.specs.Layers.{Layer, through, hides_names, hides_block, node_seen, name_seen}
use Rattle.sn_overlay.specs.Merges.{merge, change_over}
use Rattle.sn_overlay.proofs.OverlaidLemmas.{exact_file_blocks, file_blocks_total, get-laid, get-overlaid, get-kept}

-- the layer's answer where it has one, else what is below
seen-laid : (layer : Layer) (number : ℕ) (change : Option NodeChange) (below : Option Node) → unwrap_or (option_map (λ c. node_seen layer number (Some c) below) change) below ≡ node_seen layer number change below
seen-laid layer number None below = refl
seen-laid layer number (Some (Gone by_close)) below = refl
seen-laid layer number (Some (Changed state)) below = refl

pub get-through_nodes : (layer : Layer) (tree : Tree) (number : ℕ) → map.get (through layer tree).nodes number ≡ node_seen layer number (map.get layer.nodes number) (map.get tree.nodes number)
unfolding through
get-through_nodes layer tree number =
    get-laid nat_cmp_total exact_unsigned (λ n c. node_seen layer n (Some c) (map.get tree.nodes n)) layer.nodes tree.nodes number
    ∙ seen-laid layer number (map.get layer.nodes number) (map.get tree.nodes number)

named-laid : (layer : Layer) (link : Link) (found : Option (Option ℕ)) (below : Option ℕ) → unwrap_or found (cond (not (hides_names (map.get layer.nodes link.directory))) below None) ≡ name_seen layer link found below
named-laid layer link (Some number) below = refl
named-laid layer link None below = told (hides_names (map.get layer.nodes link.directory))
  where
    told : (b : Bool) → cond (not b) below None ≡ cond b None below
    told true = refl
    told false = refl

pub get-through_links : (layer : Layer) (tree : Tree) (link : Link) → map.get (through layer tree).links link ≡ name_seen layer link (map.get layer.names link) (map.get tree.links link)
unfolding through
get-through_links layer tree link =
    get-overlaid links_total (map.entries layer.names) (map.retain_keys tree.links (λ l. not (hides_names (map.get layer.nodes l.directory)))) link
    ∙ ap (λ found. unwrap_or found (map.get (map.retain_keys tree.links (λ l. not (hides_names (map.get layer.nodes l.directory)))) link)) (sym (map.get-entries layer.names link))
    ∙ ap (unwrap_or (map.get layer.names link)) (get-kept exact_links tree.links (λ l. not (hides_names (map.get layer.nodes l.directory))) link)
    ∙ named-laid layer link (map.get layer.names link) (map.get tree.links link)

-- what a merge has at a number, a name and a block of a file
abbrev pub nodes_over : Option NodeChange → Option NodeChange → Option NodeChange
nodes_over older None = older
nodes_over older (Some newer) = Some (change_over older newer)

pub get-merge_nodes : (older newer : Layer) (number : ℕ) → map.get (merge older newer).nodes number ≡ nodes_over (map.get older.nodes number) (map.get newer.nodes number)
unfolding merge
get-merge_nodes older newer number =
    get-laid nat_cmp_total exact_unsigned (λ n c. Some (change_over (map.get older.nodes n) c)) newer.nodes older.nodes number
    ∙ told (map.get older.nodes number) (map.get newer.nodes number)
  where
    told : (o n : Option NodeChange) → unwrap_or (option_map (λ c. Some (change_over o c)) n) o ≡ nodes_over o n
    told o None = refl
    told o (Some c) = refl

-- the newer one's where it has one, else the older one's where it isn't hidden
abbrev pub kept_under : {X : Type 0} → Option X → Bool → Option X → Option X
kept_under (Some x) hidden older = Some x
kept_under None true older = None
kept_under None false older = older

kept-laid : {X : Type 0} (n : Option X) (b : Bool) (o : Option X) → unwrap_or (option_map (λ c. Some c) n) (cond (not b) o None) ≡ kept_under n b o
kept-laid (Some x) b o = refl
kept-laid None true o = refl
kept-laid None false o = refl

pub get-merge_names : (older newer : Layer) (link : Link) → map.get (merge older newer).names link ≡ kept_under (map.get newer.names link) (hides_names (map.get newer.nodes link.directory)) (map.get older.names link)
unfolding merge
get-merge_names older newer link =
    get-laid links_total exact_links (λ _ v. Some v) newer.names (map.retain_keys older.names (λ l. not (hides_names (map.get newer.nodes l.directory)))) link
    ∙ ap (unwrap_or (option_map (λ v. Some v) (map.get newer.names link))) (get-kept exact_links older.names (λ l. not (hides_names (map.get newer.nodes l.directory))) link)
    ∙ kept-laid (map.get newer.names link) (hides_names (map.get newer.nodes link.directory)) (map.get older.names link)

pub get-merge_blocks : (older newer : Layer) (file_block : FileBlock) → map.get (merge older newer).blocks file_block ≡ kept_under (map.get newer.blocks file_block) (hides_block (map.get newer.nodes file_block.file) file_block.index) (map.get older.blocks file_block)
unfolding merge
get-merge_blocks older newer file_block =
    get-laid file_blocks_total exact_file_blocks (λ _ v. Some v) newer.blocks (map.retain_keys older.blocks (λ p. not (hides_block (map.get newer.nodes p.file) p.index))) file_block
    ∙ ap (unwrap_or (option_map (λ v. Some v) (map.get newer.blocks file_block))) (get-kept exact_file_blocks older.blocks (λ p. not (hides_block (map.get newer.nodes p.file) p.index)) file_block)
    ∙ kept-laid (map.get newer.blocks file_block) (hides_block (map.get newer.nodes file_block.file) file_block.index) (map.get older.blocks file_block)
