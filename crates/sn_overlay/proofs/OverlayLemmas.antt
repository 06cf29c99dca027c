-- Sorted entries as finite maps.
use Rattle.std.proofs.Common.{◌≡◌, ℕ, Bool, true, false, cond, List, Option, Some, map, refl, sym, ap, ◌∙◌}
use Rattle.std.specs.declared.boxed.Box.{Box}
use Rattle.std.specs.Global.{Global}
use Rattle.std.specs.declared.cmp.Ordering.{Ordering}
use Rattle.std.specs.Ordering.{nat_cmp, eq_by_cmp}
use Rattle.std.specs.Option.{option_map}
use Rattle.std.specs.Cmp.{IsTotalOrder, nat_cmp_total}
use Rattle.std.specs.FinMap as fin
use Rattle.std.specs.FinMap.Entries.{put, find-put}
use Rattle.std.proofs.lemmas.Map.Lookups.{CmpEqualImpliesEq, exact_unsigned}
use Rattle.sn_model.specs.declared.link.Link.{Link}
use Rattle.sn_model.specs.Tree.{link_cmp}
use Rattle.sn_model.proofs.LinkLemmas.{exact_links, links_total}
use Rattle.sn_overlay.specs.declared.file_block.FileBlock.{FileBlock}
use Rattle.sn_overlay.specs.declared.node.NodeChange.{NodeChange}
use Rattle.sn_overlay.specs.Keys.{file_block_cmp}
use Rattle.sn_overlay.specs.Overlays.{nodes_of, names_of, blocks_of}
use Rattle.sn_overlay.proofs.OverlaidLemmas.{exact_file_blocks, file_blocks_total, find-mapped}

pub from_entries-put : {K X : Type 0} {R : K → K → Ordering} → IsTotalOrder R → CmpEqualImpliesEq R → (es : List (K × X)) (k : K) (v : X) → fin.from_entries {R = R} (put R k v es) ≡ fin.insert (fin.from_entries es) k v
from_entries-put {K} {X} {R} o exact es k v = fin.same_map o exact _ _ (λ q.
    fin.get-from_entries o (put R k v es) q ∙ find-put R o q k v es
    ∙ sym (fin.get-insert o (fin.from_entries es) k v q ∙ ap (cond (eq_by_cmp R q k) (Some v)) (fin.get-from_entries o es q)))

pub get-nodes_of : (es : List (ℕ × NodeChange)) (q : ℕ) → fin.get (nodes_of es) q ≡ fin.find nat_cmp q es
unfolding nodes_of
get-nodes_of es q = fin.get-from_entries nat_cmp_total es q

pub get-names_of : (es : List (Link × Option ℕ)) (q : Link) → fin.get (names_of es) q ≡ fin.find link_cmp q es
unfolding names_of
get-names_of es q = fin.get-from_entries links_total es q

pub get-blocks_of : (es : List (FileBlock × Box (List ℕ) Global)) (q : FileBlock) → fin.get (blocks_of es) q ≡ option_map (λ (b : Box (List ℕ) Global). b.value) (fin.find file_block_cmp q es)
unfolding blocks_of
get-blocks_of es q = fin.get-from_entries file_blocks_total (map (λ e. (e.0, e.1.value)) es) q ∙ find-mapped file_block_cmp exact_file_blocks (λ _ (b : Box (List ℕ) Global). b.value) es q

pub nodes_of-put : (es : List (ℕ × NodeChange)) (k : ℕ) (v : NodeChange) → nodes_of (put nat_cmp k v es) ≡ fin.insert (nodes_of es) k v
unfolding nodes_of
nodes_of-put es k v = from_entries-put nat_cmp_total exact_unsigned es k v

pub names_of-put : (es : List (Link × Option ℕ)) (k : Link) (v : Option ℕ) → names_of (put link_cmp k v es) ≡ fin.insert (names_of es) k v
unfolding names_of
names_of-put es k v = from_entries-put links_total exact_links es k v

map-cond : {X Y : Type 0} (f : X → Y) (b : Bool) (x : X) (o : Option X) → option_map f (cond b (Some x) o) ≡ cond b (Some (f x)) (option_map f o)
map-cond f true x o = refl
map-cond f false x o = refl

pub blocks_of-put : (es : List (FileBlock × Box (List ℕ) Global)) (k : FileBlock) (v : Box (List ℕ) Global) → blocks_of (put file_block_cmp k v es) ≡ fin.insert (blocks_of es) k v.value
blocks_of-put es k v = fin.same_map file_blocks_total exact_file_blocks _ _ (λ q.
    get-blocks_of (put file_block_cmp k v es) q
    ∙ ap (option_map (λ (b : Box (List ℕ) Global). b.value)) (find-put file_block_cmp file_blocks_total q k v es)
    ∙ map-cond (λ (b : Box (List ℕ) Global). b.value) (eq_by_cmp file_block_cmp q k) v (fin.find file_block_cmp q es)
    ∙ sym (fin.get-insert file_blocks_total (blocks_of es) k v.value q ∙ ap (cond (eq_by_cmp file_block_cmp q k) (Some v.value)) (get-blocks_of es q)))
