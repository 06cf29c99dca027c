-- The layer of a change is whole, and fits the tree that it changes.
use Rattle.std.proofs.Common.{◌≡◌, ℕ, zero, suc, ◌+◌, ◌*◌, ◌<◌, ◌≤◌, Bool, true, false, cond, List, length, get_or, Option, Some, None, is_some, refl, sym, ap, subst, ◌∙◌, arith}
use Rattle.std.specs.declared.cmp.Ordering.{Ordering}
use Rattle.std.specs.Option.{option_map, unwrap_or}
use Rattle.std.specs.Ordering.{nat_cmp, eq_by_cmp}
use Rattle.std.specs.Cmp.{IsTotalOrder, nat_cmp_total}
use Rattle.std.specs.FinMap as map
use Rattle.std.proofs.lemmas.Bool.{true≢false}
use Rattle.std.proofs.lemmas.List.{get_or_past}
use Rattle.std.proofs.lemmas.Map.Views.{tells_apart}
use Rattle.std.proofs.lemmas.Map.Lookups.{CmpEqualImpliesEq, exact_unsigned}
use Rattle.sn_acl.specs.declared.entries.Entry.{Entry}
use Rattle.sn_limits.specs.declared.kind.Kind.{Kind}
use Rattle.sn_walk.specs.Views.{is_directory}
use Rattle.sn_model.specs.declared.change.Ownership.{Ownership}
use Rattle.sn_model.specs.Tree.{Node, Tree, link_cmp}
use Rattle.sn_model.specs.Changes.{ownership_of}
use Rattle.sn_model.proofs.ChainLemmas.{some_same, some_none}
use Rattle.sn_model.proofs.MapLemmas.{get_inserted}
use Rattle.sn_overlay.specs.declared.file_block.FileBlock.{FileBlock}
use Rattle.sn_overlay.specs.declared.node.NodeChange.{NodeChange}
use Rattle.sn_overlay.specs.declared.node.NodeChange.TheVariants.{Gone, Changed}
use Rattle.sn_overlay.specs.declared.node.NodeState.{NodeState}
use Rattle.sn_overlay.specs.Pieces.{zeros, piece}
use Rattle.sn_overlay.specs.Keys.{file_block_cmp, file_block_at}
use Rattle.sn_overlay.specs.Layers.{Layer, IsLayer, Fits, hides_block, block_seen, bytes_of, acls_of}
use Rattle.sn_overlay.specs.Overlays.{no_changes, with_node}
use Rattle.sn_overlay_change.specs.ChangeLayers.{state_of, new_state, with_change, changing, touching, one_name_less, without_name, with_blocks}
use Rattle.sn_overlay.proofs.OverlaidLemmas.{exact_file_blocks, file_blocks_total}
use Rattle.sn_overlay.proofs.PieceLemmas.{get_or-zeros, get_or-piece}

-- each entry of a map
abbrev pub Every : {K X : Type 0} {R : K → K → Ordering} → map.FinMap R X → (K → X → Type 0) → Type 0
Every {K} {X} m P = (k : K) (v : X) → map.get m k ≡ Some v → P k v

pub every_none : {K X : Type 0} (R : K → K → Ordering) (P : K → X → Type 0) → Every (map.empty {X = X} {R = R}) P
every_none R P k v e = absurd (some_none _ _ e (map.get-empty R k))

pub every_with : {K X : Type 0} {R : K → K → Ordering} → IsTotalOrder R → CmpEqualImpliesEq R → (m : map.FinMap R X) (P : K → X → Type 0) (key : K) (value : X) → Every m P → P key value → Every (map.insert m key value) P
every_with {K} {X} {R} o exact m P key value h here k v e = told (eq_by_cmp R k key) refl (sym (map.get-insert o m key value k) ∙ e)
  where
    told : (b : Bool) → eq_by_cmp R k key ≡ b → cond b (Some value) (map.get m k) ≡ Some v → P k v
    told true f g = subst (λ x. P k x) (some_same _ _ g) (subst (λ l. P l value) (sym (tells_apart exact k key f)) here)
    told false f g = h k v g

-- a node as a layer may have it over a tree
pub record IsSound (tree : Tree) (number : ℕ) (s : NodeState) : Type 0 where
  pub cut : s.cut ≤ s.size
  pub kinds : s.fresh ≡ false → option_map (λ (node : Node). node.kind) (map.get tree.nodes number) ≡ Some s.kind
  pub acls : s.fresh ≡ false → s.acl_changed ≡ false → option_map acls_of (map.get tree.nodes number) ≡ Some (s.ownership.acl, s.ownership.default_acl)
  pub zeros : (index at : ℕ) → at < 4096 → s.size ≤ index * 4096 + at → get_or (cond (hides_block (Some (Changed s)) index) (zeros 4096) (piece 4096 (bytes_of (map.get tree.nodes number)) index)) at 0 ≡ 0

abbrev pub Sound : Tree → ℕ → NodeChange → Type 0
Sound tree number (Gone by_close) = Unit {0}
Sound tree number (Changed s) = IsSound tree number s

-- the two ACLs
pub acls_in : Ownership → List Entry × Option (List Entry)
acls_in o = (o.acl, o.default_acl)

-- one that is there and keeps its kind, its bytes, and its ACLs unless it says otherwise
pub sound_kept : (tree : Tree) (number : ℕ) (s : NodeState) (node : Node) → map.get tree.nodes number ≡ Some node → s.size ≡ length node.bytes → s.cut ≡ length node.bytes → s.kind ≡ node.kind → (s.acl_changed ≡ false → s.ownership ≡ ownership_of node) → IsSound tree number s
unfolding acls_in
sound_kept tree number s node there size cut kind owned = record {
  cut = omega arith;
  kinds = λ _. ap (option_map (λ (node : Node). node.kind)) there ∙ ap (λ k. Some k) (sym kind);
  acls = λ _ e. ap (option_map acls_of) there ∙ ap (λ o. Some (acls_in o)) (sym (owned e));
  zeros = λ index at b k. ap (λ n. get_or (cond (hides_block (Some (Changed s)) index) (zeros 4096) (piece 4096 (bytes_of n) index)) at 0) there
      ∙ told index at b (omega arith) (hides_block (Some (Changed s)) index);
}
  where
    told : (index at : ℕ) → at < 4096 → length node.bytes ≤ index * 4096 + at → (x : Bool) → get_or (cond x (zeros 4096) (piece 4096 node.bytes index)) at 0 ≡ 0
    told index at b k true = get_or-zeros 4096 at
    told index at b k false = get_or-piece 4096 node.bytes index at b ∙ get_or_past node.bytes (index * 4096 + at) 0 k

pub sound_new : (tree : Tree) (number : ℕ) (kind : Kind) (o : Ownership) → IsSound tree number (new_state kind o)
sound_new tree number kind o = record {
  cut = omega arith;
  kinds = λ e. absurd (true≢false e);
  acls = λ e. absurd (true≢false e);
  zeros = λ index at b k. get_or-zeros 4096 at;
}

-- whether a layer has a number
abbrev pub Has : Layer → ℕ → Type 0
Has layer number = is_some (map.get layer.nodes number) ≡ true

pub has_with : (layer : Layer) (number : ℕ) (change : NodeChange) (q : ℕ) → Has layer q → Has (with_node layer number change) q
has_with layer number change q h = ap is_some (map.get-insert nat_cmp_total layer.nodes number change q) ∙ told (eq_by_cmp nat_cmp q number)
  where
    told : (b : Bool) → is_some (cond b (Some change) (map.get layer.nodes q)) ≡ true
    told true = refl
    told false = h

pub has_it : (layer : Layer) (number : ℕ) (change : NodeChange) → Has (with_node layer number change) number
has_it layer number change = ap is_some (get_inserted nat_cmp_total layer.nodes number change)

-- nodes alone, each as it may be
pub record IsSoundLayer (layer : Layer) (tree : Tree) : Type 0 where
  pub nodes : Every layer.nodes (Sound tree)
  pub names : layer.names ≡ map.empty
  pub blocks : layer.blocks ≡ map.empty

pub sound_none : (tree : Tree) → IsSoundLayer no_changes tree
sound_none tree = record { nodes = every_none nat_cmp (Sound tree); names = refl; blocks = refl }

pub sound_with : (layer : Layer) (tree : Tree) (number : ℕ) (change : NodeChange) → IsSoundLayer layer tree → Sound tree number change → IsSoundLayer (with_node layer number change) tree
sound_with layer tree number change h here = record {
  nodes = every_with nat_cmp_total exact_unsigned layer.nodes (Sound tree) number change h.nodes here;
  names = h.names;
  blocks = h.blocks;
}

-- A node that is changed without its kind and its bytes, and without its ACLs unless it says otherwise.
pub record KeepsBytes (f : NodeState → NodeState) : Type 0 where
  pub size : (s : NodeState) → (f s).size ≡ s.size
  pub cut : (s : NodeState) → (f s).cut ≡ s.cut
  pub kind : (s : NodeState) → (f s).kind ≡ s.kind
  pub owned : (s : NodeState) → (f s).acl_changed ≡ false → (f s).ownership ≡ s.ownership

pub sound_change : (layer : Layer) (tree : Tree) (number : ℕ) (f : NodeState → NodeState) (found : Option Node) → KeepsBytes f → map.get tree.nodes number ≡ found → IsSoundLayer layer tree → IsSoundLayer (with_change tree number f layer found) tree
sound_change layer tree number f None keeps e h = h
sound_change layer tree number f (Some node) keeps e h =
    let s = state_of tree number node in
    sound_with layer tree number (Changed (f s)) h (sound_kept tree number (f s) node e (keeps.size s) (keeps.cut s) (keeps.kind s) (keeps.owned s))

pub sound_changing : (layer : Layer) (tree : Tree) (number : ℕ) (f : NodeState → NodeState) → KeepsBytes f → IsSoundLayer layer tree → IsSoundLayer (changing tree number f layer) tree
sound_changing layer tree number f keeps h = sound_change layer tree number f (map.get tree.nodes number) keeps refl h

pub keeps_same : KeepsBytes (λ state. state)
keeps_same = record { size = λ s. refl; cut = λ s. refl; kind = λ s. refl; owned = λ s e. refl }

pub sound_touching : (layer : Layer) (tree : Tree) (number : ℕ) → IsSoundLayer layer tree → IsSoundLayer (touching tree number layer) tree
sound_touching layer tree number h = sound_changing layer tree number (λ state. state) keeps_same h

pub sound_without : (layer : Layer) (tree : Tree) (number : ℕ) (found : Option Node) → map.get tree.nodes number ≡ found → IsSoundLayer layer tree → IsSoundLayer (without_name tree number layer found) tree
sound_without layer tree number None e h = h
sound_without layer tree number (Some node) e h = told (is_directory node.kind)
  where
    told : (b : Bool) → IsSoundLayer (with_node layer number (cond b (Gone false) (Changed (one_name_less (state_of tree number node))))) tree
    told true = sound_with layer tree number (Gone false) h tt
    told false = sound_with layer tree number (Changed (one_name_less (state_of tree number node))) h (sound_kept tree number (one_name_less (state_of tree number node)) node e refl refl refl (λ _. refl))

-- what was there is, and what the tree has comes in
pub has_changing : (layer : Layer) (tree : Tree) (number : ℕ) (f : NodeState → NodeState) (q : ℕ) → Has layer q → Has (changing tree number f layer) q
has_changing layer tree number f q h = told (map.get tree.nodes number)
  where
    told : (found : Option Node) → Has (with_change tree number f layer found) q
    told None = h
    told (Some node) = has_with layer number (Changed (f (state_of tree number node))) q h

pub has_changed : (layer : Layer) (tree : Tree) (number : ℕ) (f : NodeState → NodeState) → is_some (map.get tree.nodes number) ≡ true → Has (changing tree number f layer) number
has_changed layer tree number f = told (map.get tree.nodes number)
  where
    told : (found : Option Node) → is_some found ≡ true → Has (with_change tree number f layer found) number
    told None h = absurd (true≢false (sym h))
    told (Some node) h = has_it layer number (Changed (f (state_of tree number node)))

pub has_without : (layer : Layer) (tree : Tree) (number : ℕ) (found : Option Node) (q : ℕ) → Has layer q → Has (without_name tree number layer found) q
has_without layer tree number None q h = h
has_without layer tree number (Some node) q h = has_with layer number (cond (is_directory node.kind) (Gone false) (Changed (one_name_less (state_of tree number node)))) q h

-- names of directories that a layer has
abbrev pub AreIn : Layer → map.FinMap link_cmp (Option ℕ) → Type 0
AreIn layer names = Every names (λ link value. Has layer link.directory)

some_is : {A : Type 0} (o : Option A) → is_some o ≡ true → (x : A) × (o ≡ Some x)
some_is None h = absurd (true≢false (sym h))
some_is (Some x) h = (x, refl)

-- a layer of nodes with names in them is whole, and fits
abbrev pub IsWhole : Layer → Tree → Type 0
IsWhole layer tree = IsLayer layer × Fits layer tree

pub whole_names : (layer : Layer) (tree : Tree) (names : map.FinMap link_cmp (Option ℕ)) → IsSoundLayer layer tree → AreIn layer names → IsWhole (record layer { names = names }) tree
whole_names layer tree names h are = (
  record {
    names = λ link e. let s = some_is _ e in are link s.0 s.1;
    blocks = λ file_block e. absurd (true≢false (sym e ∙ ap is_some (no_block file_block)));
    lengths = λ file_block bytes e. absurd (some_none _ _ e (no_block file_block));
    begins = λ file_block state e f. absurd (true≢false (sym e ∙ ap is_some (no_block file_block)));
    cuts = λ number state e. (h.nodes number (Changed state) e).cut;
  },
  record {
    kinds = λ number state e f. (h.nodes number (Changed state) e).kinds f;
    acls = λ number state e f g. (h.nodes number (Changed state) e).acls f g;
    zeros = λ number state index at e b k. ap (λ found. get_or (unwrap_or found (cond (hides_block (Some (Changed state)) index) (zeros 4096) (piece 4096 (bytes_of (map.get tree.nodes number)) index))) at 0) (no_block (file_block_at number index))
        ∙ (h.nodes number (Changed state) e).zeros index at b k;
  },
)
  where
    no_block : (file_block : FileBlock) → map.get layer.blocks file_block ≡ None
    no_block file_block = ap (λ m. map.get m file_block) h.blocks ∙ map.get-empty file_block_cmp file_block

-- the state of a file whose blocks a layer has
record IsFileState (layer : Layer) (tree : Tree) (number : ℕ) (s : NodeState) : Type 0 where
  cut : s.cut ≤ s.size
  kinds : option_map (λ (node : Node). node.kind) (map.get tree.nodes number) ≡ Some s.kind
  acls : option_map acls_of (map.get tree.nodes number) ≡ Some (s.ownership.acl, s.ownership.default_acl)
  zeros : (index at : ℕ) → at < 4096 → s.size ≤ index * 4096 + at → get_or (block_seen layer number s (bytes_of (map.get tree.nodes number)) index) at 0 ≡ 0

abbrev FileState : Layer → Tree → ℕ → NodeChange → Type 0
FileState layer tree number (Gone by_close) = Unit {0}
FileState layer tree number (Changed s) = IsFileState layer tree number s

-- a block of one file, which begins before an end
pub record IsBlockOf (number size : ℕ) (file_block : FileBlock) (bytes : List ℕ) : Type 0 where
  pub file : file_block.file ≡ number
  pub long : length bytes ≡ 4096
  pub begins : file_block.index * 4096 < size

abbrev pub AreBlocks : ℕ → ℕ → map.FinMap file_block_cmp (List ℕ) → Type 0
AreBlocks number size blocks = Every blocks (IsBlockOf number size)

pub no_blocks : (number size : ℕ) → AreBlocks number size map.empty
no_blocks number size = every_none file_block_cmp (IsBlockOf number size)

-- a layer of one file and its blocks is whole, and fits
pub whole_file : (layer : Layer) (tree : Tree) (number : ℕ) (s : NodeState) (node : Node) (new : List ℕ) → layer.nodes ≡ map.insert map.empty number (Changed s) → layer.names ≡ map.empty → AreBlocks number s.size layer.blocks
    → map.get tree.nodes number ≡ Some node → s.kind ≡ node.kind → s.ownership ≡ ownership_of node → s.cut ≤ s.size → length new ≡ s.size → ((index : ℕ) → block_seen layer number s node.bytes index ≡ piece 4096 new index) → IsWhole layer tree
unfolding acls_in
whole_file layer tree number s node new nodes names blocks there kind owned cut size seen = (
  record {
    names = λ link e. absurd (true≢false (sym e ∙ ap is_some (ap (λ m. map.get m link) names ∙ map.get-empty link_cmp link)));
    blocks = λ file_block e.
        let found = some_is _ e in
        ap (λ q. is_some (map.get layer.nodes q)) (blocks file_block found.0 found.1).file ∙ ap (λ m. is_some (map.get m number)) nodes ∙ ap is_some (get_inserted nat_cmp_total map.empty number (Changed s));
    lengths = λ file_block bytes e. (blocks file_block bytes e).long;
    begins = λ file_block state e f.
        let found = some_is _ e in
        let it = blocks file_block found.0 found.1 in
        let one : Changed s ≡ Changed state = some_same _ _ (sym (ap (λ q. map.get layer.nodes q) it.file ∙ ap (λ m. map.get m number) nodes ∙ get_inserted nat_cmp_total map.empty number (Changed s)) ∙ f) in
        let same : s ≡ state = cc in
        subst (λ (t : NodeState). file_block.index * 4096 < t.size) same it.begins;
    cuts = λ q state e. (every q (Changed state) e).cut;
  },
  record {
    kinds = λ q state e f. (every q (Changed state) e).kinds;
    acls = λ q state e f g. (every q (Changed state) e).acls;
    zeros = λ q state index at e b k. (every q (Changed state) e).zeros index at b k;
  },
)
  where
    here : IsFileState layer tree number s
    here = record {
      cut = cut;
      kinds = ap (option_map (λ (node : Node). node.kind)) there ∙ ap (λ k. Some k) (sym kind);
      acls = ap (option_map acls_of) there ∙ ap (λ o. Some (acls_in o)) (sym owned);
      zeros = λ index at b k. ap (λ n. get_or (block_seen layer number s (bytes_of n) index) at 0) there
          ∙ ap (λ (l : List ℕ). get_or l at 0) (seen index)
          ∙ get_or-piece 4096 new index at b ∙ get_or_past new (index * 4096 + at) 0 (omega arith);
    }

    every : Every layer.nodes (FileState layer tree)
    every = subst (λ m. Every m (FileState layer tree)) (sym nodes) (every_with nat_cmp_total exact_unsigned map.empty (FileState layer tree) number (Changed s) (every_none nat_cmp (FileState layer tree)) here)

-- blocks that are written are the file's
pub blocks_written : (layer : Layer) (number size : ℕ) (block : ℕ → List ℕ) (first n : ℕ) → AreBlocks number size layer.blocks → ((index : ℕ) → length (block index) ≡ 4096) → ((index : ℕ) → index < first + n → index * 4096 < size) → AreBlocks number size (with_blocks layer number block first n).blocks
unfolding with_blocks
blocks_written layer number size block first zero h long within = h
blocks_written layer number size block first (suc n) h long within = every_with file_blocks_total exact_file_blocks (with_blocks layer number block first n).blocks (IsBlockOf number size)
    (file_block_at number (first + n)) (block (first + n)) (blocks_written layer number size block first n h long (λ index k. within index (omega arith)))
    (record { file = refl; long = long (first + n); begins = within (first + n) (omega arith) })
