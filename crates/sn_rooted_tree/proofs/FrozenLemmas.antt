-- The trees of a root's snapshots, by their names.
use Rattle.std.proofs.Common.{◌≡◌, ℕ, zero, suc, List, [], ◌∷◌, drop, take, get_or, length, map, Option, None, Some, refl, sym, ap, ◌∙◌, arith}
use Rattle.std.specs.FinMap as fin
use Rattle.std.specs.FinMap.Entries.{by_order, put}
use Rattle.std.specs.Option.{option_map, unwrap_or}
use Rattle.std.specs.declared.cmp.Ordering.{Ordering}
use Rattle.std.specs.declared.cmp.Ordering.TheVariants.{Less, Equal, Greater}
use Rattle.sn_image.specs.Image.{image}
use Rattle.sn_layout.specs.declared.root.RootBody.{RootBody}
use Rattle.sn_layout.specs.declared.snapshot.Snapshot.{Snapshot}
use Rattle.sn_layout.specs.declared.tree.BlockTree.{BlockTree}
use Rattle.sn_model.specs.FileCalls.{bytes_of}
use Rattle.sn_model.specs.Tree.{Node, Tree}
use Rattle.sn_ondisk.specs.Trees.{Store}
use Rattle.sn_overlay.specs.Seen.{seen_node, seen_of}
use Rattle.sn_overlay.specs.declared.node.SeenNode.{SeenNode}
use Rattle.sn_rooted.specs.Roots.{IsSoundRoot, file_in, trees_at}
use Rattle.sn_rooted.proofs.ViewLemmas.{home_sound, no_tree, tree_of_file}
use Rattle.sn_rooted_tree.specs.Frozen.{AreSoundFrozen}
use Rattle.sn_snap.specs.Catalogue.{by_name}
use Rattle.sn_snap.proofs.NameLemmas.{by_bytes, names_total}
use Rattle.sn_snap.proofs.SortLemmas.{no_keys}
use Rattle.sn_walk.specs.declared.object.Home.TheVariants.{Frozen}

-- ---- the tree of a snapshot

module _ (s : Store) (root : RootBody) (name : List ℕ) (found : Option BlockTree) (looked_up : found ≡ file_in root (Frozen name)) where
  pub none_frozen : found ≡ None → fin.get (trees_at s root).frozen name ≡ None
  none_frozen none = no_tree s root (Frozen name) (sym looked_up ∙ none)

  module _ (file : BlockTree) (is : found ≡ Some file) where
    pub frozen_tree : fin.get (trees_at s root).frozen name ≡ Some (image s file)
    frozen_tree = tree_of_file s root (Frozen name) file (sym looked_up ∙ is)

    pub frozen_sound : (sectors : ℕ) → IsSoundRoot root.limits sectors s root.inode_file → AreSoundFrozen sectors s root → IsSoundRoot root.limits sectors s file
    frozen_sound sectors live frozen = home_sound sectors s root (Frozen name) file (record { live = live; frozen = frozen }) (sym looked_up ∙ is)

-- ---- how many bytes a node has

-- of a node that is seen it is known
pub seen_long : (tree : Tree) (number : ℕ) (node : SeenNode) → Some node ≡ seen_node tree number → node.size ≡ length (bytes_of (fin.get tree.nodes number))
seen_long tree number node is = told (fin.get tree.nodes number) is
  where
    told : (o : Option Node) → Some node ≡ option_map (seen_of tree number) o → node.size ≡ length (bytes_of o)
    told None e = absurd cc
    told (Some x) e = ap (λ (o : Option SeenNode). (unwrap_or o node).size) e

pub none_long : (tree : Tree) (number : ℕ) → None ≡ seen_node tree number → 0 ≡ length (bytes_of (fin.get tree.nodes number))
none_long tree number is = told (fin.get tree.nodes number) is
  where
    told : (o : Option Node) → None ≡ option_map (seen_of tree number) o → 0 ≡ length (bytes_of o)
    told None e = refl
    told (Some x) e = absurd cc

-- what isn't there has no bytes
none_taken : (count : ℕ) → take {A = ℕ} count [] ≡ []
none_taken zero = refl
none_taken (suc count) = refl

pub none_read : (count offset : ℕ) → take {A = ℕ} count (drop {A = ℕ} offset []) ≡ []
none_read count zero = none_taken count
none_read count (suc offset) = none_taken count

-- ---- the names of all snapshots

abbrev keys_of : {X : Type 0} → List (List ℕ × X) → List (List ℕ)
keys_of es = map (λ e. e.0) es

module _ {X Y : Type 0} where
  put_first : (k : List ℕ) (v : X) (w : Y) (e : List ℕ × X) (f : List ℕ × Y) (es : List (List ℕ × X)) (fs : List (List ℕ × Y)) (r : Ordering) → e.0 ≡ f.0 → keys_of es ≡ keys_of fs → keys_of (put by_bytes k v es) ≡ keys_of (put by_bytes k w fs)
      → keys_of (by_order r ((k, v) ∷ e ∷ es) ((e.0, v) ∷ es) (e ∷ put by_bytes k v es)) ≡ keys_of (by_order r ((k, w) ∷ f ∷ fs) ((f.0, w) ∷ fs) (f ∷ put by_bytes k w fs))
  put_first k v w e f es fs Less first same rest = λ i. k ∷ first i ∷ same i
  put_first k v w e f es fs Equal first same rest = λ i. first i ∷ same i
  put_first k v w e f es fs Greater first same rest = λ i. first i ∷ rest i

  -- which keys there are is determined by those that were put there, whatever is with them
  keys-put : (k : List ℕ) (v : X) (w : Y) (es : List (List ℕ × X)) (fs : List (List ℕ × Y)) → keys_of es ≡ keys_of fs → keys_of (put by_bytes k v es) ≡ keys_of (put by_bytes k w fs)
  keys-put k v w [] [] same = refl
  keys-put k v w [] (f ∷ fs) same = absurd (omega (arith, ap length same))
  keys-put k v w (e ∷ es) [] same = absurd (omega (arith, ap length same))
  keys-put k v w (e ∷ es) (f ∷ fs) same =
      let first : e.0 ≡ f.0 = ap (λ (names : List (List ℕ)). get_or names 0 []) same in
      let rest : keys_of es ≡ keys_of fs = ap (λ (names : List (List ℕ)). drop 1 names) same in
      put_first k v w e f es fs (by_bytes k e.0) first rest (keys-put k v w es fs rest)
      ∙ ap (λ r. keys_of (by_order r ((k, w) ∷ f ∷ fs) ((f.0, w) ∷ fs) (f ∷ put by_bytes k w fs))) (ap (by_bytes k) first)

  -- the names of snapshots are the same, whatever is said of each
  pub same_names : (a : Snapshot → X) (b : Snapshot → Y) (snapshots : List Snapshot) → fin.keys (by_name a snapshots) ≡ fin.keys (by_name b snapshots)
  same_names a b [] = no_keys X ∙ sym (no_keys Y)
  same_names a b (s ∷ more) =
      ap keys_of (fin.entries-insert names_total (by_name a more) s.name (a s))
      ∙ keys-put s.name (a s) (b s) (fin.entries (by_name a more)) (fin.entries (by_name b more)) (same_names a b more)
      ∙ sym (ap keys_of (fin.entries-insert names_total (by_name b more) s.name (b s)))
