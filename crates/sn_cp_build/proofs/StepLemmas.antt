-- One more node of a layer is planned.
use Rattle.std.proofs.Common.{◌≡◌, ℕ, ◌+◌, ◌<◌, ◌≤◌, List, [], ◌∷◌, ◌++◌, length, sum_by, map, take, drop, Option, None, refl, sym, ap, subst, ◌∙◌, arith}
use Rattle.std.specs.Prelude.{Contains, slice_index}
use Rattle.std.specs.List.Sorted.{IsStrictlyIncreasing}
use Rattle.std.specs.FinMap as fin
use Rattle.std.proofs.lemmas.List.{take_more, take-append-drop, take_all, length-map, length-append}
use Rattle.std.proofs.lemmas.List.Sums.{sum_by_more_le}
use Rattle.sn_alloc.specs.Taking.{free_data}
use Rattle.sn_inode.specs.declared.changes.InodeChange.{InodeChange}
use Rattle.sn_layout.specs.declared.tree.BlockTree.{BlockTree}
use Rattle.sn_limits.specs.declared.limits.Limits.{Limits}
use Rattle.sn_ondisk.specs.Trees.{Store}
use Rattle.sn_overlay.specs.Layers.{Layer}
use Rattle.sn_overlay.specs.Lists.{without_blocks, written_blocks}
use Rattle.sn_overlay.specs.declared.node.NodeChange.{NodeChange}
use Rattle.sn_tree.specs.Drafts.{Draft}
use Rattle.sn_cp_nodes.specs.Built.{BuildsNode, IsSafeGround}
use Rattle.sn_cp_nodes.proofs.PutLemmas.{keeps_grown}
use Rattle.sn_cp_build.specs.Planned.{AreBuilt, more, IsFor, IsLeft, listed, most_for, numbers_of}
use Rattle.sn_cp_build.proofs.BuiltLemmas.{has_grown}
use Rattle.sn_cp_build.proofs.NodesLemmas.{built_there, left_more}
use Rattle.sn_cp_build.proofs.RiseLemmas.{below_last, front_rises, layer_rises}

module _ (Told : Type 0) (limits : Limits) (s t : Store) (file : BlockTree) (layer left : Layer) (old between new : Draft) (k : ℕ) (changes after : List InodeChange) (change : Option InodeChange)
    (so_far : IsLeft layer (take k (numbers_of layer)) left) (within : k < length (numbers_of left)) where
  same_numbers : numbers_of left ≡ numbers_of layer
  same_numbers = ap (λ m. map (λ (e : ℕ × NodeChange). e.0) (fin.entries m)) so_far.nodes

  pub inside : k < length (numbers_of layer)
  inside = omega (arith, within, ap (λ (ns : List ℕ). length ns) same_numbers)

  abbrev number : ℕ
  number = slice_index (numbers_of left) k

  taken_more : take (k + 1) (numbers_of layer) ≡ take k (numbers_of layer) ++ number ∷ []
  taken_more = take_more (numbers_of layer) k 0 inside ∙ ap (λ (ns : List ℕ). take k (numbers_of layer) ++ slice_index ns k ∷ []) (sym same_numbers)

  -- it wasn't planned before
  fresh : ¬ Contains (take k (numbers_of layer)) number
  fresh among =
      let rises = front_rises (take (k + 1) (numbers_of layer)) (drop (k + 1) (numbers_of layer)) (subst IsStrictlyIncreasing (sym (take-append-drop (k + 1) (numbers_of layer))) (layer_rises layer)) in
      let less = below_last (take k (numbers_of layer)) number (subst IsStrictlyIncreasing taken_more rises) number among in
      omega (arith, less)

  pub left_then : (behind : Layer) → behind ≡ without_blocks left (slice_index (numbers_of left) k) → IsLeft layer (take (k + 1) (numbers_of layer)) behind
  left_then behind is = subst (λ (ns : List ℕ). IsLeft layer ns behind) (sym taken_more) (left_more layer left (take k (numbers_of layer)) number so_far behind is)

  pub built_then : (Told → t ≡ s) → AreBuilt Told limits s file layer old (take k (numbers_of layer)) changes between → IsFor limits (slice_index (numbers_of left) k) change
      → ((l : Layer) → l.nodes ≡ left.nodes → l.names ≡ left.names → written_blocks l (slice_index (numbers_of left) k) ≡ written_blocks left (slice_index (numbers_of left) k) → BuildsNode Told limits t file l (slice_index (numbers_of left) k) change between new)
      → after ≡ changes ++ listed change → AreBuilt Told limits s file layer old (take (k + 1) (numbers_of layer)) after new
  built_then same before is builds after_is =
      let one = built_there Told limits s t file layer same number change between new (builds layer (sym so_far.nodes) (sym so_far.names) (sym (so_far.blocks number fresh))) in
      subst (λ (cs : List InodeChange). AreBuilt Told limits s file layer old (take (k + 1) (numbers_of layer)) cs new) (sym after_is)
      (subst (λ (ns : List ℕ). AreBuilt Told limits s file layer old ns (changes ++ listed change) new) (sym taken_more)
      (more (take k (numbers_of layer)) changes between new number change before is one))

pub left_first : (layer : Layer) → IsLeft layer [] layer
left_first layer = record { nodes = refl; names = refl; blocks = λ number apart. refl }

-- each number is in what is left, too
pub inside_left : (layer left : Layer) (k : ℕ) (xs : List ℕ) → IsLeft layer xs left → (entries : List (ℕ × NodeChange)) → entries ≡ fin.entries layer.nodes → k < length entries → k < length (numbers_of left)
inside_left layer left k xs so_far entries is within =
    let same : numbers_of left ≡ numbers_of layer = ap (λ m. map (λ (e : ℕ × NodeChange). e.0) (fin.entries m)) so_far.nodes in
    omega (arith, within, ap (λ (es : List (ℕ × NodeChange)). length es) is, length-map (fin.entries layer.nodes) (λ (e : ℕ × NodeChange). e.0), ap (λ (ns : List ℕ). length ns) same)

pub all_built : (Told : Type 0) (limits : Limits) (s : Store) (file : BlockTree) (layer : Layer) (old new : Draft) (k : ℕ) (changes : List InodeChange) → (entries : List (ℕ × NodeChange)) → entries ≡ fin.entries layer.nodes → length entries ≤ k
    → AreBuilt Told limits s file layer old (take k (numbers_of layer)) changes new → AreBuilt Told limits s file layer old (numbers_of layer) changes new
all_built Told limits s file layer old new k changes entries is all built =
    subst (λ (ns : List ℕ). AreBuilt Told limits s file layer old ns changes new)
    (take_all k (numbers_of layer) (omega (arith, all, ap (λ (es : List (ℕ × NodeChange)). length es) is, length-map (fin.entries layer.nodes) (λ (e : ℕ × NodeChange). e.0)))) built

pub taken_rise : (layer : Layer) (k : ℕ) → IsStrictlyIncreasing (take k (numbers_of layer))
taken_rise layer k = front_rises (take k (numbers_of layer)) (drop k (numbers_of layer)) (subst IsStrictlyIncreasing (sym (take-append-drop k (numbers_of layer))) (layer_rises layer))

-- ---- where a node finds too little room, all nodes do

module _ (Told : Type 0) (limits : Limits) (s : Store) (file : BlockTree) (layer left : Layer) (old between : Draft) (k : ℕ) (changes : List InodeChange)
    (so_far : IsLeft layer (take k (numbers_of layer)) left) (within : k < length (numbers_of left)) (built : AreBuilt Told limits s file layer old (take k (numbers_of layer)) changes between) where
  pub too_full : free_data between.words between.first < length between.added + most_for limits layer (slice_index (numbers_of left) k)
      → free_data old.words old.first < length old.added + sum_by (most_for limits layer) (numbers_of layer)
  too_full less =
      let same : numbers_of left ≡ numbers_of layer = ap (λ m. map (λ (e : ℕ × NodeChange). e.0) (fin.entries m)) so_far.nodes in
      let grew = has_grown limits s file layer Told old (take k (numbers_of layer)) changes between built in
      let there : k < length (numbers_of layer) = omega (arith, within, ap (λ (ns : List ℕ). length ns) same) in
      let here = subst (λ (d : Draft). free_data d.words d.first < length d.added + most_for limits layer (slice_index (numbers_of left) k)) grew.grew less in
      omega (
        arith,
        here,
        length-append old.added grew.added,
        grew.few,
        ap (λ (ns : List ℕ). most_for limits layer (slice_index ns k)) same,
        sum_by_more_le (most_for limits layer) (numbers_of layer) k 0 there,
      )

  -- what is so of a ground when it begins is so in between
  pub damaged_then : (n sectors : ℕ) → IsSafeGround limits n sectors s file layer old → (layer.nodes ≡ left.nodes → layer.names ≡ left.names → written_blocks layer (slice_index (numbers_of left) k) ≡ written_blocks left (slice_index (numbers_of left) k)
      → IsSafeGround limits n sectors s file layer between → ⊥) → ⊥
  damaged_then n sectors safe never =
      let grew = has_grown limits s file layer Told old (take k (numbers_of layer)) changes between built in
      never (sym so_far.nodes) (sym so_far.names) (sym (so_far.blocks (slice_index (numbers_of left) k) (fresh Told limits s s file layer left old between between k changes changes None so_far within)))
      (record { ground = safe.ground; room = safe.room; kept = keeps_grown s file old between safe.kept grew.added grew.released grew.grew })

  pub full_then : (t : Store) → (layer.nodes ≡ left.nodes → layer.names ≡ left.names → written_blocks layer (slice_index (numbers_of left) k) ≡ written_blocks left (slice_index (numbers_of left) k)
      → free_data between.words between.first < length between.added + most_for limits layer (slice_index (numbers_of left) k)) → free_data old.words old.first < length old.added + sum_by (most_for limits layer) (numbers_of layer)
  full_then t less = too_full (less (sym so_far.nodes) (sym so_far.names) (sym (so_far.blocks (slice_index (numbers_of left) k) (fresh Told limits s t file layer left old between between k changes changes None so_far within))))
