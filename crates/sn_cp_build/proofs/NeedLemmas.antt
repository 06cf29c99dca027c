-- The blocks that are planned are no more than the layer needs.
use Rattle.std.proofs.Common.{◌≡◌, ◌≢◌, ⊎_elim, ℕ, ◌+◌, ◌*◌, ◌<◌, ◌≤◌, ◌==◌, Bool, false, cond, if◌then◌else◌, List, [], ◌∷◌, ◌++◌, length, count_by, sum_by, Option, None, Some, refl, sym, ap, subst, ◌∙◌, arith}
use Rattle.std.specs.declared.cmp.Ordering.{Ordering}
use Rattle.std.specs.FinMap as fin
use Rattle.std.specs.Cmp.{IsTotalOrder}
use Rattle.std.proofs.lemmas.Bool.{eq-eqb, ne_eqb, cases_eq}
use Rattle.std.proofs.Math.Nat.{mul-le-mul_left}
use Rattle.std.proofs.lemmas.List.{length-map, length-append, nil_from_length}
use Rattle.std.proofs.lemmas.List.Sums.{sum_by-cons}
use Rattle.std.proofs.lemmas.Map.Lookups.{CmpEqualImpliesEq}
use Rattle.sn_alloc.specs.Taking.{free_data}
use Rattle.sn_inode.specs.declared.changes.InodeChange.{InodeChange}
use Rattle.sn_layout.specs.declared.tree.BlockTree.{BlockTree}
use Rattle.sn_limits.specs.declared.limits.Limits.{Limits}
use Rattle.sn_model.specs.declared.link.Link.{Link}
use Rattle.sn_model.proofs.EntryLemmas.{total-retain}
use Rattle.sn_model.proofs.LinkLemmas.{exact_links, links_total}
use Rattle.sn_ondisk.specs.Counts.{times}
use Rattle.sn_ondisk.specs.Trees.{Store}
use Rattle.sn_overlay.specs.Layers.{Layer}
use Rattle.sn_overlay.specs.Lists.{changed_names, written_blocks}
use Rattle.sn_overlay.specs.Needs.{levels, need}
use Rattle.sn_overlay.specs.declared.file_block.FileBlock.{FileBlock}
use Rattle.sn_overlay.specs.declared.node.NodeChange.{NodeChange}
use Rattle.sn_overlay.proofs.OverlaidLemmas.{exact_file_blocks, file_blocks_total}
use Rattle.sn_tree.specs.Drafts.{Draft}
use Rattle.sn_cp_nodes.proofs.RiseLemmas.{rising_once}
use Rattle.sn_cp_build.specs.Building.{IsTreePlanned}
use Rattle.sn_cp_build.specs.Planned.{AreBuilt, none, more, listed, most_for, numbers_of}
use Rattle.sn_cp_build.proofs.BuiltLemmas.{has_grown}
use Rattle.sn_cp_build.proofs.FrozenLemmas.{added, first}
use Rattle.sn_cp_build.proofs.RiseLemmas.{layer_rises}
use Rattle.sn_cp_build.proofs.SumLemmas.{sum_alike, sum_both, sum_nothing}

ones : {X : Type 0} (xs : List X) → sum_by (λ (x : X). 1) xs ≡ length xs
ones [] = refl
ones {X} (x ∷ xs) = omega (arith, sum_by-cons (λ (y : X). 1) x xs, ones xs)

abbrev one_if : Bool → ℕ
one_if b = cond b 1 0

turned : (a b : ℕ) → one_if (a == b) ≡ one_if (b == a)
turned a b = ⊎_elim
    (λ (same : a ≡ b). ap one_if (eq-eqb a b same ∙ sym (eq-eqb b a (sym same))))
    (λ (other : a ≢ b). ap one_if (ne_eqb a b other ∙ sym (ne_eqb b a (λ e. other (sym e)))))
    (cases_eq a b)

-- Of entries, those that belong to one of some numbers, of which each occurs once, are no more than all.
module _ {X : Type 0} (number : X → ℕ) (numbers : List ℕ) (once : (n : ℕ) → times n numbers ≤ 1) where
  abbrev of_each : List X → ℕ
  of_each es = sum_by (λ (n : ℕ). count_by (λ (e : X). number e == n) es) numbers

  first_of : (e : X) → sum_by (λ (n : ℕ). one_if (number e == n)) numbers ≤ 1
  first_of e = omega (arith, sum_alike (λ (n : ℕ). one_if (number e == n)) (λ (n : ℕ). one_if (n == number e)) numbers (λ n. turned (number e) n), once (number e))

  split : (e : X) (es : List X) → of_each (e ∷ es) ≡ sum_by (λ (n : ℕ). one_if (number e == n)) numbers + of_each es
  split e es =
      sum_alike (λ (n : ℕ). count_by (λ (x : X). number x == n) (e ∷ es)) (λ (n : ℕ). one_if (number e == n) + count_by (λ (x : X). number x == n) es) numbers
      (λ n. sum_by-cons (λ (x : X). one_if (number x == n)) e es)
      ∙ sum_both (λ (n : ℕ). one_if (number e == n)) (λ (n : ℕ). count_by (λ (x : X). number x == n) es) numbers

  pub few_of : (es : List X) → of_each es ≤ length es
  few_of [] = omega (arith, sum_nothing numbers)
  few_of (e ∷ es) = omega (arith, split e es, first_of e, few_of es)

-- how many a map has of one number
module _ {K X : Type 0} {R : K → K → Ordering} (o : IsTotalOrder R) (exact : CmpEqualImpliesEq R) (number : K → ℕ) (m : fin.FinMap R X) where
  pub kept_count : (n : ℕ) → length (fin.entries (fin.retain_keys m (λ key. number key == n))) ≡ count_by (λ (e : K × X). number e.0 == n) (fin.entries m)
  kept_count n =
      sym (ones (fin.entries (fin.retain_keys m (λ key. number key == n))))
      ∙ total-retain o exact (λ (e : K × X). 1) m (λ key. number key == n)

module _ (limits : Limits) (layer : Layer) where
  once : (n : ℕ) → times n (numbers_of layer) ≤ 1
  once n = rising_once (numbers_of layer) (layer_rises layer) n

  few_names : sum_by (λ (n : ℕ). length (changed_names layer n)) (numbers_of layer) ≤ fin.len layer.names
  unfolding changed_names
  few_names = omega (
    arith,
    sum_alike (λ (n : ℕ). length (changed_names layer n)) (λ (n : ℕ). count_by (λ (e : Link × Option ℕ). e.0.directory == n) (fin.entries layer.names)) (numbers_of layer)
        (λ n. kept_count links_total exact_links (λ (link : Link). link.directory) layer.names n),
    few_of (λ (e : Link × Option ℕ). e.0.directory) (numbers_of layer) once (fin.entries layer.names),
    fin.len-entries layer.names,
  )

  few_blocks : sum_by (λ (n : ℕ). length (written_blocks layer n)) (numbers_of layer) ≤ fin.len layer.blocks
  unfolding written_blocks
  few_blocks = omega (
    arith,
    sum_alike (λ (n : ℕ). length (written_blocks layer n)) (λ (n : ℕ). count_by (λ (e : FileBlock × List ℕ). e.0.file == n) (fin.entries layer.blocks)) (numbers_of layer)
        (λ n. kept_count file_blocks_total exact_file_blocks (λ (block : FileBlock). block.file) layer.blocks n),
    few_of (λ (e : FileBlock × List ℕ). e.0.file) (numbers_of layer) once (fin.entries layer.blocks),
    fin.len-entries layer.blocks,
  )

  long : length (numbers_of layer) ≡ fin.len layer.nodes
  long = length-map (fin.entries layer.nodes) (λ (e : ℕ × NodeChange). e.0) ∙ sym (fin.len-entries layer.nodes)

  abbrev parts_of : List ℕ → ℕ
  parts_of numbers = sum_by (λ (n : ℕ). length (changed_names layer n)) numbers + sum_by (λ (n : ℕ). length (written_blocks layer n)) numbers + length numbers

  most_sum : (numbers : List ℕ) → sum_by (most_for limits layer) numbers ≡ levels limits * parts_of numbers
  most_sum [] = omega arith
  most_sum (n ∷ ns) =
      let one : parts_of (n ∷ ns) ≡ (length (changed_names layer n) + length (written_blocks layer n) + 1) + parts_of ns =
      omega (arith, sum_by-cons (λ (k : ℕ). length (changed_names layer k)) n ns, sum_by-cons (λ (k : ℕ). length (written_blocks layer k)) n ns) in
      omega (arith, sum_by-cons (most_for limits layer) n ns, most_sum ns, ap (λ (t : ℕ). levels limits * t) one)

  pub most_needed : sum_by (most_for limits layer) (numbers_of layer) ≤ levels limits * (fin.len layer.nodes + (fin.len layer.names + fin.len layer.blocks))
  most_needed =
      let few : parts_of (numbers_of layer) ≤ fin.len layer.nodes + (fin.len layer.names + fin.len layer.blocks) = omega (arith, few_names, few_blocks, long) in
      omega (arith, most_sum (numbers_of layer), mul-le-mul_left (levels limits) few)

  few_listed : (change : Option InodeChange) → length (listed change) ≤ 1
  few_listed None = omega arith
  few_listed (Some c) = omega arith

  module _ (Told : Type 0) (s : Store) (file : BlockTree) (old : Draft) where
    changes_few : (numbers : List ℕ) (changes : List InodeChange) (d : Draft) → AreBuilt Told limits s file layer old numbers changes d → length changes ≤ length numbers
    changes_few _ _ _ none = omega arith
    changes_few _ _ _ (more numbers changes between d number change before is builds) =
        omega (arith, length-append changes (listed change), length-append numbers (number ∷ []), few_listed change, changes_few numbers changes between before)

  pub needs_most : (old : Draft) → free_data old.words old.first < length old.added + sum_by (most_for limits layer) (numbers_of layer) → free_data old.words old.first < length old.added + need limits layer
  needs_most old less = omega (arith, less, most_needed)

  module _ (Told : Type 0) (s : Store) (file new : BlockTree) (old after : Draft) (plan : IsTreePlanned Told limits s file layer new old after) where
    pub few_needed : length (added Told limits s file layer new old after plan) ≤ need limits layer
    few_needed = by_nodes (fin.len layer.nodes) refl
      where
        both : length (added Told limits s file layer new old after plan) ≤ levels limits * (fin.len layer.nodes + (fin.len layer.names + fin.len layer.blocks)) + length plan.inodes.added
        both = omega (arith, length-append (first Told limits s file layer new old after plan).added plan.inodes.added, (first Told limits s file layer new old after plan).few, most_needed)

        few_then : length plan.changes ≤ fin.len layer.nodes
        few_then = omega (arith, changes_few Told s file old (numbers_of layer) plan.changes plan.between plan.nodes, long)

        by_nodes : (nodes : ℕ) → fin.len layer.nodes ≡ nodes → length (added Told limits s file layer new old after plan) ≤ need limits layer
        by_nodes nodes is = ⊎_elim
            (λ (zero : nodes ≡ 0).
            let nothing : plan.changes ≡ [] = nil_from_length plan.changes (omega (arith, few_then, is, zero)) in
            let none_added : length plan.inodes.added ≡ 0 = omega (arith, added_none nothing) in
            omega (arith, both, none_added))
            (λ (some : nodes ≢ 0).
            let test : (fin.len layer.nodes == 0) ≡ false = ne_eqb (fin.len layer.nodes) 0 (λ e. some (sym is ∙ e)) in
            let two : (if fin.len layer.nodes == 0 then 0 else 2) ≡ 2 = ap {B = ℕ} (λ (b : Bool). if b then 0 else 2) test in
            omega (arith, both, plan.inodes.few, few_then, two))
            (cases_eq nodes 0)
          where
            added_none : plan.changes ≡ [] → length plan.inodes.added ≡ 0
            added_none nothing =
                let same : plan.between.added ++ plan.inodes.added ≡ plan.between.added = ap (λ (d : Draft). d.added) (sym plan.inodes.grew ∙ (plan.inodes.none nothing).1) in
                let longer = ap {B = ℕ} length same in
                omega (arith, longer, length-append plan.between.added plan.inodes.added)

  -- ---- where there is too little room

  module _ (Told : Type 0) (s : Store) (file : BlockTree) (old between : Draft) (changes : List InodeChange) (built : AreBuilt Told limits s file layer old (numbers_of layer) changes between) where
    pub inodes_full : changes ≢ [] → free_data between.words between.first < length between.added + (3 * length changes + 2) → free_data old.words old.first < length old.added + need limits layer
    inodes_full some less =
        let grew = has_grown limits s file layer Told old (numbers_of layer) changes between built in
        let here = subst (λ (d : Draft). free_data d.words d.first < length d.added + (3 * length changes + 2)) grew.grew less in
        let few : length changes ≤ fin.len layer.nodes = omega (arith, changes_few Told s file old (numbers_of layer) changes between built, long) in
        let nodes : fin.len layer.nodes ≢ 0 = λ none. some (nil_from_length changes (omega (arith, few, none))) in
        let two : (if fin.len layer.nodes == 0 then 0 else 2) ≡ 2 = ap {B = ℕ} (λ (b : Bool). if b then 0 else 2) (ne_eqb (fin.len layer.nodes) 0 nodes) in
        omega (arith, here, length-append old.added grew.added, grew.few, most_needed, few, two)
