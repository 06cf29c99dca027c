-- Numbers that rise: those of a layer's nodes, and of the changes of their inodes.
use Rattle.std.proofs.Common.{◌≡◌, ⊎_elim, ℕ, zero, suc, ◌+◌, ◌<◌, ◌&&◌, Bool, true, false, T, List, [], ◌∷◌, ◌++◌, map, Option, None, Some, sym, subst, arith}
use Rattle.std.specs.Prelude.{All, Contains, slice_index}
use Rattle.std.specs.List.Sorted.{IsStrictlyIncreasing}
use Rattle.std.specs.FinMap as fin
use Rattle.std.specs.FinMap.Entries.{below_all, is_sorted}
use Rattle.std.specs.Ordering.{nat_cmp, is_lt}
use Rattle.std.proofs.lemmas.List.{map-append, append-nil}
use Rattle.std.proofs.lemmas.List.Elements.{All-head, All-tail, Contains-append_right}
use Rattle.sn_device.proofs.SectorLemmas.{Contains-first, Contains-more, Contains-cases}
use Rattle.sn_image.proofs.ListLemmas.{none_in}
use Rattle.sn_inode.specs.Changes.{numbers_in}
use Rattle.sn_inode.specs.declared.changes.InodeChange.{InodeChange}
use Rattle.sn_layout.specs.declared.tree.BlockTree.{BlockTree}
use Rattle.sn_limits.specs.declared.limits.Limits.{Limits}
use Rattle.sn_ondisk.specs.Trees.{Store}
use Rattle.sn_overlay.specs.Layers.{Layer}
use Rattle.sn_overlay.specs.declared.node.NodeChange.{NodeChange}
use Rattle.sn_tree.specs.Drafts.{Draft}
use Rattle.sn_cp_nodes.proofs.RiseLemmas.{lesser, less_by, rest_rises}
use Rattle.sn_cp_build.specs.Planned.{AreBuilt, none, more, IsFor, listed, numbers_of}
use Rattle.sn_cp_build.proofs.BuiltLemmas.{has_grown}

abbrev Next : ℕ → List ℕ → Type 0
Next x [] = Unit {0}
Next x (y ∷ ys) = x < y

cons_rises : (x : ℕ) (xs : List ℕ) → Next x xs → IsStrictlyIncreasing xs → IsStrictlyIncreasing (x ∷ xs)
cons_rises x [] next rise k within = absurd (omega (arith, within))
cons_rises x (y ∷ ys) next rise zero within = next
cons_rises x (y ∷ ys) next rise (suc k) within =
    let at : suc k + 1 ≡ suc (k + 1) = omega arith in
    subst (λ (m : ℕ). slice_index (y ∷ ys) k < slice_index (x ∷ y ∷ ys) m) (sym at) (rise k (omega (arith, within)))

first_next : (x : ℕ) (xs : List ℕ) → IsStrictlyIncreasing (x ∷ xs) → Next x xs
first_next x [] rise = tt
first_next x (y ∷ ys) rise = rise 0 (omega arith)

-- the first is below all others
below_others : (x : ℕ) (xs : List ℕ) → IsStrictlyIncreasing (x ∷ xs) → (z : ℕ) → Contains xs z → x < z
below_others x [] rise z among = none_in z among
below_others x (y ∷ ys) rise z among =
    let next : x < y = first_next x (y ∷ ys) rise in
    ⊎_elim
    (λ (same : z ≡ y). omega (arith, next, same))
    (λ (later : Contains ys z). omega (arith, next, below_others y ys (rest_rises x (y ∷ ys) rise) z later))
    (Contains-cases y ys z among)

-- and all others below the last
pub below_last : (xs : List ℕ) (x : ℕ) → IsStrictlyIncreasing (xs ++ x ∷ []) → (z : ℕ) → Contains xs z → z < x
below_last [] x rise z among = none_in z among
below_last (y ∷ ys) x rise z among = ⊎_elim
    (λ (same : z ≡ y). let less = below_others y (ys ++ x ∷ []) rise x (Contains-append_right ys (x ∷ []) x (Contains-first x [])) in omega (arith, less, same))
    (λ (later : Contains ys z). below_last ys x (rest_rises y (ys ++ x ∷ []) rise) z later)
    (Contains-cases y ys z among)

next_front : (x : ℕ) (xs ys : List ℕ) → Next x (xs ++ ys) → Next x xs
next_front x [] ys next = tt
next_front x (y ∷ xs) ys next = next

pub front_rises : (xs ys : List ℕ) → IsStrictlyIncreasing (xs ++ ys) → IsStrictlyIncreasing xs
front_rises [] ys rise = λ k within. absurd (omega (arith, within))
front_rises (x ∷ xs) ys rise = cons_rises x xs (next_front x xs ys (first_next x (xs ++ ys) rise)) (front_rises xs ys (rest_rises x (xs ++ ys) rise))

next_pushed : (y : ℕ) (ys : List ℕ) (x : ℕ) → Next y ys → y < x → Next y (ys ++ x ∷ [])
next_pushed y [] x next less = less
next_pushed y (z ∷ ys) x next less = next

pushed_rises : (ys : List ℕ) (x : ℕ) → IsStrictlyIncreasing ys → ((z : ℕ) → Contains ys z → z < x) → IsStrictlyIncreasing (ys ++ x ∷ [])
pushed_rises [] x rise all = λ k within. absurd (omega (arith, within))
pushed_rises (y ∷ ys) x rise all =
    cons_rises y (ys ++ x ∷ []) (next_pushed y ys x (first_next y ys rise) (all y (Contains-first y ys)))
    (pushed_rises ys x (rest_rises y ys rise) (λ z among. all z (Contains-more y ys z among)))

-- ---- the nodes of a layer

both : (a b : Bool) → T (a && b) → T a × T b
both true b h = (tt, h)
both false b h = absurd h

abbrev keys : List (ℕ × NodeChange) → List ℕ
keys es = map (λ (e : ℕ × NodeChange). e.0) es

next_key : (x : ℕ) (es : List (ℕ × NodeChange)) → T (below_all nat_cmp x es) → Next x (keys es)
next_key x [] h = tt
next_key x (e ∷ es) h = less_by x e.0 (lesser (nat_cmp x e.0) (both (is_lt (nat_cmp x e.0)) (below_all nat_cmp x es) h).0)

keys_rise : (es : List (ℕ × NodeChange)) → T (is_sorted nat_cmp es) → IsStrictlyIncreasing (keys es)
keys_rise [] h = λ k within. absurd (omega (arith, within))
keys_rise (e ∷ es) h =
    let parts = both (below_all nat_cmp e.0 es) (is_sorted nat_cmp es) h in
    cons_rises e.0 (keys es) (next_key e.0 es parts.0) (keys_rise es parts.1)

pub layer_rises : (layer : Layer) → IsStrictlyIncreasing (numbers_of layer)
layer_rises layer = keys_rise (fin.entries layer.nodes) (fin.entries_sorted layer.nodes)

-- ---- the changes of their inodes

module _ (Told : Type 0) (limits : Limits) (s : Store) (file : BlockTree) (layer : Layer) (old : Draft) where
  among_numbers : (numbers : List ℕ) (changes : List InodeChange) → All (λ (c : InodeChange). Contains numbers c.number) changes → (z : ℕ) → Contains (numbers_in changes) z → Contains numbers z
  among_numbers numbers [] all z among = none_in z among
  among_numbers numbers (c ∷ cs) all z among = ⊎_elim
      (λ (same : z ≡ c.number). subst (Contains numbers) (sym same) (All-head (λ (x : InodeChange). Contains numbers x.number) c cs all))
      (λ (later : Contains (numbers_in cs) z). among_numbers numbers cs (All-tail (λ (x : InodeChange). Contains numbers x.number) c cs all) z later)
      (Contains-cases c.number (numbers_in cs) z among)

  one_more : (numbers : List ℕ) (number : ℕ) (changes : List InodeChange) (change : Option InodeChange) → IsFor limits number change → IsStrictlyIncreasing (numbers ++ number ∷ [])
      → ((z : ℕ) → Contains (numbers_in changes) z → Contains numbers z) → IsStrictlyIncreasing (numbers_in changes) → IsStrictlyIncreasing (numbers_in (changes ++ listed change))
  one_more numbers number changes None is rise within so_far = subst (λ (cs : List InodeChange). IsStrictlyIncreasing (numbers_in cs)) (sym (append-nil changes)) so_far
  one_more numbers number changes (Some c) is rise within so_far =
      subst IsStrictlyIncreasing (sym (map-append (λ (x : InodeChange). x.number) changes (c ∷ [])))
      (pushed_rises (numbers_in changes) c.number so_far (λ z among. omega (arith, below_last numbers number rise z (within z among), is.number_is)))

  pub changes_rise : (numbers : List ℕ) (changes : List InodeChange) (new : Draft) → AreBuilt Told limits s file layer old numbers changes new → IsStrictlyIncreasing numbers → IsStrictlyIncreasing (numbers_in changes)
  changes_rise _ _ _ none rise = λ k within. absurd (omega (arith, within))
  changes_rise _ _ _ (more numbers changes between new number change before is builds) rise =
      one_more numbers number changes change is rise (among_numbers numbers changes (has_grown limits s file layer Told old numbers changes between before).among)
      (changes_rise numbers changes between before (front_rises numbers (number ∷ []) rise))
