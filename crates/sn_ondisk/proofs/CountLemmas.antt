-- How often a block occurs in lists of pointers.
use Rattle.std.proofs.Common.{◌≡◌, ◌≢◌, ◌↔◌, ⊎_elim, ℕ, zero, suc, ◌+◌, ◌*◌, ◌<◌, ◌==◌, not, Bool, true, false, cond, List, [], ◌∷◌, ◌++◌, length, Contains, refl, sym, ap, subst, ◌∙◌, arith, if◌then◌else◌}
use Rattle.std.specs.Prelude.{◌^◌}
use Rattle.std.specs.List.{flat_map, filter}
use Rattle.std.proofs.Math.Nat.{pow-succ'}
use Rattle.std.proofs.lemmas.Bool.{eqb-true, eqb-false, eq-eqb, ne_eqb}
use Rattle.std.proofs.lemmas.Grind.{flat_map-append}
use Rattle.std.proofs.lemmas.List.{append-nil, length-append}
use Rattle.std.proofs.lemmas.List.Sums.{sum_by-append}
use Rattle.sn_device.proofs.SectorLemmas.{Contains-cases}
use Rattle.sn_layout.specs.Pointers.{levels_of}
use Rattle.sn_layout.specs.declared.tree.BlockTree.{BlockTree}
use Rattle.sn_ondisk.specs.Counts.{times}
use Rattle.sn_ondisk.specs.Trees.{Store, below, pointers_at, all_pointers, tree_reach}
use Rattle.sn_ondisk.proofs.TreeLemmas.{length-below}

pub times-append : (block : ℕ) (xs ys : List ℕ) → times block (xs ++ ys) ≡ times block xs + times block ys
times-append block xs ys = sum_by-append (λ x. cond (x == block) 1 0) xs ys

pub times-cons : (block x : ℕ) (xs : List ℕ) → times block (x ∷ xs) ≡ times block (x ∷ []) + times block xs
times-cons block x xs = times-append block (x ∷ []) xs

pub times-same : (block : ℕ) → times block (block ∷ []) ≡ 1
times-same block = ap (λ b. 0 + cond b 1 0) (eq-eqb block block refl)

pub times-other : (block x : ℕ) → x ≢ block → times block (x ∷ []) ≡ 0
times-other block x other = ap (λ b. 0 + cond b 1 0) (ne_eqb x block other)

pub among_times : (block : ℕ) (xs : List ℕ) → Contains xs block → 0 < times block xs
among_times block [] (k, within, is) = absurd (omega arith)
among_times block (x ∷ xs) among = ⊎_elim
    (λ (same : block ≡ x). omega (arith, times-cons block x xs, subst (λ (y : ℕ). times block (y ∷ []) ≡ 1) same (times-same block)))
    (λ (more : Contains xs block). omega (arith, times-cons block x xs, among_times block xs more))
    (Contains-cases x xs block among)

pub times_among : (block : ℕ) (xs : List ℕ) → 0 < times block xs → Contains xs block
times_among block [] some = absurd (omega (arith, some))
times_among block (x ∷ xs) some = either (times_among block xs) (x == block) refl
  where
    either : (0 < times block xs → Contains xs block) → (b : Bool) → (x == block) ≡ b → Contains (x ∷ xs) block
    either later true is = subst (λ (y : ℕ). Contains (x ∷ xs) y) (eqb-true x block is) (0, omega arith, refl)
    either later false is =
        let w = later (omega (arith, some, times-cons block x xs, times-other block x (eqb-false x block is))) in
        (suc w.0, omega (arith, w.1), w.2)

-- ---- pointers of lists that are joined, and of one level more

pub pointers_at-append : (s : Store) (depth : ℕ) (ps qs : List ℕ) → pointers_at s depth (ps ++ qs) ≡ pointers_at s depth ps ++ pointers_at s depth qs
unfolding pointers_at
pointers_at-append s zero ps qs = refl
pointers_at-append s (suc depth) ps qs = ap (flat_map (below s)) (pointers_at-append s depth ps qs) ∙ flat_map-append (below s) (pointers_at s depth ps) (pointers_at s depth qs)

pub pointers_at-down : (s : Store) (depth : ℕ) (ps : List ℕ) → pointers_at s (suc depth) ps ≡ pointers_at s depth (flat_map (below s) ps)
unfolding pointers_at
pointers_at-down s zero ps = refl
pointers_at-down s (suc depth) ps = ap (flat_map (below s)) (pointers_at-down s depth ps)

pub times-all_append : (s : Store) (block depth : ℕ) (ps qs : List ℕ) → times block (all_pointers s depth (ps ++ qs)) ≡ times block (all_pointers s depth ps) + times block (all_pointers s depth qs)
unfolding all_pointers
times-all_append s block zero ps qs = times-append block ps qs
times-all_append s block (suc depth) ps qs =
    let joined = times-append block (all_pointers s depth (ps ++ qs)) (pointers_at s (suc depth) (ps ++ qs)) in
    let left = times-append block (all_pointers s depth ps) (pointers_at s (suc depth) ps) in
    let right = times-append block (all_pointers s depth qs) (pointers_at s (suc depth) qs) in
    let upper = times-all_append s block depth ps qs in
    let last = ap (times block) (pointers_at-append s (suc depth) ps qs) ∙ times-append block (pointers_at s (suc depth) ps) (pointers_at s (suc depth) qs) in
    omega arith

pub at_0 : (s : Store) (qs : List ℕ) → pointers_at s 0 qs ≡ qs
unfolding pointers_at
at_0 s qs = refl

pub times-all_down : (s : Store) (block depth : ℕ) (ps : List ℕ) → times block (all_pointers s (suc depth) ps) ≡ times block ps + times block (all_pointers s depth (flat_map (below s) ps))
unfolding all_pointers
times-all_down s block zero ps = times-append block ps (pointers_at s 1 ps) ∙ ap (λ (qs : List ℕ). times block ps + times block qs) (pointers_at-down s 0 ps ∙ at_0 s (flat_map (below s) ps))
times-all_down s block (suc depth) ps =
    let joined = times-append block (all_pointers s (suc depth) ps) (pointers_at s (suc (suc depth)) ps) in
    let lower = times-append block (all_pointers s depth (flat_map (below s) ps)) (pointers_at s (suc depth) (flat_map (below s) ps)) in
    let upper = times-all_down s block depth ps in
    let last = ap (times block) (pointers_at-down s (suc depth) ps) in
    omega arith

-- one pointer
pub down-one : (s : Store) (p : ℕ) → flat_map (below s) (p ∷ []) ≡ below s p
down-one s p = append-nil (below s p)

-- ---- how many there are

length-flat_below : (s : Store) (ps : List ℕ) → length (flat_map (below s) ps) ≡ 1024 * length ps
length-flat_below s [] = refl
length-flat_below s (p ∷ ps) = omega (arith, length-append (below s p) (flat_map (below s) ps), length-below s p, length-flat_below s ps)

pub length-pointers_at : (s : Store) (depth : ℕ) (ps : List ℕ) → length (pointers_at s depth ps) ≡ length ps * 1024 ^ depth
unfolding pointers_at
length-pointers_at s zero ps = omega arith
length-pointers_at s (suc depth) ps =
    let above = length-pointers_at s depth ps in
    let here = length-flat_below s (pointers_at s depth ps) in
    here ∙ ap (λ n. 1024 * n) above ∙ grown (length ps) (1024 ^ depth) ∙ ap (λ n. length ps * n) (sym (pow-succ' 1024 depth))
  where
    grown : (n w : ℕ) → 1024 * (n * w) ≡ n * (1024 * w)
    grown n w = omega arith

-- ---- one pointer, one level down

pub times-down : (s : Store) (block depth p : ℕ) → times block (all_pointers s (suc depth) (p ∷ [])) ≡ times block (p ∷ []) + times block (all_pointers s depth (below s p))
times-down s block depth p = times-all_down s block depth (p ∷ []) ∙ ap (λ (qs : List ℕ). times block (p ∷ []) + times block (all_pointers s depth qs)) (down-one s p)

pub pointers-down : (s : Store) (depth p : ℕ) → pointers_at s (suc depth) (p ∷ []) ≡ pointers_at s depth (below s p)
pointers-down s depth p = pointers_at-down s depth (p ∷ []) ∙ ap (pointers_at s depth) (down-one s p)

-- ---- what a tree reaches

times-but_holes : (block : ℕ) (ps : List ℕ) → block ≢ 0 → times block (filter (λ pointer. not (pointer == 0)) ps) ≡ times block ps
times-but_holes block [] some = refl
times-but_holes block (p ∷ ps) some = either (times-but_holes block ps some) (p == 0) refl
  where
    either : times block (filter (λ pointer. not (pointer == 0)) ps) ≡ times block ps → (b : Bool) → (p == 0) ≡ b
        → times block (if not b then p ∷ filter (λ pointer. not (pointer == 0)) ps else filter (λ pointer. not (pointer == 0)) ps) ≡ times block (p ∷ ps)
    either later true is = omega (arith, later, times-cons block p ps, times-other block p (λ same. some (sym same ∙ eqb-true p 0 is)))
    either later false is = omega (arith, later, times-cons block p ps, times-cons block p (filter (λ pointer. not (pointer == 0)) ps))

pub times-reach : (s : Store) (tree : BlockTree) (block : ℕ) → block ≢ 0 → times block (tree_reach s tree) ≡ times block (all_pointers s (levels_of tree.size) tree.pointers)
unfolding tree_reach
times-reach s tree block some = times-but_holes block (all_pointers s (levels_of tree.size) tree.pointers) some

pub named_counted : (block : ℕ) (blocks : List ℕ) → Contains blocks block ↔ 0 < times block blocks
named_counted block blocks = (among_times block blocks, times_among block blocks)
