-- Holes after the last data block, on every level.
use Rattle.std.proofs.Common.{◌≡◌, ◌≢◌, ◌⊎◌, inl, inr, ℕ, zero, suc, ◌+◌, ◌-◌, ◌*◌, ◌<◌, ◌≤◌, List, [], ◌∷◌, ◌++◌, length, get_or, refl, sym, ap, subst, ◌∙◌, arith, mul_assoc}
use Rattle.std.specs.Prelude.{◌^◌}
use Rattle.std.proofs.Math.Nat.{le_of_mul-le-mul_right}
use Rattle.std.proofs.lemmas.Bool.{cases_lt}
use Rattle.std.proofs.lemmas.List.{get_or_past, get_or_append_left, get_or-append_right}
use Rattle.std.proofs.lemmas.Nat.{pow-add}
use Rattle.sn_ondisk.specs.Trees.{Store, below, pointers_at, all_pointers}
use Rattle.sn_ondisk.specs.Counts.{times}
use Rattle.sn_tree.specs.Plans.{EndsBefore}
use Rattle.sn_tree.specs.Steps.{AreHoles}
use Rattle.sn_ondisk.proofs.CountLemmas.{times-append, times-cons, times-other, at_0, length-pointers_at, pointers_at-append, pointers-down}
use Rattle.sn_tree.proofs.SpanLemmas.{span_some}
use Rattle.sn_tree.proofs.DirtyLemmas.{AreHoles-at}

-- the data blocks below a pointer, by the pointers of a level between
pub span_split : (depth level : ℕ) → level ≤ depth → 1024 ^ depth ≡ 1024 ^ level * 1024 ^ (depth - level)
span_split depth level within =
    let whole : depth ≡ level + (depth - level) = omega arith in
    ap (λ (n : ℕ). 1024 ^ n) whole ∙ pow-add 1024 level (depth - level)

-- ---- holes

pub hole_at : (ps : List ℕ) (i : ℕ) → AreHoles ps → get_or ps i 0 ≡ 0
hole_at [] i holes = refl
hole_at (p ∷ ps) zero holes = holes.0
hole_at (p ∷ ps) (suc i) holes = hole_at ps i holes.1

holes_from : (ps : List ℕ) → ((i : ℕ) → get_or ps i 0 ≡ 0) → AreHoles ps
holes_from [] none = tt
holes_from (p ∷ ps) none = (none 0, holes_from ps (λ i. none (suc i)))

pub ends_holes : (r : Store) (depth base end : ℕ) (ps : List ℕ) → AreHoles ps → EndsBefore r depth base end ps
ends_holes r depth base end ps holes level i within far = hole_at (pointers_at r level ps) i (AreHoles-at r level ps holes)

times-hole_list : (block : ℕ) (ps : List ℕ) → AreHoles ps → block ≢ 0 → times block ps ≡ 0
times-hole_list block [] holes some = refl
times-hole_list block (p ∷ ps) holes some = omega (arith, times-cons block p ps, times-other block p (λ same. some (sym same ∙ holes.0)), times-hole_list block ps holes.1 some)

-- holes reach nothing
pub times-holes : (s : Store) (block depth : ℕ) (ps : List ℕ) → AreHoles ps → block ≢ 0 → times block (all_pointers s depth ps) ≡ 0
unfolding all_pointers
times-holes s block zero ps holes some = times-hole_list block ps holes some
times-holes s block (suc depth) ps holes some =
    omega (arith, times-append block (all_pointers s depth ps) (pointers_at s (suc depth) ps), times-holes s block depth ps holes some, times-hole_list block (pointers_at s (suc depth) ps) (AreHoles-at s (suc depth) ps holes) some)

-- pointers that are all past the end
pub ends_all : (r : Store) (depth base end : ℕ) (ps : List ℕ) → end ≤ base → EndsBefore r depth base end ps → AreHoles ps
ends_all r depth base end ps past ends =
    holes_from ps (λ i. ap (λ (qs : List ℕ). get_or qs i 0) (sym (at_0 r ps)) ∙ ends 0 i (omega arith) (omega (arith, past)))

-- ---- pointers whose data blocks all come before the end

pub ends_kept : (r : Store) (depth base end : ℕ) (ps : List ℕ) → base + length ps * 1024 ^ depth ≤ end → EndsBefore r depth base end ps
ends_kept r depth base end ps behind level i within far =
    let width = 1024 ^ (depth - level) in
    let count : length (pointers_at r level ps) ≡ length ps * 1024 ^ level = length-pointers_at r level ps in
    let split : length ps * 1024 ^ depth ≡ length ps * (1024 ^ level * width) = ap (λ n. length ps * n) (span_split depth level within) in
    let scaled : length ps * 1024 ^ level * width ≤ i * width = omega (arith, behind, far, split, mul_assoc (length ps) (1024 ^ level) width) in
    let past : length ps * 1024 ^ level ≤ i = le_of_mul-le-mul_right {k = width} scaled (span_some (depth - level)) in
    get_or_past (pointers_at r level ps) i 0 (omega (arith, count, past))

-- ---- lists that are joined

pub ends_joined : (r : Store) (depth base next end : ℕ) (news more : List ℕ) → next ≡ base + length news * 1024 ^ depth → EndsBefore r depth base end news → EndsBefore r depth next end more
    → EndsBefore r depth base end (news ++ more)
ends_joined r depth base next end news more is front back level i within far =
    ap (λ (qs : List ℕ). get_or qs i 0) (pointers_at-append r level news more) ∙ either (cases_lt i (length (pointers_at r level news)))
  where
    either : (i < length (pointers_at r level news)) ⊎ (length (pointers_at r level news) ≤ i) → get_or (pointers_at r level news ++ pointers_at r level more) i 0 ≡ 0
    either (inl here) = get_or_append_left (pointers_at r level news) (pointers_at r level more) 0 i here ∙ front level i within far
    either (inr behind) =
        let width = 1024 ^ (depth - level) in
        let count = length (pointers_at r level news) in
        let j = i - count in
        let of_i : i ≡ count + j = omega (arith, behind) in
        let scaled : i * width ≡ count * width + j * width = ap (λ n. n * width) of_i ∙ omega arith in
        let all : count * width ≡ length news * 1024 ^ depth = ap (λ n. n * width) (length-pointers_at r level news) ∙ mul_assoc (length news) (1024 ^ level) width ∙ ap (λ n. length news * n) (sym (span_split depth level within)) in
        let there : end ≤ next + j * width = omega (arith, far, is, scaled, all) in
        get_or-append_right (pointers_at r level news) (pointers_at r level more) count i 0 refl behind ∙ back level j within there

-- ---- one pointer, above data blocks and above pointers

pub ends_leaf : (r : Store) (base end n : ℕ) → (end ≤ base → n ≡ 0) → EndsBefore r 0 base end (n ∷ [])
unfolding pointers_at
ends_leaf r base end n top zero zero within far = top (omega (arith, far))
ends_leaf r base end n top zero (suc i) within far = refl
ends_leaf r base end n top (suc level) i within far = absurd (omega (arith, within))

pub ends_up : (r : Store) (depth base end n : ℕ) (news : List ℕ) → below r n ≡ news → (end ≤ base → n ≡ 0) → EndsBefore r depth base end news → EndsBefore r (suc depth) base end (n ∷ [])
unfolding pointers_at
ends_up r depth base end n news is top ends zero zero within far = top (omega (arith, far))
ends_up r depth base end n news is top ends zero (suc i) within far = refl
ends_up r depth base end n news is top ends (suc level) i within far =
    let lower : suc depth - suc level ≡ depth - level = omega arith in
    ap (λ (qs : List ℕ). get_or qs i 0) (pointers-down r level n ∙ ap (pointers_at r level) is)
    ∙ ends level i (omega (arith, within)) (subst (λ (d : ℕ). end ≤ base + i * 1024 ^ d) lower far)
