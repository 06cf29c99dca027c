-- The pointers of a list, planned one after the other.
use Rattle.std.proofs.Common.{◌≡◌, ℕ, suc, ◌+◌, ◌*◌, ◌<◌, ◌≤◌, List, [], ◌∷◌, ◌++◌, length, get_or, set, take, drop, sym, ap, subst, ◌∙◌, arith, Option}
use Rattle.std.specs.Prelude.{◌^◌}
use Rattle.std.proofs.Math.Nat.{mul-le-mul_left}
use Rattle.std.proofs.Math.Seq.{drop-cons}
use Rattle.std.proofs.lemmas.List.{length-take-le, length-drop, take_more, take_more_set, drop-set-lt, drop-drop, get_or-drop, take-append-drop}
use Rattle.sn_alloc.specs.Taking.{free_data}
use Rattle.sn_ondisk.specs.Trees.{Store, all_pointers}
use Rattle.sn_tree.specs.Drafts.{Draft}
use Rattle.sn_tree.specs.Dirty.{IsFrom}
use Rattle.sn_tree.specs.Plans.{contents, most_added}
use Rattle.sn_tree.specs.Steps.{Planned, LeadsOutsideAt}
use Rattle.sn_tree.specs.declared.new_block.DirtyBlock.{DirtyBlock}
use Rattle.sn_tree.proofs.FaultLemmas.{outside_among}
use Rattle.sn_tree.proofs.StepLemmas.{planned_none, planned_joined, too_full_behind}

-- where the pointer with number k + 1 begins, and where all of them end
pub next_at : (base k width : ℕ) → base + k * width + width ≡ base + (k + 1) * width
next_at base k width = omega arith

pub end_at : (base k n width : ℕ) → k < n → base + k * width + width ≤ base + n * width
end_at base k n width under =
    let more : width * (k + 1) ≤ width * n = mul-le-mul_left width (let le : k + 1 ≤ n = omega (arith, under) in le) in
    omega (arith, more)

module _ (k : ℕ) (olds ps : List ℕ) (within : k < length ps) (left : drop k ps ≡ drop k olds) where
  same-length : k < length olds
  same-length = omega (arith, within, ap (λ (xs : List ℕ). length xs) left, length-drop k ps, length-drop k olds)

  same-pointer : get_or ps k 0 ≡ get_or olds k 0
  same-pointer =
      let here : k + 0 ≡ k = omega arith in
      sym (get_or-drop k ps 0 0 ∙ ap (λ (n : ℕ). get_or ps n 0) here) ∙ ap (λ (xs : List ℕ). get_or xs 0 0) left ∙ get_or-drop k olds 0 0 ∙ ap (λ (n : ℕ). get_or olds n 0) here

  pub left_next : (new : ℕ) → drop (k + 1) (set ps k new) ≡ drop (k + 1) olds
  left_next new =
      drop-set-lt (k + 1) ps k new (omega arith) ∙ sym (drop-drop 1 k ps) ∙ ap (drop 1) left ∙ drop-drop 1 k olds

  around : olds ≡ take k olds ++ (get_or ps k 0 ∷ drop (k + 1) olds)
  around =
      let there : suc k ≡ k + 1 = omega arith in
      sym (take-append-drop k olds) ∙ ap (λ (xs : List ℕ). take k olds ++ xs) (drop-cons olds k 0 same-length ∙ ap (λ (p : ℕ). p ∷ drop (suc k) olds) (sym same-pointer) ∙ ap (λ (n : ℕ). get_or ps k 0 ∷ drop n olds) there)

  module _ (Told : Type 0) (s : Store) (keep depth base : ℕ) where
    pub planned_next : (new next end : ℕ) (ds mid rest : List DirtyBlock) (draft between behind : Draft) → next ≡ base + k * 1024 ^ depth → end ≡ next + 1024 ^ depth
        → Planned Told s (all_pointers s depth (take k olds)) (contents s depth (take k olds)) depth base (base + k * 1024 ^ depth) keep ds mid (take k ps) draft between
        → Planned Told s (all_pointers s depth (get_or ps k 0 ∷ [])) (contents s depth (get_or ps k 0 ∷ [])) depth next end keep mid rest (new ∷ []) between behind
        → Planned Told s (all_pointers s depth (take (k + 1) olds)) (contents s depth (take (k + 1) olds)) depth base (base + (k + 1) * 1024 ^ depth) keep ds rest (take (k + 1) (set ps k new)) draft behind
    planned_next new next end ds mid rest draft between behind starts ends front step =
        let width = 1024 ^ depth in
        let count : length (take k olds) ≡ k = length-take-le k olds (omega (arith, same-length)) in
        let is : next ≡ base + length (take k olds) * width = starts ∙ ap (λ n. base + n * width) (sym count) in
        let here = subst (λ (n : ℕ). Planned Told s (all_pointers s depth (take k olds)) (contents s depth (take k olds)) depth base n keep ds mid (take k ps) draft between) (sym starts) front in
        let both = planned_joined Told s keep depth base next end (take k olds) (get_or ps k 0 ∷ []) (take k ps) (new ∷ []) ds mid rest draft between behind is (omega (arith, ends)) here step in
        let of_olds : take k olds ++ get_or ps k 0 ∷ [] ≡ take (k + 1) olds = ap (λ (p : ℕ). take k olds ++ p ∷ []) same-pointer ∙ sym (take_more olds k 0 same-length) in
        let of_end : end ≡ base + (k + 1) * width = ends ∙ ap (λ n. n + width) starts ∙ next_at base k width in
        subst (λ (n : ℕ). Planned Told s (all_pointers s depth (take (k + 1) olds)) (contents s depth (take (k + 1) olds)) depth base n keep ds rest (take (k + 1) (set ps k new)) draft behind) of_end
        (subst (λ (news : List ℕ). Planned Told s (all_pointers s depth (take (k + 1) olds)) (contents s depth (take (k + 1) olds)) depth base end keep ds rest news draft behind) (sym (take_more_set ps k new within))
        (subst (λ (qs : List ℕ). Planned Told s (all_pointers s depth qs) (contents s depth qs) depth base end keep ds rest (take k ps ++ new ∷ []) draft behind) of_olds both))

    pub too_full_next : (next end : ℕ) (ds mid : List DirtyBlock) (draft between : Draft) → next ≡ base + k * 1024 ^ depth → end ≡ next + 1024 ^ depth → length ps ≡ length olds
        → Planned Told s (all_pointers s depth (take k olds)) (contents s depth (take k olds)) depth base (base + k * 1024 ^ depth) keep ds mid (take k ps) draft between
        → free_data between.words between.first < length between.added + most_added depth next end keep mid
        → free_data draft.words draft.first < length draft.added + most_added depth base (base + length olds * 1024 ^ depth) keep ds
    too_full_next next end ds mid draft between starts ends same front none =
        let width = 1024 ^ depth in
        let here = subst (λ (n : ℕ). Planned Told s (all_pointers s depth (take k olds)) (contents s depth (take k olds)) depth base n keep ds mid (take k ps) draft between) (sym starts) front in
        let inside : end ≤ base + length olds * width = omega (arith, ends, starts, end_at base k (length olds) width same-length) in
        too_full_behind Told s (all_pointers s depth (take k olds)) (contents s depth (take k olds)) depth base next keep ds mid (take k ps) draft between here end (base + length olds * width) (omega (arith, starts)) (omega (arith, ends)) inside none

    pub outside_next : {at : Option ℕ} (sectors : ℕ) → LeadsOutsideAt sectors (all_pointers s depth (get_or ps k 0 ∷ [])) at → LeadsOutsideAt sectors (all_pointers s depth olds) at
    outside_next {at = at} sectors leads = subst (λ (qs : List ℕ). LeadsOutsideAt sectors (all_pointers s depth qs) at) (sym around) (outside_among sectors s depth (take k olds) (drop (k + 1) olds) (get_or ps k 0) leads)

module _ (Told : Type 0) (s : Store) (keep depth base : ℕ) (olds : List ℕ) where
  pub planned_begun : (ds : List DirtyBlock) (draft : Draft) → IsFrom base ds
      → Planned Told s (all_pointers s depth (take 0 olds)) (contents s depth (take 0 olds)) depth base (base + 0 * 1024 ^ depth) keep ds ds (take 0 olds) draft draft
  planned_begun ds draft rise =
      let here : base ≡ base + 0 * 1024 ^ depth = omega arith in
      subst (λ (n : ℕ). Planned Told s (all_pointers s depth []) (contents s depth []) depth base n keep ds ds [] draft draft) here (planned_none Told s keep depth base ds draft rise)
