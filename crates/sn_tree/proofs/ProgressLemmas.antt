-- How far a list of pointers is planned, one after the other or in runs that are passed over.
use Rattle.std.proofs.Common.{◌≡◌, ◌⊎◌, inl, inr, ⊎_elim, ℕ, ◌+◌, ◌*◌, ◌<◌, ◌≤◌, List, [], ◌∷◌, length, get_or, set, take, drop, refl, sym, ap, subst, ◌∙◌, arith, Option}
use Rattle.std.specs.Prelude.{◌^◌, All}
use Rattle.std.proofs.lemmas.List.{length-set, set-get_or}
use Rattle.std.proofs.lemmas.List.Elements.{recursion_from_All}
use Rattle.sn_alloc.specs.Taking.{free_data}
use Rattle.sn_ondisk.specs.Trees.{Store, all_pointers}
use Rattle.sn_tree.specs.Drafts.{Draft}
use Rattle.sn_tree.specs.Dirty.{IsFrom}
use Rattle.sn_tree.specs.Plans.{contents, most_added}
use Rattle.sn_tree.specs.Steps.{AreHoles, Planned, LeadsOutsideAt}
use Rattle.sn_tree.specs.declared.new_block.DirtyBlock.{DirtyBlock}
use Rattle.sn_tree.proofs.DirtyLemmas.{IsFrom-after}
use Rattle.sn_tree.proofs.StepLemmas.{planned_still, nothing_grown}
use Rattle.sn_tree.proofs.LoopLemmas.{planned_begun, planned_next, too_full_next, outside_next, left_next, next_at, end_at}
use Rattle.sn_tree.proofs.RunLemmas.{run_at, left_passed, planned_passed}

-- The first k pointers are planned, and the others are as they were.
pub record Progress (Told : Type 0) (s : Store) (depth base keep : ℕ) (dirty left : List DirtyBlock) (olds ps : List ℕ) (old new : Draft) (k : ℕ) : Type 0 where
  pub count : length ps ≡ length olds
  pub others : drop k ps ≡ drop k olds
  pub still : new ≡ old → ps ≡ olds
  pub rise : IsFrom (base + k * 1024 ^ depth) left
  pub planned : Planned Told s (all_pointers s depth (take k olds)) (contents s depth (take k olds)) depth base (base + k * 1024 ^ depth) keep dirty left (take k ps) old new

pub progress_begun : (Told : Type 0) (s : Store) (depth base keep : ℕ) (dirty : List DirtyBlock) (olds : List ℕ) (old : Draft) → IsFrom base dirty → Progress Told s depth base keep dirty dirty olds olds old old 0
progress_begun Told s depth base keep dirty olds old rise =
    let here : base ≡ base + 0 * 1024 ^ depth = omega arith in
    record {
      count = refl;
      others = refl;
      still = λ _. refl;
      rise = subst (λ (n : ℕ). IsFrom n dirty) here rise;
      planned = planned_begun Told s keep depth base olds dirty old rise;
    }

module _ (Told : Type 0) (s : Store) (depth base keep span : ℕ) (dirty left : List DirtyBlock) (olds ps : List ℕ) (old new : Draft) (k : ℕ) (wide : span ≡ 1024 ^ depth) (before : Progress Told s depth base keep dirty left olds ps old new k) where
  starts : base + span * k ≡ base + k * 1024 ^ depth
  starts = let swapped : base + 1024 ^ depth * k ≡ base + k * 1024 ^ depth = omega arith in ap (λ (w : ℕ). base + w * k) wide ∙ swapped

  -- where the next one is
  pub progress_at : k < length ps → (base + span * k + 1024 ^ depth ≤ base + length olds * 1024 ^ depth) × IsFrom (base + span * k) left
  progress_at within = (omega (arith, starts, end_at base k (length olds) (1024 ^ depth) (omega (arith, within, before.count))), subst (λ (n : ℕ). IsFrom n left) (sym starts) before.rise)

  -- a pointer more
  pub progress_step : k < length ps → (r : Store) → (Told → r ≡ s) → (from to : ℕ) → from ≡ get_or ps k 0 → (rest : List DirtyBlock) (behind : Draft)
      → Planned Told r (all_pointers r depth (from ∷ [])) (contents r depth (from ∷ [])) depth (base + span * k) (base + span * k + 1024 ^ depth) keep left rest (to ∷ []) new behind → (behind ≡ new → to ≡ from)
      → (qs : List ℕ) → qs ≡ set ps k to → Progress Told s depth base keep dirty rest olds qs old behind (k + 1)
  progress_step within r same from to is rest behind step stays qs changed =
      let width = 1024 ^ depth in
      let next = base + span * k in
      let here = planned_still Told s r keep depth next (next + width) (get_or ps k 0 ∷ []) (to ∷ []) left rest new behind same
      (subst (λ (p : ℕ). Planned Told r (all_pointers r depth (p ∷ [])) (contents r depth (p ∷ [])) depth next (next + width) keep left rest (to ∷ []) new behind) is step) in
      let ended : next + width ≡ base + (k + 1) * width = ap (λ (n : ℕ). n + width) starts ∙ next_at base k width in
      subst (λ (xs : List ℕ). Progress Told s depth base keep dirty rest olds xs old behind (k + 1)) (sym changed)
      record {
        count = length-set ps k to ∙ before.count;
        others = left_next k olds ps within before.others to;
        still = λ nothing.
            let none = nothing_grown old new behind before.planned.added step.added before.planned.released step.released before.planned.grew step.grew
            (ap (λ (d : Draft). length d.added) nothing) (ap (λ (d : Draft). length d.released) nothing) in
            ap (set ps k) (stays none.1 ∙ is) ∙ set-get_or ps k 0 ∙ before.still none.0;
        rise = subst (λ (n : ℕ). IsFrom n rest) ended (subst (λ (l : List DirtyBlock). IsFrom (next + width) l) (sym step.rest) (IsFrom-after (base + k * width) (next + width) left before.rise));
        planned = planned_next k olds ps within before.others Told s keep depth base to next (next + width) dirty left rest old new behind starts refl before.planned here;
      }

  -- a run of pointers that stay
  pub progress_run : (n : ℕ) → 0 < n → k + n ≤ length ps → (run : List ℕ) → run ≡ take n (drop k ps) → IsFrom (base + span * k + n * span) left × ((base + span * k + n * span ≤ keep) ⊎ All (λ (p : ℕ). p ≡ 0) run) → Progress Told s depth base keep dirty left olds ps old new (k + n)
  progress_run n some within run is stays =
      let width = 1024 ^ depth in
      let next = base + span * k in
      let end = next + n * width in
      let far : next + n * span ≡ end = ap (λ (w : ℕ). next + n * w) wide in
      let rise : IsFrom end left = subst (λ (m : ℕ). IsFrom m left) far stays.0 in
      let why : (end ≤ keep) ⊎ AreHoles (take n (drop k ps)) = ⊎_elim
      (λ (low : next + n * span ≤ keep). inl (omega (arith, low, far)))
      (λ (holes : All (λ (p : ℕ). p ≡ 0) run). inr (subst AreHoles is (recursion_from_All (λ (p : ℕ). p ≡ 0) run holes)))
      stays.1 in
      let ended : end ≡ base + (k + n) * width = ap (λ (m : ℕ). m + n * width) starts ∙ run_at base k n width in
      record {
        count = before.count;
        others = left_passed k n olds ps within before.count before.others;
        still = before.still;
        rise = subst (λ (m : ℕ). IsFrom m left) ended rise;
        planned = planned_passed k n olds ps within before.count before.others Told s keep depth base next end dirty left old new starts refl some rise why before.planned;
      }

  -- no block is left for the next one
  pub progress_full : k < length ps → free_data new.words new.first < length new.added + most_added depth (base + span * k) (base + span * k + 1024 ^ depth) keep left
      → free_data old.words old.first < length old.added + most_added depth base (base + length olds * 1024 ^ depth) keep dirty
  progress_full within none = too_full_next k olds ps within before.others Told s keep depth base (base + span * k) (base + span * k + 1024 ^ depth) dirty left old new starts refl before.count before.planned none

  -- the next one leads outside the device
  pub progress_outside : {at : Option ℕ} → k < length ps → (r : Store) → r ≡ s → (sectors many : ℕ) → many ≡ sectors → (from : ℕ) → from ≡ get_or ps k 0 → LeadsOutsideAt many (all_pointers r depth (from ∷ [])) at → LeadsOutsideAt sectors (all_pointers s depth olds) at
  progress_outside {at = at} within r same sectors many still from is leads =
      outside_next k olds ps within before.others Told s keep depth base sectors
      (subst (λ (p : ℕ). LeadsOutsideAt sectors (all_pointers s depth (p ∷ [])) at) is
      (subst (λ (q : Store). LeadsOutsideAt sectors (all_pointers q depth (from ∷ [])) at) same
      (subst (λ (n : ℕ). LeadsOutsideAt n (all_pointers r depth (from ∷ [])) at) still leads)))
