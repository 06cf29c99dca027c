-- Runs of pointers that stay, which are passed over at once.
use Rattle.std.proofs.Common.{◌≡◌, ◌⊎◌, ⊎_elim, ℕ, ◌+◌, ◌*◌, ◌<◌, ◌≤◌, min, List, [], ◌∷◌, ◌++◌, length, get_or, take, drop, sym, ap, subst, ◌∙◌, arith}
use Rattle.std.specs.Prelude.{◌^◌}
use Rattle.std.proofs.Math.Nat.{mul-le-mul_left}
use Rattle.std.proofs.Math.Seq.{take-add}
use Rattle.std.proofs.lemmas.List.{length-take-le, length-drop, drop-drop}
use Rattle.sn_ondisk.specs.Trees.{Store, all_pointers}
use Rattle.sn_tree.specs.Drafts.{Draft}
use Rattle.sn_tree.specs.Dirty.{IsFrom}
use Rattle.sn_tree.specs.Plans.{contents}
use Rattle.sn_tree.specs.Runs.{kept_until}
use Rattle.sn_tree.specs.Steps.{AreHoles, Planned}
use Rattle.sn_tree.specs.declared.new_block.DirtyBlock.{DirtyBlock}
use Rattle.sn_tree.proofs.SpanLemmas.{span_some}
use Rattle.sn_tree.proofs.DirtyLemmas.{after-none}
use Rattle.sn_tree.proofs.PlanLemmas.{plan_kept, plan_holes}
use Rattle.sn_tree.proofs.StepLemmas.{grown-none, planned_joined}

-- ---- up to where data blocks stay

pub kept_first : (keep : ℕ) (ds : List DirtyBlock) (d : DirtyBlock) → 0 < length ds → d ≡ get_or ds 0 d → min keep d.index ≡ kept_until keep ds
kept_first keep [] d some is = absurd (omega (arith, some))
kept_first keep (x ∷ xs) d some is = ap (λ (y : DirtyBlock). min keep y.index) is

pub kept_within : (keep : ℕ) (ds : List DirtyBlock) → kept_until keep ds ≤ keep
kept_within keep [] = omega arith
kept_within keep (d ∷ ds) = omega arith

pub run_at : (base k n width : ℕ) → base + k * width + n * width ≡ base + (k + n) * width
run_at base k n width = omega arith

run_some : (next n depth : ℕ) → 0 < n → next < next + n * 1024 ^ depth
run_some next n depth some =
    let more : 1024 ^ depth * 1 ≤ 1024 ^ depth * n = mul-le-mul_left (1024 ^ depth) (let le : 1 ≤ n = omega (arith, some) in le) in
    omega (arith, more, span_some depth)

-- ---- the plan of a run

planned_staying : (Told : Type 0) (s : Store) (keep depth base end : ℕ) (ps : List ℕ) (ds : List DirtyBlock) (draft : Draft) → end ≡ base + length ps * 1024 ^ depth → base < end → IsFrom end ds → (end ≤ keep) ⊎ AreHoles ps
    → Planned Told s (all_pointers s depth ps) (contents s depth ps) depth base end keep ds ds ps draft draft
planned_staying Told s keep depth base end ps ds draft is some rise stay = record {
  added = [];
  released = [];
  grew = grown-none draft;
  few = omega arith;
  rest = sym (after-none end ds rise);
  cut = λ low _. ⊎_elim (λ (within : end ≤ keep). absurd (omega (arith, low, within, some))) (λ (holes : AreHoles ps). holes) stay;
  plans = λ _. ⊎_elim (λ (within : end ≤ keep). plan_kept s depth base keep ds ps end is rise within) (λ (holes : AreHoles ps). plan_holes s depth base keep ds ps end is rise holes) stay;
}

module _ (k n : ℕ) (olds ps : List ℕ) (within : k + n ≤ length ps) (same : length ps ≡ length olds) (left : drop k ps ≡ drop k olds) where
  pub left_passed : drop (k + n) ps ≡ drop (k + n) olds
  left_passed = sym (drop-drop n k ps) ∙ ap (drop n) left ∙ drop-drop n k olds

  pub planned_passed : (Told : Type 0) (s : Store) (keep depth base next end : ℕ) (ds mid : List DirtyBlock) (draft between : Draft)
      → next ≡ base + k * 1024 ^ depth → end ≡ next + n * 1024 ^ depth → 0 < n → IsFrom end mid → (end ≤ keep) ⊎ AreHoles (take n (drop k ps))
      → Planned Told s (all_pointers s depth (take k olds)) (contents s depth (take k olds)) depth base (base + k * 1024 ^ depth) keep ds mid (take k ps) draft between
      → Planned Told s (all_pointers s depth (take (k + n) olds)) (contents s depth (take (k + n) olds)) depth base (base + (k + n) * 1024 ^ depth) keep ds mid (take (k + n) ps) draft between
  planned_passed Told s keep depth base next end ds mid draft between starts ends some rise stay front =
      let width = 1024 ^ depth in
      let run = take n (drop k olds) in
      let count : length run ≡ n = length-take-le n (drop k olds) (omega (arith, within, same, length-drop k olds)) in
      let before : length (take k olds) ≡ k = length-take-le k olds (omega (arith, within, same)) in
      let is : next ≡ base + length (take k olds) * width = starts ∙ ap (λ m. base + m * width) (sym before) in
      let further : next < end = subst (λ (m : ℕ). next < m) (sym ends) (run_some next n depth some) in
      let here = subst (λ (m : ℕ). Planned Told s (all_pointers s depth (take k olds)) (contents s depth (take k olds)) depth base m keep ds mid (take k ps) draft between) (sym starts) front in
      let same_run : take n (drop k ps) ≡ run = ap (take n) left in
      let kept = planned_staying Told s keep depth next end run mid between (ends ∙ ap (λ m. next + m * width) (sym count)) further rise (subst (λ (qs : List ℕ). (end ≤ keep) ⊎ AreHoles qs) same_run stay) in
      let both = planned_joined Told s keep depth base next end (take k olds) run (take k ps) run ds mid mid draft between between is (omega (arith, further)) here kept in
      let of_olds : take k olds ++ run ≡ take (k + n) olds = sym (take-add k n olds) in
      let of_news : take k ps ++ run ≡ take (k + n) ps = ap (λ (xs : List ℕ). take k ps ++ take n xs) (sym left) ∙ sym (take-add k n ps) in
      let of_end : end ≡ base + (k + n) * width = ends ∙ ap (λ m. m + n * width) starts ∙ run_at base k n width in
      subst (λ (m : ℕ). Planned Told s (all_pointers s depth (take (k + n) olds)) (contents s depth (take (k + n) olds)) depth base m keep ds mid (take (k + n) ps) draft between) of_end
      (subst (λ (news : List ℕ). Planned Told s (all_pointers s depth (take (k + n) olds)) (contents s depth (take (k + n) olds)) depth base end keep ds mid news draft between) of_news
      (subst (λ (qs : List ℕ). Planned Told s (all_pointers s depth qs) (contents s depth qs) depth base end keep ds mid (take k ps ++ run) draft between) of_olds both))
