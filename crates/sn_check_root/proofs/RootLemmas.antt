-- All numbers of a root.
use Rattle.std.proofs.Common.{◌≡◌, ⊎_elim, ℕ, zero, suc, ◌+◌, ◌-◌, ◌/◌, ◌<◌, ◌≤◌, List, [], ◌∷◌, ◌++◌, flat_map, append-nil, refl, sym, ap, subst, ◌∙◌, arith}
use Rattle.std.specs.List.{range_with_len}
use Rattle.std.proofs.lemmas.Bool.{cases_lt}
use Rattle.std.proofs.lemmas.Grind.{flat_map-append}
use Rattle.sn_limits.specs.declared.limits.Limits.{Limits}
use Rattle.sn_layout.specs.declared.tree.BlockTree.{BlockTree}
use Rattle.sn_ondisk.specs.Counts.{times}
use Rattle.sn_ondisk.specs.Trees.{Store}
use Rattle.sn_ondisk.proofs.CountLemmas.{times-append}
use Rattle.sn_image.specs.Reach.{numbers, reach_at}
use Rattle.sn_model.specs.declared.fault.Damage.{Damage}
use Rattle.sn_marks.specs.Marks.{Marks}
use Rattle.sn_marks.proofs.MarkLemmas.{marks_none}
use Rattle.sn_dir.proofs.NameLemmas.{range-more}
use Rattle.sn_check_root.specs.Rules.{IsSoundNumber, IsWrong}
use Rattle.sn_check_root.proofs.WrongLemmas.{marks_append, wrong_behind}

-- n more numbers after the ones that came before
range-joined : (a n m : ℕ) → range_with_len a (n + m) ≡ range_with_len a n ++ range_with_len (a + n) m
range-joined a zero m =
    let none : 0 + m ≡ m = omega arith in
    let here : a ≡ a + 0 = omega arith in
    ap (range_with_len a) none ∙ ap (λ (k : ℕ). range_with_len k m) here
range-joined a (suc n) m =
    let next : suc n + m ≡ suc (n + m) = omega arith in
    let there : a + 1 + n ≡ a + suc n = omega arith in
    ap (range_with_len a) next ∙ ap (λ (xs : List ℕ). a ∷ xs) (range-joined (a + 1) n m ∙ ap (λ (k : ℕ). range_with_len (a + 1) n ++ range_with_len k m) there)

module _ (s : Store) (inodes : BlockTree) where
  -- what the numbers from 2 on and below one reach
  abbrev pub reach_below : ℕ → List ℕ
  reach_below number = flat_map (reach_at s inodes) (range_with_len 2 (number - 2))

  pub below_more : (number : ℕ) → 2 ≤ number → reach_below (number + 1) ≡ reach_below number ++ reach_at s inodes number
  below_more number least =
      let next : number + 1 - 2 ≡ suc (number - 2) = omega (arith, least) in
      let last : 2 + (number - 2) ≡ number = omega (arith, least) in
      ap (λ (n : ℕ). flat_map (reach_at s inodes) (range_with_len 2 n)) next
      ∙ ap (flat_map (reach_at s inodes)) (range-more 2 (number - 2) ∙ ap (λ (k : ℕ). range_with_len 2 (number - 2) ++ k ∷ []) last)
      ∙ flat_map-append (reach_at s inodes) (range_with_len 2 (number - 2)) (number ∷ [])
      ∙ ap (λ (xs : List ℕ). reach_below number ++ xs) (append-nil (reach_at s inodes number))

  all_below : flat_map (reach_at s inodes) (numbers inodes) ≡ reach_below (inodes.size / 128)
  unfolding numbers
  all_below = refl

  further : (number d : ℕ) → 2 ≤ number → (rest : List ℕ) × (reach_below (number + d) ≡ reach_below number ++ rest)
  further number d least =
      let apart : number + d - 2 ≡ (number - 2) + d = omega (arith, least) in (
        flat_map (reach_at s inodes) (range_with_len (2 + (number - 2)) d),
        ap (λ (n : ℕ). flat_map (reach_at s inodes) (range_with_len 2 n)) apart
            ∙ ap (flat_map (reach_at s inodes)) (range-joined 2 (number - 2) d)
            ∙ flat_map-append (reach_at s inodes) (range_with_len 2 (number - 2)) (range_with_len (2 + (number - 2)) d),
      )

  -- those below a number and its own are some of all
  pub among_all : (number : ℕ) → 2 ≤ number → number < inodes.size / 128 → (x : ℕ)
      → times x (reach_below number) + times x (reach_at s inodes number) ≤ times x (flat_map (reach_at s inodes) (numbers inodes))
  among_all number least within x =
      let w = further (number + 1) (inodes.size / 128 - (number + 1)) (omega (arith, least)) in
      let end : (number + 1) + (inodes.size / 128 - (number + 1)) ≡ inodes.size / 128 = omega (arith, within) in
      omega (
        arith,
        ap (times x) (all_below ∙ ap reach_below (sym end) ∙ w.1),
        times-append x (reach_below (number + 1)) w.0,
        ap (times x) (below_more number least),
        times-append x (reach_below number) (reach_at s inodes number),
      )

  module _ (limits : Limits) (n k : ℕ) where
    -- what is under the numbers from 2 on and below one is sound, and what they reach was gone through
    pub record IsChecked (number : ℕ) (a b : List ℕ) : Type 0 where
      pub marks : Marks n k (reach_below number) a b
      pub sound : (i : ℕ) → 2 ≤ i → i < number → IsSoundNumber limits s inodes i

    pub checked_none : (a : List ℕ) → IsChecked 2 a a
    checked_none a = record { marks = marks_none n k [] a (λ x. refl); sound = λ i least within. absurd (omega (arith, least, within)) }

    pub checked_more : (number : ℕ) (a b c : List ℕ) → 2 ≤ number → IsChecked number a b → Marks n k (reach_at s inodes number) b c → IsSoundNumber limits s inodes number → IsChecked (number + 1) a c
    checked_more number a b c least before marks sound = record {
      marks = subst (λ (xs : List ℕ). Marks n k xs a c) (sym (below_more number least)) (marks_append n k (reach_below number) (reach_at s inodes number) a b c before.marks marks);
      sound = λ i low under. ⊎_elim
          (λ (old : i < number). before.sound i low old)
          (λ (new : number ≤ i). let same : number ≡ i = omega (arith, under, new) in subst (IsSoundNumber limits s inodes) same sound)
          (cases_lt i number);
    }

    pub all_marked : (number : ℕ) (a b : List ℕ) → number ≡ inodes.size / 128 → IsChecked number a b → Marks n k (flat_map (reach_at s inodes) (numbers inodes)) a b
    all_marked number a b all checked = subst (λ (xs : List ℕ). Marks n k xs a b) (ap reach_below all ∙ sym all_below) checked.marks

    pub wrong_number : (P : ℕ → Type 0) (number : ℕ) (a b : List ℕ) (damage : Damage) (block : ℕ) → 2 ≤ number → number < inodes.size / 128 → IsChecked number a b
        → IsWrong n k (reach_at s inodes number) b P damage block → IsWrong n k (flat_map (reach_at s inodes) (numbers inodes)) a P damage block
    wrong_number P number a b damage block least within before wrong =
        wrong_behind n k (reach_below number) (reach_at s inodes number) (flat_map (reach_at s inodes) (numbers inodes)) a b P P damage block (among_all number least within) (λ x is. is) before.marks wrong
