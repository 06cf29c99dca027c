-- Going through pointers, one after the other and a level down.
use Rattle.std.proofs.Common.{◌≡◌, ◌≢◌, ◌⊎◌, inl, inr, ⊎_elim, ℕ, zero, suc, ◌+◌, ◌-◌, ◌*◌, ◌<◌, ◌≤◌, List, [], ◌∷◌, ◌++◌, length, take, drop, slice_index, refl, sym, ap, subst, ◌∙◌, arith, length-append}
use Rattle.std.specs.Prelude.{◌^◌, All, IfErr, Result, Ok, Err}
use Rattle.std.proofs.Math.Nat.{pow-succ', pow-le-pow_right}
use Rattle.std.proofs.lemmas.Bool.{cases_lt, cases_eq}
use Rattle.std.proofs.lemmas.List.Elements.{All-nil, All-cons}
use Rattle.std.proofs.lemmas.List.{get_or_append_left, get_or-append-add, get_or-replicate, get_or-drop, take_more, take-append-drop, length-take, length-drop}
use Rattle.sn_image.specs.Reach.{block_reach}
use Rattle.sn_model.specs.declared.fault.Damage.{Damage}
use Rattle.sn_model.specs.declared.fault.Damage.TheVariants.{Misspelt}
use Rattle.sn_layout.specs.Bytes.{zeros}
use Rattle.sn_ondisk.specs.Counts.{times}
use Rattle.sn_ondisk.specs.Trees.{Store, named_by, below, all_pointers}
use Rattle.sn_ondisk.proofs.CountLemmas.{times-all_append, times-down}
use Rattle.sn_ondisk.proofs.TreeLemmas.{length-below}
use Rattle.sn_marks.specs.Marks.{Marks, IsAstray}
use Rattle.sn_marks.specs.Walks.{named, HasEnd, HasTail, tail, EndsBelow, BreaksBelow, IsWalked, IsBroken, astray, misspelt}
use Rattle.sn_tree_read.proofs.PointerLemmas.{named_block}
use Rattle.sn_marks.specs.Fault.{Tells}
use Rattle.sn_marks.specs.declared.fault.CheckFault.{CheckFault}
use Rattle.sn_marks.specs.declared.fault.CheckFault.TheVariants.{Damaged, Read}
use Rattle.sn_marks.proofs.MarkLemmas.{named_sum, named_one, marks_join, marks_down, marks_hole, marks_none, astray_behind, astray_among}

-- ---- holes

hole_below : (s : Store) (j : ℕ) → j < 1024 → slice_index (below s 0) j ≡ 0
unfolding below
hole_below s j within = get_or-replicate 1024 j 0 0 within

hole_bytes : (s : Store) (k : ℕ) → k < 4096 → slice_index (named_by s 0) k ≡ 0
unfolding named_by zeros
hole_bytes s k within = get_or-replicate 4096 k 0 0 within

pub ends_hole : (s : Store) (size height first : ℕ) → EndsBelow s size height first 0
unfolding EndsBelow
ends_hole s size zero first = (λ past. refl, λ k within past. hole_bytes s k within)
ends_hole s size (suc height) first = (λ past. refl, λ j within. subst (EndsBelow s size height (first + j * (4096 * 1024 ^ height))) (sym (hole_below s j within)) (ends_hole s size height (first + j * (4096 * 1024 ^ height))))

module _ (n k : ℕ) (s : Store) (size : ℕ) where
  pub walked_none : (height first : ℕ) (a : List ℕ) → IsWalked n k s size height first [] a a
  walked_none height first a = record {
    marks = marks_none n k (named (all_pointers s height [])) a (λ block. none (times block (named (all_pointers s height []))) (named_sum (all_pointers s height []) (all_pointers s height []) (all_pointers s height []) (λ x some. times-all_append s x height [] []) block));
    ends = λ j within. absurd (omega (arith, within));
  }
    where
      none : (t : ℕ) → t ≡ t + t → t ≡ 0
      none t twice = omega (arith, twice)

  pub walked_hole : (height first pointer : ℕ) (a : List ℕ) → pointer ≡ 0 → IsWalked n k s size height first (pointer ∷ []) a a
  walked_hole height first pointer a hole = subst (λ (p : ℕ). IsWalked n k s size height first (p ∷ []) a a) (sym hole) (record {
    marks = marks_hole n k height s a;
    ends = λ j within. at_one j within;
  })
    where
      at_one : (j : ℕ) → j < 1 → EndsBelow s size height (first + j * (4096 * 1024 ^ height)) (slice_index (0 ∷ []) j)
      at_one zero within = ends_hole s size height (first + 0 * (4096 * 1024 ^ height))
      at_one (suc j) within = absurd (omega (arith, within))

  -- the first of one pointer
  one_end : (height first pointer : ℕ) → EndsBelow s size height first pointer → (j : ℕ) → j < 1 → EndsBelow s size height (first + j * (4096 * 1024 ^ height)) (slice_index (pointer ∷ []) j)
  one_end height first pointer ends zero within = subst (λ (at : ℕ). EndsBelow s size height at pointer) (let same : first ≡ first + 0 * (4096 * 1024 ^ height) = omega arith in same) ends
  one_end height first pointer ends (suc j) within = absurd (omega (arith, within))

  only_end : (height first pointer : ℕ) → ((j : ℕ) → j < 1 → EndsBelow s size height (first + j * (4096 * 1024 ^ height)) (slice_index (pointer ∷ []) j)) → EndsBelow s size height first pointer
  only_end height first pointer ends = subst (λ (at : ℕ). EndsBelow s size height at pointer) (let same : first + 0 * (4096 * 1024 ^ height) ≡ first = omega arith in same) (ends 0 (omega arith))

  -- ---- one after the other

  pub walked_more : (height first : ℕ) (xs : List ℕ) (pointer : ℕ) (a b c : List ℕ) → IsWalked n k s size height first xs a b
      → IsWalked n k s size height (first + length xs * (4096 * 1024 ^ height)) (pointer ∷ []) b c → IsWalked n k s size height first (xs ++ pointer ∷ []) a c
  walked_more height first xs pointer a b c before here = record {
    marks = marks_join n k height s xs (pointer ∷ []) a b c before.marks here.marks;
    ends = λ j within. ⊎_elim
        (λ (old : j < length xs). subst (EndsBelow s size height (first + j * (4096 * 1024 ^ height))) (sym (get_or_append_left xs (pointer ∷ []) 0 j old)) (before.ends j old))
        (λ (new : length xs ≤ j). let same : j ≡ length xs + 0 = omega (arith, new, within, length-append xs (pointer ∷ [])) in
        subst (λ (i : ℕ). EndsBelow s size height (first + i * (4096 * 1024 ^ height)) (slice_index (xs ++ pointer ∷ []) i)) (sym same) last)
        (cases_lt j (length xs));
  }
    where
      last : EndsBelow s size height (first + (length xs + 0) * (4096 * 1024 ^ height)) (slice_index (xs ++ pointer ∷ []) (length xs + 0))
      last =
          let at : first + length xs * (4096 * 1024 ^ height) ≡ first + (length xs + 0) * (4096 * 1024 ^ height) = ap (λ (i : ℕ). first + i * (4096 * 1024 ^ height)) (omega arith) in
          subst (EndsBelow s size height (first + (length xs + 0) * (4096 * 1024 ^ height))) (sym (get_or-append-add xs (pointer ∷ []) 0 0))
          (subst (λ (i : ℕ). EndsBelow s size height i pointer) at (only_end height (first + length xs * (4096 * 1024 ^ height)) pointer here.ends))

  -- in a list, up to a place
  pub walked_step : (height first : ℕ) (ps : List ℕ) (i pointer : ℕ) (a b c : List ℕ) → i < length ps → pointer ≡ slice_index ps i → IsWalked n k s size height first (take i ps) a b
      → IsWalked n k s size height (first + i * (4096 * 1024 ^ height)) (pointer ∷ []) b c → IsWalked n k s size height first (take (i + 1) ps) a c
  walked_step height first ps i pointer a b c within is before here =
      let long : length (take i ps) ≡ i = length-take-within i ps within in
      subst (λ (xs : List ℕ). IsWalked n k s size height first xs a c) (ap (λ (p : ℕ). take i ps ++ p ∷ []) is ∙ sym (take_more ps i 0 within))
      (walked_more height first (take i ps) pointer a b c before (subst (λ (m : ℕ). IsWalked n k s size height (first + m * (4096 * 1024 ^ height)) (pointer ∷ []) b c) (sym long) here))
    where
      length-take-within : (i : ℕ) (ps : List ℕ) → i < length ps → length (take i ps) ≡ i
      length-take-within i ps within = omega (arith, length-take i ps, within)

  -- ---- a level down

  pub walked_down : (height first pointer : ℕ) (a b c : List ℕ) → first < size → Marks n k (block_reach pointer) a b
      → IsWalked n k s size height first (below s pointer) b c → IsWalked n k s size (suc height) first (pointer ∷ []) a c
  unfolding EndsBelow
  walked_down height first pointer a b c within marks lower = record {
    marks = marks_down n k height s pointer a b c marks lower.marks;
    ends = one_end (suc height) first pointer here;
  }
    where
      here : EndsBelow s size (suc height) first pointer
      here = (λ past. absurd (omega (arith, past, within)), λ j under. lower.ends j (omega (arith, under, length-below s pointer)))

  pub walked_leaf : (first pointer : ℕ) (a b : List ℕ) → first < size → Marks n k (block_reach pointer) a b → HasEnd s (size - first) pointer
      → IsWalked n k s size 0 first (pointer ∷ []) a b
  unfolding EndsBelow all_pointers
  walked_leaf first pointer a b within marks end = record {
    marks = at_leaf;
    ends = one_end 0 first pointer here;
  }
    where
      at_leaf : Marks n k (named (all_pointers s 0 (pointer ∷ []))) a b
      at_leaf = subst (λ (xs : List ℕ). Marks n k xs a b) (named_one pointer) marks

      here : EndsBelow s size 0 first pointer
      here = (λ past. absurd (omega (arith, past, within)), λ k under past. end k under (omega (arith, past)))

  -- ---- what is broken

  one_break : (height first pointer holder block : ℕ) (a : List ℕ) → BreaksBelow s size height first pointer holder block → IsBroken n k s size height first (pointer ∷ []) holder a Misspelt block
  one_break height first pointer holder block a breaks =
      misspelt block 0 (omega arith) (subst (λ (at : ℕ). BreaksBelow s size height at pointer holder block) (let same : first ≡ first + 0 * (4096 * 1024 ^ height) = omega arith in same) breaks)

  only_break : (height first pointer holder block j : ℕ) → j < 1 → BreaksBelow s size height (first + j * (4096 * 1024 ^ height)) (slice_index (pointer ∷ []) j) holder block → BreaksBelow s size height first pointer holder block
  only_break height first pointer holder block zero within breaks = subst (λ (at : ℕ). BreaksBelow s size height at pointer holder block) (let same : first + 0 * (4096 * 1024 ^ height) ≡ first = omega arith in same) breaks
  only_break height first pointer holder block (suc j) within breaks = absurd (omega (arith, within))

  pub broken_past : (height first pointer holder : ℕ) (a : List ℕ) → size ≤ first → pointer ≢ 0 → IsBroken n k s size height first (pointer ∷ []) holder a Misspelt holder
  unfolding BreaksBelow
  broken_past height first pointer holder a past some = one_break height first pointer holder holder a (at height)
    where
      at : (height : ℕ) → BreaksBelow s size height first pointer holder holder
      at zero = inl (record { past = past; some = some; here = refl })
      at (suc height) = inl (record { past = past; some = some; here = refl })

  pub broken_mark : (height first pointer holder : ℕ) (a : List ℕ) (damage : Damage) (block : ℕ) → IsAstray n k (block_reach pointer) a damage block → IsBroken n k s size height first (pointer ∷ []) holder a damage block
  unfolding all_pointers
  broken_mark height first pointer holder a damage block wrong = astray damage block (astray_among n k (block_reach pointer) (named (all_pointers s height (pointer ∷ []))) a damage block (at height) wrong)
    where
      at : (height x : ℕ) → times x (block_reach pointer) ≤ times x (named (all_pointers s height (pointer ∷ [])))
      at zero x = omega (arith, ap (times x) (named_one pointer))
      at (suc height) x = omega (arith, ap (times x) (named_one pointer), named_sum (pointer ∷ []) (all_pointers s height (below s pointer)) (all_pointers s (suc height) (pointer ∷ [])) (λ block some. times-down s block height pointer) x)

  pub broken_tail : (first pointer holder : ℕ) (a : List ℕ) (damage : Damage) (block : ℕ) → first < size → HasTail s (size - first) pointer damage block → IsBroken n k s size 0 first (pointer ∷ []) holder a damage block
  unfolding BreaksBelow
  broken_tail first pointer holder a _ _ inside (tail k within past some) = one_break 0 first pointer holder pointer a here
    where
      here : BreaksBelow s size 0 first pointer holder pointer
      here = inr (record { k = k; within = within; past = omega (arith, past, inside); some = some; here = refl })

  -- after pointers that were gone through
  pub broken_step : (height first : ℕ) (ps : List ℕ) (i pointer holder : ℕ) (a b : List ℕ) (damage : Damage) (block : ℕ) → i < length ps → pointer ≡ slice_index ps i → IsWalked n k s size height first (take i ps) a b
      → IsBroken n k s size height (first + i * (4096 * 1024 ^ height)) (pointer ∷ []) holder b damage block → IsBroken n k s size height first ps holder a damage block
  broken_step height first ps i pointer holder a b _ _ within is before (astray damage block wrong) =
      astray damage block (astray_behind n k (named (all_pointers s height (take i ps))) (named (all_pointers s height (pointer ∷ []))) (named (all_pointers s height ps)) a b damage block sum before.marks wrong)
    where
      split : (take i ps ++ pointer ∷ []) ++ drop (i + 1) ps ≡ ps
      split = ap (λ (xs : List ℕ). xs ++ drop (i + 1) ps) (ap (λ (p : ℕ). take i ps ++ p ∷ []) is ∙ sym (take_more ps i 0 within)) ∙ take-append-drop (i + 1) ps

      counted : (x : ℕ) → x ≢ 0 → times x (all_pointers s height ps) ≡ times x (all_pointers s height (take i ps ++ pointer ∷ [])) + times x (all_pointers s height (drop (i + 1) ps))
      counted x some = sym (ap (λ (qs : List ℕ). times x (all_pointers s height qs)) split) ∙ times-all_append s x height (take i ps ++ pointer ∷ []) (drop (i + 1) ps)

      sum : (x : ℕ) → times x (named (all_pointers s height (take i ps))) + times x (named (all_pointers s height (pointer ∷ []))) ≤ times x (named (all_pointers s height ps))
      sum x = omega (
        arith,
        named_sum (all_pointers s height (take i ps ++ pointer ∷ [])) (all_pointers s height (drop (i + 1) ps)) (all_pointers s height ps) counted x,
        named_sum (all_pointers s height (take i ps)) (all_pointers s height (pointer ∷ [])) (all_pointers s height (take i ps ++ pointer ∷ [])) (λ y some. times-all_append s y height (take i ps) (pointer ∷ [])) x,
      )
  broken_step height first ps i pointer holder a b _ _ within is before (misspelt block j one breaks) =
      misspelt block i within (subst (λ (p : ℕ). BreaksBelow s size height (first + i * (4096 * 1024 ^ height)) p holder block) is
      (only_break height (first + i * (4096 * 1024 ^ height)) pointer holder block j one breaks))

  pub broken_down : (height first pointer holder : ℕ) (a b : List ℕ) (damage : Damage) (block : ℕ) → Marks n k (block_reach pointer) a b
      → IsBroken n k s size height first (below s pointer) pointer b damage block → IsBroken n k s size (suc height) first (pointer ∷ []) holder a damage block
  unfolding BreaksBelow
  broken_down height first pointer holder a b _ _ marks (astray damage block wrong) =
      astray damage block (astray_behind n k (block_reach pointer) (named (all_pointers s height (below s pointer))) (named (all_pointers s (suc height) (pointer ∷ []))) a b damage block sum marks wrong)
    where
      sum : (x : ℕ) → times x (block_reach pointer) + times x (named (all_pointers s height (below s pointer))) ≤ times x (named (all_pointers s (suc height) (pointer ∷ [])))
      sum x = omega (arith, ap (times x) (named_one pointer), named_sum (pointer ∷ []) (all_pointers s height (below s pointer)) (all_pointers s (suc height) (pointer ∷ [])) (λ block some. times-down s block height pointer) x)
  broken_down height first pointer holder a b _ _ marks (misspelt block j within breaks) = one_break (suc height) first pointer holder block a here
    where
      here : BreaksBelow s size (suc height) first pointer holder block
      here = inr (j, omega (arith, within, length-below s pointer), breaks)

-- ---- the bytes past the size

first_other : (xs : List ℕ) → All (λ (x : ℕ). x ≡ 0) xs ⊎ ((k : ℕ) × (k < length xs) × (slice_index xs k ≢ 0))
first_other [] = inl (All-nil (λ (x : ℕ). x ≡ 0))
first_other (x ∷ xs) = told (cases_eq x 0) (first_other xs)
  where
    told : (x ≡ 0) ⊎ (x ≢ 0) → All (λ (x : ℕ). x ≡ 0) xs ⊎ ((k : ℕ) × (k < length xs) × (slice_index xs k ≢ 0)) → All (λ (x : ℕ). x ≡ 0) (x ∷ xs) ⊎ ((k : ℕ) × (k < length (x ∷ xs)) × (slice_index (x ∷ xs) k ≢ 0))
    told (inr other) rest = inr (0, omega arith, other)
    told (inl zero_here) (inl rest) = inl (All-cons (λ (x : ℕ). x ≡ 0) x xs zero_here rest)
    told (inl zero_here) (inr more) = inr (suc more.0, omega (arith, more.1), more.2)

module _ (s : Store) (from pointer : ℕ) (block : List ℕ) (some : pointer ≢ 0) (is : block ≡ s pointer) (size : length block ≡ 4096) where
  bytes_are : (k : ℕ) → slice_index (named_by s pointer) (from + k) ≡ slice_index (drop from block) k
  bytes_are k = ap (λ (b : List ℕ). slice_index b (from + k)) (named_block s pointer some ∙ sym is) ∙ sym (get_or-drop from block k 0)

  pub end_zeros : All (λ (b : ℕ). b ≡ 0) (drop from block) → HasEnd s from pointer
  end_zeros zeros k within past =
      let at : from + (k - from) ≡ k = omega (arith, past) in
      subst (λ (j : ℕ). slice_index (named_by s pointer) j ≡ 0) at
      (bytes_are (k - from) ∙ zeros (k - from) 0 (omega (arith, within, past, size, length-drop from block)))

  pub end_tail : (All (λ (b : ℕ). b ≡ 0) (drop from block) → ⊥) → HasTail s from pointer Misspelt pointer
  end_tail wrong = ⊎_elim
      (λ (all : All (λ (b : ℕ). b ≡ 0) (drop from block)). absurd (wrong all))
      (λ (found : (k : ℕ) × (k < length (drop from block)) × (slice_index (drop from block) k ≢ 0)).
      tail (from + found.0) (omega (arith, found.1, size, length-drop from block)) (omega arith) (λ none. found.2 (sym (bytes_are found.0) ∙ none)))
      (first_other (drop from block))

-- ---- spans

pub span_most : (height : ℕ) → height ≤ 3 → 1024 ^ height ≤ 1073741824
span_most height within = pow-le-pow_right (omega arith) within

pub span_down : (height : ℕ) → height ≢ 0 → 1024 * (4096 * 1024 ^ (height - 1)) ≡ 4096 * 1024 ^ height
span_down zero some = absurd (some refl)
span_down (suc height) some =
    let here : suc height - 1 ≡ height = omega arith in
    ap (λ (n : ℕ). 1024 * (4096 * 1024 ^ n)) here ∙ turned (1024 ^ height) ∙ ap (λ (w : ℕ). 4096 * w) (sym (pow-succ' 1024 height))
  where
    turned : (w : ℕ) → 1024 * (4096 * w) ≡ 4096 * (1024 * w)
    turned w = omega arith

-- ---- what is reported

pub tells_weaker : (fault : CheckFault) (P Q : Damage → ℕ → Type 0) → ((damage : Damage) (block : ℕ) → P damage block → Q damage block) → Tells fault P → Tells fault Q
tells_weaker (Damaged damage block) P Q weaker told = weaker damage block told
tells_weaker (Read fault) P Q weaker told = tt

pub told_weaker : {T : Type 0} (result : Result T CheckFault) (P Q : Damage → ℕ → Type 0) → ((damage : Damage) (block : ℕ) → P damage block → Q damage block) → IfErr result (λ fault. Tells fault P) → IfErr result (λ fault. Tells fault Q)
told_weaker (Ok x) P Q weaker told = tt
told_weaker (Err fault) P Q weaker told = tells_weaker fault P Q weaker told
