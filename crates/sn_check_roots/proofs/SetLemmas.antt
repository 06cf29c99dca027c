-- Sets of roots, bit by bit.
use Rattle.std.proofs.Common.{◌≡◌, ◌≢◌, ◌↔◌, ◌⊎◌, inl, inr, ⊎_elim, ℕ, zero, suc, ◌/◌, ◌%◌, ◌^◌, ◌<◌, ◌≤◌, ◌==◌, Bool, true, false, cond, List, [], ◌∷◌, ◌++◌, replicate, slice_index, Contains, refl, sym, ap, subst, ◌∙◌, arith}
use Rattle.std.specs.Int.{bit_at}
use Rattle.std.proofs.lemmas.Bool.{cases_eq, cases_lt, eq-eqb, eqb-true}
use Rattle.std.proofs.lemmas.List.{get_or-replicate, get_or_past, length-replicate}
use Rattle.std.proofs.lemmas.List.Elements.{Contains-append_left, Contains-append_right, Contains-append_cases}
use Rattle.std.proofs.lemmas.List.Sums.{sum_by-cons}
use Rattle.std.proofs.lemmas.Nat.Bits.{bit_at-suc, bit_at-zero, bit_at_lowest}
use Rattle.sn_device.proofs.SectorLemmas.{Contains-first, Contains-more}
use Rattle.sn_ondisk.specs.Counts.{times}
use Rattle.sn_ondisk.specs.Trees.{Store}
use Rattle.sn_image.specs.Reach.{reach}
use Rattle.sn_image.proofs.ListLemmas.{none_in}
use Rattle.sn_image.proofs.PieceLemmas.{cases, sum_one}
use Rattle.sn_sound.specs.Maps.{Rooted, IsReachedBy, IsSetOfRoots}
use Rattle.sn_marks.specs.Marks.{Marks}
use Rattle.sn_check_roots.specs.Sets.{AreSets}

-- ---- numbers and their bits

low_bit : (n : ℕ) → bit_at n 0 ≡ n % 2
low_bit n = bit_at_lowest n

bit_small : (n k : ℕ) → bit_at n k ≤ 1
bit_small n k = omega arith

-- numbers with the same bits are the same
pub same_bits : (width a b : ℕ) → a < 2 ^ width → b < 2 ^ width → ((k : ℕ) → bit_at a k ≡ bit_at b k) → a ≡ b
same_bits zero a b small_a small_b same = omega (arith, small_a, small_b)
same_bits (suc width) a b small_a small_b same =
    let half = same_bits width (a / 2) (b / 2) (omega (arith, small_a)) (omega (arith, small_b)) (λ k. sym (bit_at-suc a k) ∙ same (suc k) ∙ bit_at-suc b k) in
    omega (arith, half, same 0, low_bit a, low_bit b)

-- where each is set exactly where the other is
pub same_sets : (s : Store) (roots : List Rooted) (block a b : ℕ) → IsSetOfRoots s roots block a → IsSetOfRoots s roots block b → a ≡ b
same_sets s roots block a b one two = same_bits 32 a b one.fits two.fits (λ k. same k)
  where
    same : (k : ℕ) → bit_at a k ≡ bit_at b k
    same k = ⊎_elim
        (λ (set : bit_at a k ≡ 1). set ∙ sym ((two.bits k).1 ((one.bits k).0 set)))
        (λ (clear : bit_at a k ≢ 1). ⊎_elim
        (λ (set : bit_at b k ≡ 1). absurd (clear ((one.bits k).1 ((two.bits k).0 set))))
        (λ (none : bit_at b k ≢ 1). omega (arith, clear, none, bit_small a k, bit_small b k))
        (cases_eq (bit_at b k) 1))
        (cases_eq (bit_at a k) 1)

-- ---- roots

module _ (s : Store) where
  pub sets_begin : (n : ℕ) → AreSets s [] (replicate n 0)
  sets_begin n block k = (λ set. absurd (omega (arith, set, ap (λ (w : ℕ). bit_at w k) blank, bit_at-zero k)), λ is. none_in _ is.among)
    where
      blank : slice_index (replicate n 0) block ≡ 0
      blank = ⊎_elim
          (λ (within : block < n). get_or-replicate n block 0 0 within)
          (λ (past : n ≤ block). get_or_past (replicate n 0) block 0 (omega (arith, past, length-replicate {A = ℕ} n 0)))
          (cases_lt block n)

  -- a block that is counted is among them
  times_some : (block : ℕ) (blocks : List ℕ) → 1 ≤ times block blocks → Contains blocks block
  times_some block [] some = absurd (omega (arith, some))
  times_some block (x ∷ xs) some = told (x == block) refl (times_some block xs)
    where
      told : (b : Bool) → (x == block) ≡ b → (1 ≤ times block xs → Contains xs block) → Contains (x ∷ xs) block
      told true is later = subst (Contains (x ∷ xs)) (eqb-true x block is) (Contains-first x xs)
      told false is later = Contains-more x xs block (later (omega (arith, some, sum_by-cons (λ y. cond (y == block) 1 0) x xs, ap {B = ℕ} (λ (b : Bool). cond b 1 0) is)))

  some_times : (block : ℕ) (blocks : List ℕ) → Contains blocks block → 1 ≤ times block blocks
  some_times block blocks among = omega (arith, sum_one (λ y. cond (y == block) 1 0) blocks block among, ap {B = ℕ} (λ (b : Bool). cond b 1 0) (eq-eqb block block refl))

  module _ (n : ℕ) (roots : List Rooted) (root : Rooted) (old new : List ℕ) (sets : AreSets s roots old) (own : (other : Rooted) → Contains roots other → other.bit ≢ root.bit) (marks : Marks n root.bit (reach s root.inodes) old new) where
    clear : (block : ℕ) → bit_at (slice_index old block) root.bit ≢ 1
    clear block set = let is = (sets block root.bit).0 set in own _ is.among refl

    pub sets_grow : AreSets s (roots ++ root ∷ []) new
    sets_grow block k = ⊎_elim own_bit other_bit (cases_eq k root.bit)
      where
        own_bit : k ≡ root.bit → (bit_at (slice_index new block) k ≡ 1) ↔ IsReachedBy s (roots ++ root ∷ []) block k
        own_bit same = subst (λ (j : ℕ). (bit_at (slice_index new block) j ≡ 1) ↔ IsReachedBy s (roots ++ root ∷ []) block j) (sym same) (
          λ set. record {
            inodes = root.inodes;
            among = Contains-append_right roots (root ∷ []) root (0, omega arith, refl);
            reached = times_some block (reach s root.inodes) (omega (arith, set, marks.counted block, clear block, bit_small (slice_index old block) root.bit));
          },
          λ is. told is (Contains-append_cases roots (root ∷ []) _ is.among),
        )
          where
            told : (is : IsReachedBy s (roots ++ root ∷ []) block root.bit) → Contains roots (record { bit = root.bit; inodes = is.inodes }) ⊎ Contains (root ∷ []) (record { bit = root.bit; inodes = is.inodes }) → bit_at (slice_index new block) root.bit ≡ 1
            told is (inl before) = absurd (own _ before refl)
            told is (inr here) = ⊎_elim
                (λ (it : root ≡ record { bit = root.bit; inodes = is.inodes }).
                let reached : Contains (reach s root.inodes) block = subst (λ (r : Rooted). Contains (reach s r.inodes) block) (sym it) is.reached in
                omega (arith, some_times block (reach s root.inodes) reached, marks.counted block, bit_small (slice_index new block) root.bit))
                (λ none. none_in _ none)
                (cases root [] _ here)

        other_bit : k ≢ root.bit → (bit_at (slice_index new block) k ≡ 1) ↔ IsReachedBy s (roots ++ root ∷ []) block k
        other_bit other = (
          λ set. let is = (sets block k).0 (sym (marks.others block k other) ∙ set) in
              record { inodes = is.inodes; among = Contains-append_left roots (root ∷ []) _ is.among; reached = is.reached },
          λ is. told is (Contains-append_cases roots (root ∷ []) _ is.among),
        )
          where
            told : (is : IsReachedBy s (roots ++ root ∷ []) block k) → Contains roots (record { bit = k; inodes = is.inodes }) ⊎ Contains (root ∷ []) (record { bit = k; inodes = is.inodes }) → bit_at (slice_index new block) k ≡ 1
            told is (inl before) = marks.others block k other ∙ (sets block k).1 (record { inodes = is.inodes; among = before; reached = is.reached })
            told is (inr here) = ⊎_elim
                (λ (it : root ≡ record { bit = k; inodes = is.inodes }). absurd (other (sym (ap (λ (r : Rooted). r.bit) it))))
                (λ none. none_in _ none)
                (cases root [] _ here)
