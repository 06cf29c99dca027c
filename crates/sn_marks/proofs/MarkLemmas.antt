-- How marks add up.
use Rattle.std.proofs.Common.{◌≡◌, ◌≢◌, ⊎_elim, ℕ, zero, suc, ◌+◌, ◌<◌, ◌≤◌, ◌==◌, not, Bool, true, false, List, [], ◌∷◌, ◌++◌, replicate, slice_index, Contains, refl, sym, ap, subst, ◌∙◌, arith, if◌then◌else◌}
use Rattle.std.specs.Int.{bit_at}
use Rattle.std.proofs.lemmas.Bool.{eqb-true, eqb-false, cases_eq}
use Rattle.std.proofs.lemmas.Nat.Bits.{bit_at-lt}
use Rattle.sn_layout.specs.declared.geometry.Area.TheVariants.{Data}
use Rattle.sn_layout.specs.Geometry.{IsIn}
use Rattle.sn_image.specs.Reach.{block_reach}
use Rattle.sn_model.specs.declared.fault.Damage.{Damage}
use Rattle.sn_model.specs.declared.fault.Damage.TheVariants.{Pointer, ReachedTwice}
use Rattle.sn_ondisk.specs.Counts.{times}
use Rattle.sn_ondisk.specs.Trees.{Store, below, all_pointers}
use Rattle.sn_ondisk.proofs.CountLemmas.{times-cons, times-same, times-other, among_times, times_among, times-all_append, times-down}
use Rattle.sn_marks.specs.Marks.{Marks, IsAstray, outside, twice}
use Rattle.sn_marks.specs.Walks.{named}

-- ---- the blocks among pointers

pub times-named_hole : (ps : List ℕ) → times 0 (named ps) ≡ 0
times-named_hole [] = refl
times-named_hole (p ∷ ps) = either (times-named_hole ps) (p == 0) refl
  where
    either : times 0 (named ps) ≡ 0 → (b : Bool) → (p == 0) ≡ b → times 0 (if not b then p ∷ named ps else named ps) ≡ 0
    either later true is = later
    either later false is = omega (arith, later, times-cons 0 p (named ps), times-other 0 p (eqb-false p 0 is))

pub times-named : (block : ℕ) (ps : List ℕ) → block ≢ 0 → times block (named ps) ≡ times block ps
times-named block [] some = refl
times-named block (p ∷ ps) some = either (times-named block ps some) (p == 0) refl
  where
    either : times block (named ps) ≡ times block ps → (b : Bool) → (p == 0) ≡ b → times block (if not b then p ∷ named ps else named ps) ≡ times block (p ∷ ps)
    either later true is = omega (arith, later, times-cons block p ps, times-other block p (λ same. some (sym same ∙ eqb-true p 0 is)))
    either later false is = omega (arith, later, times-cons block p ps, times-cons block p (named ps))

-- what is so of counts of pointers is so of counts of the blocks that they name
pub named_sum : (xs ys all : List ℕ) → ((block : ℕ) → block ≢ 0 → times block all ≡ times block xs + times block ys) → (block : ℕ) → times block (named all) ≡ times block (named xs) + times block (named ys)
named_sum xs ys all sum block = ⊎_elim
    (λ (hole : block ≡ 0). subst (λ (b : ℕ). times b (named all) ≡ times b (named xs) + times b (named ys)) (sym hole) (omega (arith, times-named_hole all, times-named_hole xs, times-named_hole ys)))
    (λ (some : block ≢ 0). omega (arith, sum block some, times-named block all some, times-named block xs some, times-named block ys some))
    (cases_eq block 0)

pub named_none : (all : List ℕ) → ((block : ℕ) → block ≢ 0 → times block all ≡ 0) → (block : ℕ) → times block (named all) ≡ 0
named_none all none block = ⊎_elim
    (λ (hole : block ≡ 0). subst (λ (b : ℕ). times b (named all) ≡ 0) (sym hole) (times-named_hole all))
    (λ (some : block ≢ 0). times-named block all some ∙ none block some)
    (cases_eq block 0)

pub named_one : (p : ℕ) → block_reach p ≡ named (p ∷ [])
named_one p = either (p == 0)
  where
    either : (b : Bool) → (if b then [] else p ∷ []) ≡ (if not b then p ∷ [] else [])
    either true = refl
    either false = refl

pub reach_some : (p : ℕ) → p ≢ 0 → block_reach p ≡ p ∷ []
reach_some p some = either (p == 0) refl
  where
    either : (b : Bool) → (p == 0) ≡ b → (if b then [] else p ∷ []) ≡ p ∷ []
    either true is = absurd (some (eqb-true p 0 is))
    either false is = refl

-- ---- pointers that are holes

module _ (s : Store) (block : ℕ) (some : block ≢ 0) where
  none_below : (height : ℕ) → times block (all_pointers s height []) ≡ 0
  none_below height = omega (arith, times-all_append s block height [] [])

  holes_below : (height count : ℕ) → times block (all_pointers s height (0 ∷ [])) ≡ 0 → times block (all_pointers s height (replicate count 0)) ≡ 0
  holes_below height zero one = none_below height
  holes_below height (suc count) one = omega (arith, one, times-all_append s block height (0 ∷ []) (replicate count 0), holes_below height count one)

  below_none : below s 0 ≡ replicate 1024 0
  unfolding below
  below_none = refl

  pub times-hole : (height : ℕ) → times block (all_pointers s height (0 ∷ [])) ≡ 0
  unfolding all_pointers
  times-hole zero = times-other block 0 (λ same. some (sym same))
  times-hole (suc height) =
      let lower : times block (all_pointers s height (below s 0)) ≡ 0 = ap (λ (ps : List ℕ). times block (all_pointers s height ps)) below_none ∙ holes_below height 1024 (times-hole height) in
      omega (arith, times-down s block height 0, times-other block 0 (λ same. some (sym same)), lower)

-- ---- marks

module _ (n k : ℕ) where
  pub marks_none : (blocks a : List ℕ) → ((block : ℕ) → times block blocks ≡ 0) → Marks n k blocks a a
  marks_none blocks a none = record {
    counted = λ block. omega (arith, none block);
    others = λ block other apart. refl;
    within = λ block among. absurd (omega (arith, none block, among_times block blocks among));
  }

  -- what is gone through one after the other
  pub marks_joined : (xs ys all a b c : List ℕ) → ((block : ℕ) → times block all ≡ times block xs + times block ys) → Marks n k xs a b → Marks n k ys b c → Marks n k all a c
  marks_joined xs ys all a b c sum first second = record {
    counted = λ block. omega (arith, sum block, first.counted block, second.counted block);
    others = λ block other apart. second.others block other apart ∙ first.others block other apart;
    within = λ block among. either block (times block xs) refl (omega (arith, sum block, among_times block all among));
  }
    where
      either : (block t : ℕ) → t ≡ times block xs → 0 < times block xs + times block ys → IsIn n Data block
      either block zero is among = second.within block (times_among block ys (omega (arith, is, among)))
      either block (suc t) is among = first.within block (times_among block xs (omega (arith, is)))

  pub marks_join : (height : ℕ) (s : Store) (ps qs a b c : List ℕ) → Marks n k (named (all_pointers s height ps)) a b → Marks n k (named (all_pointers s height qs)) b c → Marks n k (named (all_pointers s height (ps ++ qs))) a c
  marks_join height s ps qs a b c first second =
      marks_joined (named (all_pointers s height ps)) (named (all_pointers s height qs)) (named (all_pointers s height (ps ++ qs))) a b c
      (named_sum (all_pointers s height ps) (all_pointers s height qs) (all_pointers s height (ps ++ qs)) (λ block some. times-all_append s block height ps qs)) first second

  pub marks_down : (height : ℕ) (s : Store) (p : ℕ) (a b c : List ℕ) → Marks n k (block_reach p) a b → Marks n k (named (all_pointers s height (below s p))) b c → Marks n k (named (all_pointers s (suc height) (p ∷ []))) a c
  marks_down height s p a b c first second =
      marks_joined (named (p ∷ [])) (named (all_pointers s height (below s p))) (named (all_pointers s (suc height) (p ∷ []))) a b c
      (named_sum (p ∷ []) (all_pointers s height (below s p)) (all_pointers s (suc height) (p ∷ [])) (λ block some. times-down s block height p))
      (subst (λ (xs : List ℕ). Marks n k xs a b) (named_one p) first) second

  pub marks_hole : (height : ℕ) (s : Store) (a : List ℕ) → Marks n k (named (all_pointers s height (0 ∷ []))) a a
  marks_hole height s a = marks_none (named (all_pointers s height (0 ∷ []))) a (named_none (all_pointers s height (0 ∷ [])) (λ block some. times-hole s block some height))

  -- no block is marked twice
  pub marks_once : (blocks a b : List ℕ) → Marks n k blocks a b → (block : ℕ) → times block blocks ≤ 1
  marks_once blocks a b marks block = few (bit_at (slice_index b block) k) (bit_at (slice_index a block) k) (times block blocks) (bit_at-lt (slice_index b block) k) (marks.counted block)
    where
      few : (x y t : ℕ) → x < 2 → x ≡ y + t → t ≤ 1
      few x y t low is = omega (arith, low, is)

  -- ---- what can't be gone through

  -- after blocks that were gone through, what is reported of others is so of all of them
  pub astray_behind : (xs ys all a b : List ℕ) (damage : Damage) (block : ℕ) → ((x : ℕ) → times x xs + times x ys ≤ times x all) → Marks n k xs a b → IsAstray n k ys b damage block → IsAstray n k all a damage block
  astray_behind xs ys all a b _ _ sum marks (outside block among wrong) = outside block (times_among block all (omega (arith, sum block, among_times block ys among))) wrong
  astray_behind xs ys all a b _ _ sum marks (twice block two) =
      twice block (more (bit_at (slice_index a block) k) (bit_at (slice_index b block) k) (times block xs) (times block ys) (times block all) (marks.counted block) two (sum block))
    where
      more : (x y t u all : ℕ) → y ≡ x + t → 2 ≤ y + u → t + u ≤ all → 2 ≤ x + all
      more x y t u all is two most = omega (arith, is, two, most)

  pub astray_among : (ys all a : List ℕ) (damage : Damage) (block : ℕ) → ((x : ℕ) → times x ys ≤ times x all) → IsAstray n k ys a damage block → IsAstray n k all a damage block
  astray_among ys all a damage block sum astray = astray_behind [] ys all a a damage block (λ x. omega (arith, sum x)) (marks_none [] a (λ x. refl)) astray

  -- the block of one pointer
  among_reach : (p : ℕ) → p ≢ 0 → Contains (block_reach p) p
  among_reach p some = subst (λ (xs : List ℕ). Contains xs p) (sym (reach_some p some)) (0, omega arith, refl)

  pub astray_outside : (p : ℕ) (a : List ℕ) → p ≢ 0 → (IsIn n Data p → ⊥) → IsAstray n k (block_reach p) a Pointer p
  astray_outside p a some wrong = outside p (among_reach p some) wrong

  pub astray_twice : (p : ℕ) (a : List ℕ) → p ≢ 0 → bit_at (slice_index a p) k ≡ 1 → IsAstray n k (block_reach p) a ReachedTwice p
  astray_twice p a some set = twice p (two (bit_at (slice_index a p) k) (times p (block_reach p)) set (ap (times p) (reach_some p some) ∙ times-same p))
    where
      two : (x t : ℕ) → x ≡ 1 → t ≡ 1 → 2 ≤ x + t
      two x t one is = omega (arith, one, is)

  pub marked_within : (p : ℕ) (a b : List ℕ) → p ≢ 0 → Marks n k (block_reach p) a b → p < n
  marked_within p a b some marks = (marks.within p (among_reach p some)).below
