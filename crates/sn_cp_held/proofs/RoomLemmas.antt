-- What a build leaves free.
use Rattle.std.proofs.Common.{◌≡◌, ⊎_elim, ℕ, zero, suc, ◌+◌, ◌-◌, ◌<◌, ◌≤◌, ◌==◌, Bool, true, false, not, cond, ◌&&◌, List, [], ◌∷◌, length, count_by, slice_index, Contains, refl, sym, ap, subst, ◌∙◌, arith}
use Rattle.std.specs.List.{range_with_len}
use Rattle.std.specs.Int.{w32, trailing_zeros}
use Rattle.std.proofs.lemmas.Bool.{eq-eqb, eqb-true, false≢true}
use Rattle.std.proofs.lemmas.List.Sums.{sum_by-cons}
use Rattle.std.proofs.lemmas.Nat.Bits.{bit_at-trailing_zeros}
use Rattle.sn_image.proofs.ListLemmas.{range-from}
use Rattle.sn_layout.specs.declared.geometry.Area.TheVariants.{Data}
use Rattle.sn_layout.specs.declared.root.RootBody.{RootBody}
use Rattle.sn_layout.specs.declared.tree.BlockTree.{BlockTree}
use Rattle.sn_layout.specs.Geometry.{start_of}
use Rattle.sn_model.specs.declared.outcome.AskedPoint.{AskedPoint}
use Rattle.sn_model.proofs.ChainLemmas.{and_left, and_right}
use Rattle.sn_ondisk.specs.TreeLaws.{SameIn}
use Rattle.sn_ondisk.specs.Trees.{Store}
use Rattle.sn_opening.specs.Points.{HoldsAll}
use Rattle.sn_opening.specs.Worlds.{all_reach}
use Rattle.sn_overlay.specs.Layers.{Layer}
use Rattle.sn_sound.specs.Maps.{free_blocks}
use Rattle.sn_sound.proofs.FreeLemmas.{free_counted}
use Rattle.sn_tree.specs.Drafts.{numbers_of}
use Rattle.sn_tree.specs.declared.new_block.NewBlock.{NewBlock}
use Rattle.sn_cp_build.specs.declared.building.Built.{Built}
use Rattle.sn_cp_held.specs.Builds.{IsOfBuild, plan_of}
use Rattle.sn_cp_held.proofs.BuildLemmas.{builds_are_sound, free_apart, numbers_same, reached_among, reaches}
use Rattle.sn_cp_held.proofs.EditLemmas.{first_or_more}

-- ---- counting with some numbers left out

count_less : (p q : ℕ → Bool) (xs : List ℕ) → ((x : ℕ) → Contains xs x → p x ≡ true → q x ≡ true) → count_by p xs ≤ count_by q xs
count_less p q [] each = omega arith
count_less p q (x ∷ xs) each = omega (
  arith,
  sum_by-cons (λ y. cond (p y) 1 0) x xs,
  sum_by-cons (λ y. cond (q y) 1 0) x xs,
  told (p x) (q x) (each x (zero, omega arith, refl)),
  count_less p q xs (λ y among. each y (suc among.0, omega (arith, among.1), among.2)),
)
  where
    told : (a b : Bool) → (a ≡ true → b ≡ true) → cond a 1 0 ≤ cond b 1 0
    told false b h = omega arith
    told true true h = omega arith
    told true false h = absurd (false≢true (h refl))

abbrev without : ℕ → (ℕ → Bool) → ℕ → Bool
without x p y = p y && not (y == x)

-- one number is in a range once at most
one_less : (p : ℕ → Bool) (x a n : ℕ) → count_by p (range_with_len a n) ≤ count_by (without x p) (range_with_len a n) + 1
one_less p x a zero = omega arith
one_less p x a (suc n) = told (a == x) refl (one_less p x (a + 1) n)
  where
    before : x < a + 1 → count_by p (range_with_len (a + 1) n) ≤ count_by (without x p) (range_with_len (a + 1) n)
    before low = count_less p (without x p) (range_with_len (a + 1) n) (λ y among is.
        let from = range-from (a + 1) n y among in
        both (p y) (y == x) is (λ same. let e = eqb-true y x same in omega (arith, e, from.0, low)))
      where
        both : (b e : Bool) → b ≡ true → (e ≡ true → ⊥) → (b && not e) ≡ true
        both true true is never = absurd (never refl)
        both true false is never = refl
        both false e is never = is

    at_most : (b : Bool) → cond b 1 0 ≤ 1
    at_most true = omega arith
    at_most false = omega arith

    one : Bool → ℕ
    one b = cond b 1 0

    kept : (b e : Bool) → e ≡ false → one (b && not e) ≡ one b
    kept true false is = refl
    kept false false is = refl
    kept b true is = absurd (false≢true (sym is))

    told : (e : Bool) → (a == x) ≡ e → count_by p (range_with_len (a + 1) n) ≤ count_by (without x p) (range_with_len (a + 1) n) + 1 → count_by p (a ∷ range_with_len (a + 1) n) ≤ count_by (without x p) (a ∷ range_with_len (a + 1) n) + 1
    told true e rest = let same = eqb-true a x e in omega (
      arith,
      sum_by-cons (λ y. cond (p y) 1 0) a (range_with_len (a + 1) n),
      sum_by-cons (λ y. cond (without x p y) 1 0) a (range_with_len (a + 1) n),
      at_most (p a),
      before (omega (arith, same)),
    )
    told false e rest = omega (
      arith,
      sum_by-cons (λ y. cond (p y) 1 0) a (range_with_len (a + 1) n),
      sum_by-cons (λ y. cond (without x p y) 1 0) a (range_with_len (a + 1) n),
      kept (p a) (a == x) e,
      rest,
    )

abbrev dropped : List ℕ → (ℕ → Bool) → ℕ → Bool
dropped [] p = p
dropped (x ∷ xs) p = dropped xs (without x p)

few_less : (new : List ℕ) (p : ℕ → Bool) (a n : ℕ) → count_by p (range_with_len a n) ≤ count_by (dropped new p) (range_with_len a n) + length new
few_less [] p a n = omega arith
few_less (x ∷ xs) p a n = omega (arith, one_less p x a n, few_less xs (without x p) a n)

dropped_is : (new : List ℕ) (p : ℕ → Bool) (b : ℕ) → dropped new p b ≡ true → (p b ≡ true) × (Contains new b → ⊥)
dropped_is [] p b is = (is, λ among. omega (arith, among.1))
dropped_is (x ∷ xs) p b is =
    let rest = dropped_is xs (without x p) b is in (
      and_left (p b) (not (b == x)) rest.0,
      λ among. ⊎_elim (λ (same : b ≡ x). other (b == x) (and_right (p b) (not (b == x)) rest.0) (ap (λ (y : ℕ). y == x) same ∙ eq-eqb x x refl)) rest.1 (first_or_more x xs b among),
    )
  where
    other : (e : Bool) → not e ≡ true → e ≡ true → ⊥
    other true is same = absurd (false≢true is)
    other false is same = absurd (false≢true same)

-- ---- what is reached

module _ (n : ℕ) (s : Store) (root : RootBody) (words : List ℕ) (file : BlockTree) (layer : Layer) (asked : AskedPoint) (bit : ℕ) (built : Built) (next : RootBody) (of : IsOfBuild n s root words file layer asked bit built next)
    (r : Store) (same : SameIn (all_reach s root) s r) (holds : HoldsAll r (plan_of built next).blocks) where
  abbrev area : List ℕ
  area = range_with_len (start_of n Data) (n - start_of n Data)

  abbrev new : List ℕ
  new = numbers_of built.blocks.items

  -- a word that was 0 stays so, but for that of a new block
  stays_free : (block : ℕ) → Contains area block → slice_index words block ≡ 0 → (Contains new block → ⊥) → (slice_index built.map block == 0) ≡ true
  stays_free block among free old = told (slice_index built.map block) refl
    where
      told : (w : ℕ) → slice_index built.map block ≡ w → (w == 0) ≡ true
      told zero is = refl
      told (suc w) is =
          let within = range-from (start_of n Data) (n - start_of n Data) block among in
          let inside : block < n = omega (arith, within.0, within.1) in
          let low = bit_at-trailing_zeros w32 (slice_index built.map block) (omega (arith, is)) (of.numbers block) in
          let by = (((builds_are_sound n s root words file layer asked bit built next of r same holds).map block (omega (arith, inside))).bits (trailing_zeros w32 (slice_index built.map block))).0 low.1 in
          absurd (⊎_elim
          (λ before. free_apart n s root words block of.sound of.count (omega (arith, inside, of.count)) free before)
          (λ added. old (subst (λ (numbers : List ℕ). Contains numbers block) (numbers_same built.blocks.items) added))
          (reaches n s root words file layer asked bit built next of r same holds block (reached_among r next block (trailing_zeros w32 (slice_index built.map block)) by)))

  pub builds_leave_room : free_blocks n s root ≤ free_blocks n r next + length built.blocks.items
  builds_leave_room =
      let p : ℕ → Bool = λ block. slice_index words block == 0 in
      let q : ℕ → Bool = λ block. slice_index built.map block == 0 in
      let few = few_less new p (start_of n Data) (n - start_of n Data) in
      let fewer = count_less (dropped new p) q area (λ block among is. let left = dropped_is new p block is in stays_free block among (eqb-true (slice_index words block) 0 left.0) left.1) in
      omega (
        arith,
        free_counted n s root (slice_index words) of.sound,
        free_counted n r next (slice_index built.map) (builds_are_sound n s root words file layer asked bit built next of r same holds),
        few,
        fewer,
        counted built.blocks.items,
      )
    where
      counted : (xs : List NewBlock) → length (numbers_of xs) ≡ length xs
      counted [] = refl
      counted (x ∷ xs) = omega (arith, counted xs)
