-- On a sound disk the free blocks are the words that are 0.
use Rattle.std.proofs.Common.{◌≡◌, ℕ, zero, suc, ◌+◌, ◌-◌, ◌*◌, ◌<◌, ◌≤◌, ◌==◌, ◌||◌, Bool, true, false, not, cond, List, [], ◌∷◌, drop, length, map, slice_index, Contains, count_by, refl, sym, ap, subst, ◌∙◌, arith}
use Rattle.std.specs.List.{list_any, range_with_len}
use Rattle.std.specs.Int.{bit_at, w32, trailing_zeros}
use Rattle.std.proofs.lemmas.Bool.{eq-eqb, eqb-true, ne_eqb}
use Rattle.std.proofs.lemmas.List.{same_lists, length-drop, get_or-drop, get_or_default}
use Rattle.std.proofs.lemmas.List.FromFn.{get_or-map-range_with_len, length-map-range_with_len}
use Rattle.std.proofs.lemmas.List.Sums.{sum_by-cons}
use Rattle.std.proofs.lemmas.Nat.Bits.{bit_at-zero, bit_at-trailing_zeros}
use Rattle.sn_ondisk.specs.Trees.{Store}
use Rattle.sn_image.specs.Reach.{reach}
use Rattle.sn_image.proofs.ListLemmas.{range-from}
use Rattle.sn_layout.specs.declared.geometry.Area.TheVariants.{Data}
use Rattle.sn_layout.specs.declared.root.RootBody.{RootBody}
use Rattle.sn_layout.specs.Geometry.{start_of, map_blocks}
use Rattle.sn_sound.specs.Maps.{Rooted, IsReachedBy, IsSetOfRoots, IsSoundRoot, free_blocks, is_reached, rooted_in}

any_has : {A : Type 0} (p : A → Bool) (xs : List A) (x : A) → Contains xs x → p x ≡ true → list_any p xs ≡ true
any_has p [] x (k, within, is) t = absurd (omega (arith, within))
any_has p (y ∷ ys) x (zero, within, is) t = ap (λ b. b || list_any p ys) (ap p is ∙ t)
any_has p (y ∷ ys) x (suc k, within, is) t = told (p y) (any_has p ys x (k, omega (arith, within), is) t)
  where
    told : (b : Bool) → list_any p ys ≡ true → (b || list_any p ys) ≡ true
    told true h = refl
    told false h = h

any_from : {A : Type 0} (p : A → Bool) (xs : List A) → list_any p xs ≡ true → (x : A) × Contains xs x × (p x ≡ true)
any_from p [] t = absurd cc
any_from {A} p (y ∷ ys) t = told (p y) refl t (λ h. any_from p ys h)
  where
    told : (b : Bool) → p y ≡ b → (b || list_any p ys) ≡ true → (list_any p ys ≡ true → (x : A) × Contains ys x × (p x ≡ true)) → (x : A) × Contains (y ∷ ys) x × (p x ≡ true)
    told true e h rest = (y, (zero, omega arith, refl), e)
    told false e h rest = let w = rest h in (w.0, (suc w.1.0, omega (arith, w.1.1), w.1.2), w.2)

pub same_count : (p q : ℕ → Bool) (xs : List ℕ) → ((x : ℕ) → Contains xs x → p x ≡ q x) → count_by p xs ≡ count_by q xs
same_count p q [] each = refl
same_count p q (x ∷ xs) each = omega (
  arith,
  sum_by-cons (λ y. cond (p y) 1 0) x xs,
  sum_by-cons (λ y. cond (q y) 1 0) x xs,
  ap {B = ℕ} (λ (b : Bool). cond b 1 0) (each x (zero, omega arith, refl)),
  same_count p q xs (λ y among. each y (suc among.0, omega (arith, among.1), among.2)),
)

reached_by : (s : Store) (all : List Rooted) (block : ℕ) → is_reached s all block ≡ true → (k : ℕ) × IsReachedBy s all block k
reached_by s all block t =
    let r = any_from (λ (r : Rooted). list_any (λ b. b == block) (reach s r.inodes)) all t in
    let b = any_from (λ b. b == block) (reach s r.0.inodes) r.2 in
    (r.0.bit, record { inodes = r.0.inodes; among = r.1; reached = subst (Contains (reach s r.0.inodes)) (eqb-true b.0 block b.2) b.1 })

is_reached_by : (s : Store) (all : List Rooted) (block k : ℕ) → IsReachedBy s all block k → is_reached s all block ≡ true
is_reached_by s all block k is =
    any_has (λ (r : Rooted). list_any (λ b. b == block) (reach s r.inodes)) all (record { bit = k; inodes = is.inodes }) is.among
    (any_has (λ b. b == block) (reach s is.inodes) block is.reached (eq-eqb block block refl))

-- the word of a block is 0 exactly where no root reaches it
pub free_word : (s : Store) (all : List Rooted) (block word : ℕ) → IsSetOfRoots s all block word → not (is_reached s all block) ≡ (word == 0)
free_word s all block word set = told (is_reached s all block) refl word refl
  where
    told : (b : Bool) → is_reached s all block ≡ b → (w : ℕ) → w ≡ word → not b ≡ (w == 0)
    told true e zero is = let r = reached_by s all block e in
        absurd (omega (arith, (set.bits r.0).1 r.1, ap (λ (n : ℕ). bit_at n r.0) is, bit_at-zero r.0))
    told true e (suc w) is = sym (ne_eqb (suc w) 0 (λ z. absurd (omega (arith, z))))
    told false e zero is = refl
    told false e (suc w) is =
        let low = bit_at-trailing_zeros w32 word (omega (arith, is)) set.fits in
        let known = is_reached_by s all block (trailing_zeros w32 word) ((set.bits (trailing_zeros w32 word)).0 low.1) in
        absurd cc

-- the blocks of the data area have words
word_of : (n block : ℕ) → Contains (range_with_len (start_of n Data) (n - start_of n Data)) block → block < 1024 * map_blocks n
word_of n block among =
    let w = range-from (start_of n Data) (n - start_of n Data) block among in
    omega (arith, w.0, w.1)

pub free_counted : (n : ℕ) (s : Store) (root : RootBody) (word : ℕ → ℕ) → IsSoundRoot n s root word
    → free_blocks n s root ≡ count_by (λ block. word block == 0) (range_with_len (start_of n Data) (n - start_of n Data))
free_counted n s root word sound = same_count (λ block. not (is_reached s (rooted_in root) block)) (λ block. word block == 0) (range_with_len (start_of n Data) (n - start_of n Data))
    (λ block among. free_word s (rooted_in root) block (word block) (sound.map block (word_of n block among)))

-- ---- words from a block on

count_mapped : (f : ℕ → ℕ) (p : ℕ → Bool) (xs : List ℕ) → count_by p (map f xs) ≡ count_by (λ x. p (f x)) xs
count_mapped f p [] = refl
count_mapped f p (x ∷ xs) =
    sum_by-cons (λ (y : ℕ). cond (p y) 1 0) (f x) (map f xs) ∙ ap (λ (k : ℕ). cond (p (f x)) 1 0 + k) (count_mapped f p xs) ∙ sym (sum_by-cons (λ (y : ℕ). cond (p (f y)) 1 0) x xs)

-- the words from a block on, by their numbers
dropped_words : (words : List ℕ) (start n : ℕ) → length words ≡ n → start ≤ n → drop start words ≡ map (λ block. slice_index words block) (range_with_len start (n - start))
dropped_words words start n long within =
    same_lists (drop start words) (map (λ block. slice_index words block) (range_with_len start (n - start))) (length-drop start words ∙ ap (λ (m : ℕ). m - start) long ∙ sym (length-map-range_with_len (λ block. slice_index words block) start (n - start)))
    (λ k d inside.
    let here : k < n - start = omega (arith, inside, length-drop start words, long) in
    get_or-drop start words k d ∙ get_or_default words (start + k) d 0 (omega (arith, here, long)) ∙ sym (get_or-map-range_with_len (λ block. slice_index words block) start (n - start) k (start + k) d here refl))

-- words are counted from a block on, by their numbers
pub words_counted : (p : ℕ → Bool) (words : List ℕ) (start n : ℕ) → length words ≡ n → start ≤ n → count_by p (drop start words) ≡ count_by (λ block. p (slice_index words block)) (range_with_len start (n - start))
words_counted p words start n long within = ap (count_by p) (dropped_words words start n long within) ∙ count_mapped (λ block. slice_index words block) p (range_with_len start (n - start))
