-- The pointers of an indirect block, read and written in place.
use Rattle.std.proofs.Common.{◌≡◌, ℕ, zero, suc, ◌+◌, ◌*◌, ◌<◌, ◌≤◌, List, [], ◌++◌, length, take, drop, get_or, set, refl, sym, ap, ◌∙◌, inl, inr, append_assoc, arith}
use Rattle.std.proofs.lemmas.List.{append-nil, length-take-le, length-drop, take-append-drop, drop-drop, drop_all, get_or-drop, get_or-take, get_or_past}
use Rattle.std.proofs.lemmas.Bool.{cases_lt}
use Rattle.std.proofs.Math.Seq.{take-append-add}
use Rattle.byteorder.specs.Endian.{little_number}
use Rattle.byteorder.specs.Numbers.{little_from-take, little_from-lt}
use Rattle.sn_layout.specs.Bytes.{AreNumbers, number_bytes, numbers_bytes}
use Rattle.sn_layout.proofs.Fields.{IsBytes, number_bytes-4, same_lists, length-number_bytes}
use Rattle.sn_layout_node.specs.Indirect.{numbers_of, pointers_of, ArePointers}

IsBytes-drop : (n : ℕ) (bytes : List ℕ) → IsBytes bytes → IsBytes (drop n bytes)
IsBytes-drop n bytes h i = rw get_or-drop (h (n + i))

IsBytes-take : (n : ℕ) (bytes : List ℕ) → n ≤ length bytes → IsBytes bytes → IsBytes (take n bytes)
IsBytes-take n bytes le h i =
    elim (cases_lt i n) [
      | inl lt ↦ rw (get_or-take n bytes i 0 lt) (h i)
      | inr past ↦ rw (get_or_past (take n bytes) i 0 (omega (arith, length-take-le n bytes le))) (omega arith)
    ]

pub length-numbers_of : (n : ℕ) (bytes : List ℕ) → length (numbers_of n bytes) ≡ n
unfolding numbers_of
length-numbers_of zero bytes = refl
length-numbers_of (suc n) bytes = ap suc (length-numbers_of n (drop 4 bytes))

pub numbers_fit : (n : ℕ) (bytes : List ℕ) → IsBytes bytes → AreNumbers 4 (numbers_of n bytes)
unfolding numbers_of
numbers_fit zero bytes h = tt
numbers_fit (suc n) bytes h = (little_from-lt 0 4 bytes h, numbers_fit n (drop 4 bytes) (IsBytes-drop 4 bytes h))

-- four bytes are the number that they make
pub front_is : (bytes : List ℕ) → 4 ≤ length bytes → IsBytes bytes → bytes ≡ number_bytes 4 (little_number 4 bytes) ++ drop 4 bytes
front_is bytes le h =
    let same : little_number 4 bytes ≡ little_number 4 (take 4 bytes) = sym (little_from-take 0 4 4 bytes (omega arith)) in
    let front = number_bytes-4 (take 4 bytes) (little_number 4 bytes) (length-take-le 4 bytes le) (IsBytes-take 4 bytes le h) same in
    sym (take-append-drop 4 bytes) ∙ ap (λ (r : List ℕ). r ++ drop 4 bytes) (sym front)

pub numbers_read : (n : ℕ) (bytes : List ℕ) → 4 * n ≤ length bytes → IsBytes bytes → bytes ≡ numbers_bytes 4 (numbers_of n bytes) ++ drop (4 * n) bytes
unfolding numbers_of
numbers_read zero bytes le h = refl
numbers_read (suc n) bytes le h =
    let tail = drop 4 bytes in
    let others = numbers_read n tail (omega (arith, length-drop 4 bytes)) (IsBytes-drop 4 bytes h) in
    let far : drop (4 * n) tail ≡ drop (4 * suc n) bytes = drop-drop (4 * n) 4 bytes ∙ ap (λ (k : ℕ). drop k bytes) (omega arith) in
    front_is bytes (omega arith) h
    ∙ ap (λ (r : List ℕ). number_bytes 4 (little_number 4 bytes) ++ r) (others ∙ ap (λ (r : List ℕ). numbers_bytes 4 (numbers_of n tail) ++ r) far)
    ∙ sym (append_assoc (number_bytes 4 (little_number 4 bytes)) (numbers_bytes 4 (numbers_of n tail)) (drop (4 * suc n) bytes))

pub numbers_at : (n i : ℕ) (bytes : List ℕ) → i < n → get_or (numbers_of n bytes) i 0 ≡ little_number 4 (drop (4 * i) bytes)
unfolding numbers_of
numbers_at zero i bytes lt = absurd (omega arith)
numbers_at (suc n) zero bytes lt = refl
numbers_at (suc n) (suc i) bytes lt =
    numbers_at n i (drop 4 bytes) (omega arith) ∙ ap (little_number 4) (drop-drop (4 * i) 4 bytes ∙ ap (λ (k : ℕ). drop k bytes) (omega arith))

-- ---- a whole block

pub block_read : (bytes : List ℕ) → length bytes ≡ 4096 → IsBytes bytes → bytes ≡ numbers_bytes 4 (pointers_of bytes)
unfolding pointers_of
block_read bytes len h =
    let none : drop (4 * 1024) bytes ≡ [] = drop_all (4 * 1024) bytes (omega arith) in
    numbers_read 1024 bytes (omega arith) h ∙ ap (λ (r : List ℕ). numbers_bytes 4 (numbers_of 1024 bytes) ++ r) none ∙ append-nil (numbers_bytes 4 (numbers_of 1024 bytes))

pub block_fits : (bytes : List ℕ) → IsBytes bytes → ArePointers (pointers_of bytes)
unfolding pointers_of
block_fits bytes h = record { count = length-numbers_of 1024 bytes; fit = numbers_fit 1024 bytes h }

pub block_only : (bytes : List ℕ) → length bytes ≡ 4096 → IsBytes bytes → (pointers : List ℕ) → ArePointers pointers → bytes ≡ numbers_bytes 4 pointers → pointers_of bytes ≡ pointers
block_only bytes len h pointers fits e =
    let mine = block_fits bytes h in
    let read = sym (block_read bytes len h) ∙ e in
    (same_lists 4 (pointers_of bytes) pointers [] [] (mine.count ∙ sym fits.count) mine.fit fits.fit (ap (λ (r : List ℕ). r ++ []) read)).0

-- a pointer, read from its own four bytes
pub block_at : (bytes : List ℕ) (i k : ℕ) → i < 1024 → 4 ≤ k → get_or (pointers_of bytes) i 0 ≡ little_number 4 (take k (drop (4 * i) bytes))
unfolding pointers_of
block_at bytes i k lt enough = numbers_at 1024 i bytes lt ∙ sym (little_from-take 0 4 k (drop (4 * i) bytes) (omega arith))

-- ---- a write of one number

numbers_set : (n i p : ℕ) (bytes : List ℕ) → 4 * n ≤ length bytes → IsBytes bytes → i < n
    → take (4 * i) bytes ++ (number_bytes 4 p ++ drop (4 * i + 4) bytes) ≡ numbers_bytes 4 (set (numbers_of n bytes) i p) ++ drop (4 * n) bytes
unfolding numbers_of
numbers_set zero i p bytes le h lt = absurd (omega arith)
numbers_set (suc n) zero p bytes le h lt =
    let tail = drop 4 bytes in
    let others = numbers_read n tail (omega (arith, length-drop 4 bytes)) (IsBytes-drop 4 bytes h) in
    let far : drop (4 * n) tail ≡ drop (4 * suc n) bytes = drop-drop (4 * n) 4 bytes ∙ ap (λ (k : ℕ). drop k bytes) (omega arith) in
    ap (λ (r : List ℕ). number_bytes 4 p ++ r) (others ∙ ap (λ (r : List ℕ). numbers_bytes 4 (numbers_of n tail) ++ r) far)
    ∙ sym (append_assoc (number_bytes 4 p) (numbers_bytes 4 (numbers_of n tail)) (drop (4 * suc n) bytes))
numbers_set (suc n) (suc i) p bytes le h lt =
    let tail = drop 4 bytes in
    let front = number_bytes 4 (little_number 4 bytes) in
    let others = numbers_set n i p tail (omega (arith, length-drop 4 bytes)) (IsBytes-drop 4 bytes h) (omega arith) in
    let far : drop (4 * n) tail ≡ drop (4 * suc n) bytes = drop-drop (4 * n) 4 bytes ∙ ap (λ (k : ℕ). drop k bytes) (omega arith) in
    let near : drop (4 * i + 4) tail ≡ drop (4 * suc i + 4) bytes = drop-drop (4 * i + 4) 4 bytes ∙ ap (λ (k : ℕ). drop k bytes) (omega arith) in
    let head : take (4 * suc i) bytes ≡ front ++ take (4 * i) tail =
    ap (take (4 * suc i)) (front_is bytes (omega arith) h) ∙ ap (λ (k : ℕ). take k (front ++ tail)) (omega (arith, length-number_bytes 4 (little_number 4 bytes))) ∙ take-append-add front tail (4 * i) in
    ap (λ (r : List ℕ). r ++ (number_bytes 4 p ++ drop (4 * suc i + 4) bytes)) head
    ∙ append_assoc front (take (4 * i) tail) (number_bytes 4 p ++ drop (4 * suc i + 4) bytes)
    ∙ ap (λ (r : List ℕ). front ++ (take (4 * i) tail ++ (number_bytes 4 p ++ r))) (sym near)
    ∙ ap (λ (r : List ℕ). front ++ r) (others ∙ ap (λ (r : List ℕ). numbers_bytes 4 (set (numbers_of n tail) i p) ++ r) far)
    ∙ sym (append_assoc front (numbers_bytes 4 (set (numbers_of n tail) i p)) (drop (4 * suc n) bytes))

pub block_set : (bytes : List ℕ) (i p : ℕ) → length bytes ≡ 4096 → IsBytes bytes → i < 1024 → take (4 * i) bytes ++ (number_bytes 4 p ++ drop (4 * i + 4) bytes) ≡ numbers_bytes 4 (set (pointers_of bytes) i p)
unfolding pointers_of
block_set bytes i p len h lt =
    let none : drop (4 * 1024) bytes ≡ [] = drop_all (4 * 1024) bytes (omega arith) in
    numbers_set 1024 i p bytes (omega arith) h lt ∙ ap (λ (r : List ℕ). numbers_bytes 4 (set (numbers_of 1024 bytes) i p) ++ r) none ∙ append-nil (numbers_bytes 4 (set (numbers_of 1024 bytes) i p))
