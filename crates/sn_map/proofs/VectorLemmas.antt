-- One vector further in a loop over the words.
use Rattle.std.proofs.Common.{◌≡◌, ◌≢◌, ℕ, ◌+◌, ◌-◌, ◌<◌, ◌≤◌, ◌^◌, ◌++◌, List, [], ◌∷◌, false, count_by, cond, not, length, get_or, map, take, drop, Some, position, inl, inr, refl, sym, ap, subst, ◌∙◌, arith, w64, length-drop, length-append}
use Rattle.std.specs.Int.{trailing_zeros}
use Rattle.std.specs.Int.RustNames.{count_ones}
use Rattle.std.specs.List.{prefix_len}
use Rattle.std.specs.Simd.Lanes.{chunk, put_chunk, mask_l, Each1}
use Rattle.std.proofs.Math.Seq.{take-add}
use Rattle.std.proofs.lemmas.Bool.{cases_lt, eqb-true, eqb-false}
use Rattle.std.proofs.lemmas.List.{length-map, length-take-le, take_at, drop_at, map-append, append_assoc, drop-drop, drop_all, append-nil, take_rest, take-append-drop}
use Rattle.std.proofs.lemmas.List.Sums.{sum_by-append, count_by-le-length}
use Rattle.std.proofs.lemmas.Nat.Bits.{bit_at-trailing_zeros}
use Rattle.std.proofs.lemmas.Simd.{put_chunk_is, length-chunk, ones-mask_l, trailing_mask_l, run_in_chunk_fails, run_in_chunk_stops, none_from_empty_mask, mask_l-lt}
use Rattle.sn_map.specs.Free.{is_free_word}
use Rattle.sn_map.proofs.FreeLemmas.{NoneBelow, position_found}

-- ---- counting

-- the count so far and the ones of the next mask
pub count_more : (words : List ℕ) (at n mask : ℕ) → at + n ≤ length words → mask ≡ mask_l (map is_free_word (chunk at n words)) → count_by is_free_word (take at words) + count_ones mask ≡ count_by is_free_word (take (at + n) words)
count_more words at n mask room e =
    ap (λ m. count_by is_free_word (take at words) + count_ones m) e
    ∙ ap (λ m. count_by is_free_word (take at words) + m) (ones-mask_l is_free_word (chunk at n words))
    ∙ sym (sum_by-append (λ word. cond (is_free_word word) 1 0) (take at words) (chunk at n words))
    ∙ ap (count_by is_free_word) (sym (take-add at n words))

pub count_below : (words : List ℕ) (n : ℕ) → n ≤ length words → count_by is_free_word (take n words) ≤ length words
count_below words n within = omega (arith, count_by-le-length is_free_word (take n words), length-take-le n words within)

-- ---- searching

none_before : (words : List ℕ) (at n : ℕ) → NoneBelow words at → ((k : ℕ) → at ≤ k → k < n → is_free_word (get_or words k 0) ≡ false) → NoneBelow words n
none_before words at n before here k lt =
    elim (cases_lt k at) [ inl below ↦ before k below | inr above ↦ eqb-false (get_or words k 0) 0 (here k above lt) ]

pub none_in_vector : (words : List ℕ) (at n mask : ℕ) → at + n ≤ length words → NoneBelow words at → mask ≡ mask_l (map is_free_word (chunk at n words)) → mask ≡ 0 → NoneBelow words (at + n)
none_in_vector words at n mask room before e none = none_before words at (at + n) before (none_from_empty_mask is_free_word words at n 0 room (sym e ∙ none))

pub found_in_vector : (words : List ℕ) (at mask : ℕ) → at + 64 ≤ length words → NoneBelow words at → mask ≡ mask_l (map is_free_word (chunk at 64 words)) → mask ≢ 0 → position is_free_word words ≡ Some (at + trailing_zeros w64 mask)
found_in_vector words at mask room before e some =
    let tests = map is_free_word (chunk at 64 words) in
    let tests_len : length tests ≡ 64 = length-map (chunk at 64 words) is_free_word ∙ length-chunk at 64 words room in
    let fits : mask < 2 ^ 64 =
    subst (λ (m : ℕ). m < 2 ^ 64) (sym e) (subst (λ (k : ℕ). mask_l tests < 2 ^ k) tests_len (mask_l-lt tests)) in
    let positive : 0 < mask = omega arith in
    let low = bit_at-trailing_zeros w64 mask positive fits in
    let ahead = trailing_zeros w64 mask in
    let some_set : 0 < mask_l tests = omega (arith, e) in
    let counted : ahead ≡ prefix_len (λ x. not (is_free_word x)) (chunk at 64 words) =
    ap (trailing_zeros w64) e ∙ trailing_mask_l is_free_word 64 (chunk at 64 words) (omega (arith, length-chunk at 64 words room)) some_set in
    position_found words (at + ahead) (omega (arith, low.0))
    (none_before words at (at + ahead) before (run_in_chunk_fails is_free_word words at 64 ahead 0 room counted))
    (eqb-true (get_or words (at + ahead) 0) 0 (run_in_chunk_stops is_free_word words at 64 ahead 0 room counted low.0))

-- ---- changing

-- What a change so far has left, seen in two parts.
front_is : (f : ℕ → ℕ) (xs ws : List ℕ) (at : ℕ) → at ≤ length xs → ws ≡ map f (take at xs) ++ drop at xs → take at ws ≡ map f (take at xs)
front_is f xs ws at within so_far =
    ap (take at) so_far ∙ take_at (map f (take at xs)) (drop at xs) at (length-map (take at xs) f ∙ length-take-le at xs within)

rest_is : (f : ℕ → ℕ) (xs ws : List ℕ) (at : ℕ) → at ≤ length xs → ws ≡ map f (take at xs) ++ drop at xs → drop at ws ≡ drop at xs
rest_is f xs ws at within so_far =
    ap (drop at) so_far ∙ drop_at (map f (take at xs)) (drop at xs) at (length-map (take at xs) f ∙ length-take-le at xs within)

same_length : (f : ℕ → ℕ) (xs ws : List ℕ) (at : ℕ) → at ≤ length xs → ws ≡ map f (take at xs) ++ drop at xs → length ws ≡ length xs
same_length f xs ws at within so_far =
    ap length so_far ∙ omega (arith, length-append (map f (take at xs)) (drop at xs), length-map (take at xs) f, length-take-le at xs within, length-drop at xs)

-- the words so far are changed, and then those of the vector
pub map_vector : (f : ℕ → ℕ) (xs ws new : List ℕ) (at n : ℕ) → at + n ≤ length xs → ws ≡ map f (take at xs) ++ drop at xs → new ≡ map f (chunk at n ws) → put_chunk at ws new ≡ map f (take (at + n) xs) ++ drop (at + n) xs
map_vector f xs ws new at n room so_far e =
    let within : at ≤ length xs = omega arith in
    let front = front_is f xs ws at within so_far in
    let rest = rest_is f xs ws at within so_far in
    let ws_len = same_length f xs ws at within so_far in
    let new_is : new ≡ map f (take n (drop at xs)) = e ∙ ap (λ r. map f (take n r)) rest in
    let new_len : length new ≡ n = ap length e ∙ length-map (chunk at n ws) f ∙ length-chunk at n ws (omega arith) in
    put_chunk_is at ws new (omega arith)
    ∙ ap (λ a. a ++ (new ++ drop (length new) (drop at ws))) front
    ∙ ap (λ b. map f (take at xs) ++ (b ++ drop (length new) (drop at ws))) new_is
    ∙ ap (λ r. map f (take at xs) ++ (map f (take n (drop at xs)) ++ drop (length new) r)) rest
    ∙ ap (λ m. map f (take at xs) ++ (map f (take n (drop at xs)) ++ drop m (drop at xs))) new_len
    ∙ sym (append_assoc (map f (take at xs)) (map f (take n (drop at xs))) (drop n (drop at xs)))
    ∙ ap (λ a. a ++ drop n (drop at xs)) (sym (map-append f (take at xs) (take n (drop at xs))))
    ∙ ap (λ a. map f a ++ drop n (drop at xs)) (sym (take-add at n xs))
    ∙ ap (λ a. map f (take (at + n) xs) ++ a) (drop-drop n at xs)

-- the last words
pub map_tail : (f : ℕ → ℕ) (xs ws new : List ℕ) (at : ℕ) → at ≤ length xs → ws ≡ map f (take at xs) ++ drop at xs → new ≡ map f (take (length ws - at) (drop at ws)) → take at ws ++ (new ++ drop (length ws - at) (drop at ws)) ≡ map f xs
map_tail f xs ws new at within so_far e =
    let front = front_is f xs ws at within so_far in
    let rest = rest_is f xs ws at within so_far in
    let none_left : drop (length ws - at) (drop at ws) ≡ [] = drop_all (length ws - at) (drop at ws) (omega (arith, length-drop at ws)) in
    ap (λ a. a ++ (new ++ drop (length ws - at) (drop at ws))) front
    ∙ ap (λ a. map f (take at xs) ++ (new ++ a)) none_left
    ∙ ap (λ a. map f (take at xs) ++ a) (append-nil new ∙ e ∙ ap (map f) (take_rest ws at ∙ rest))
    ∙ sym (map-append f (take at xs) (drop at xs))
    ∙ ap (map f) (take-append-drop at xs)

-- two functions that agree on the lanes of a vector
pub map_lanes : (P : ℕ → Type 0) (f g : ℕ → ℕ) → ((x : ℕ) → P x → f x ≡ g x) → (xs : List ℕ) → Each1 P xs → map f xs ≡ map g xs
map_lanes P f g same [] each = refl
map_lanes P f g same (x ∷ xs) each = ap (λ y. y ∷ map f xs) (same x each.0) ∙ ap (λ ys. g x ∷ ys) (map_lanes P f g same xs each.1)
