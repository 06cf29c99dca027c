-- Hexadecimal digits: bytes are encoded as the digits that gave them exactly where none of these is in upper case.
use Rattle.std.proofs.Common.{◌≡◌, ℕ, suc, ◌+◌, ◌*◌, ◌/◌, ◌%◌, ◌<◌, ◌⊎◌, inl, inr, Bool, true, false, not, ◌&&◌, ◌==◌, ◌||◌, codes, List, [], ◌∷◌, length, slice_index, Some, None, Option, Result, Ok, Err, refl, sym, ap, subst, ◌∙◌, arith}
use Rattle.std.specs.Result.{result_unwrap_or}
use Rattle.std.specs.List.{list_any}
use Rattle.std.specs.Str.{bytes_eq}
use Rattle.std.proofs.lemmas.List.Folds.{list_any_at}
use Rattle.std.proofs.lemmas.Slice.Eq.{bytes_eq-Decides}
use Rattle.hex.specs.Hex.{◌>>=◌, IsBytes, decode_of, decode_pairs, digit_or_error, encode_lower, encode_with, hex_digit_value, lower_digits, pair_value, value_at}
use Rattle.hex.specs.declared.error.FromHexError.{FromHexError}
use Rattle.hex.proofs.HexLemmas.{IsDigits-lower_digits, decode_of-even, decode_of-ok}
use Rattle.sn_words.specs.Fields.{content_word}
use Rattle.sn_words.specs.Reading.{are_lower_digits, content_of, is_upper_digit, spelled_by}
use Rattle.sn_words.proofs.Options.{both_true}

-- the value of a digit
value_of : (c v : ℕ) → hex_digit_value c ≡ Some v → ((v < 10) × (c ≡ 48 + v)) ⊎ ((9 < v) × (v < 16) × ((c ≡ 87 + v) ⊎ (c ≡ 55 + v)))
value_of c v e = grind (arith)

never_upper : (v : ℕ) → v < 16 → is_upper_digit (slice_index lower_digits v) ≡ false
never_upper v lt = by_test (is_upper_digit (slice_index lower_digits v)) refl
  where
    by_test : (t : Bool) → is_upper_digit (slice_index lower_digits v) ≡ t → t ≡ false
    by_test true is = cc (list_any_at is_upper_digit lower_digits v 0 lt is)
    by_test false is = refl

-- a digit that isn't in upper case is the one of its value
digit_again : (c v : ℕ) → hex_digit_value c ≡ Some v → is_upper_digit c ≡ false → (v < 16) × (slice_index lower_digits v ≡ c)
digit_again c v e low =
    let a = value_of c v e in
    let lt : v < 16 = elim a [ inl small ↦ omega (arith, small.0) | inr large ↦ large.1 ] in
    let b = value_of (slice_index lower_digits v) v (IsDigits-lower_digits v lt) in
    let low_too = never_upper v lt in
    (lt, grind (arith, a, b, low, low_too))

both : {A B : Type 0} (r : Result A FromHexError) (f : A → Result B FromHexError) (y : B) → (r >>= f) ≡ Ok y → (x : A) × (r ≡ Ok x) × (f x ≡ Ok y)
both (Ok x) f y h = (x, refl, h)
both (Err e) f y h = cc h

value_read : (c i : ℕ) (o : Option ℕ) (v : ℕ) → digit_or_error c i o ≡ Ok v → o ≡ Some v
value_read c i (Some w) v h = ap Some (ap (λ (r : Result ℕ FromHexError). result_unwrap_or r 0) h)
value_read c i None v h = cc h

-- none of two is true
none_of : (a b rest : Bool) → (a || (b || rest)) ≡ false → (a ≡ false) × (b ≡ false) × (rest ≡ false)
none_of false false false e = (refl, refl, refl)
none_of true b rest e = cc e
none_of false true rest e = cc e
none_of false false true e = cc e

lower_again : (i : ℕ) (word bytes : List ℕ) → decode_pairs i word ≡ Ok bytes → list_any is_upper_digit word ≡ false → encode_lower bytes ≡ word
unfolding decode_pairs encode_with
lower_again i [] bytes e low = subst (λ (k : List ℕ). encode_lower k ≡ []) (ap (λ (r : Result (List ℕ) FromHexError). result_unwrap_or r []) e) refl
lower_again i (a ∷ []) bytes e low = cc e
lower_again i (a ∷ b ∷ rest) bytes e low =
    let pair = both (pair_value a b i) _ bytes e in
    let more = both (decode_pairs (i + 2) rest) _ bytes pair.2 in
    let high = both (value_at a i) _ pair.0 pair.1 in
    let last = both (value_at b (i + 1)) _ pair.0 high.2 in
    let lows = none_of (is_upper_digit a) (is_upper_digit b) (list_any is_upper_digit rest) low in
    let first = digit_again a high.0 (value_read a i (hex_digit_value a) high.0 high.1) lows.0 in
    let second = digit_again b last.0 (value_read b (i + 1) (hex_digit_value b) last.0 last.1) lows.1 in
    let byte : high.0 * 16 + last.0 ≡ pair.0 = ap (λ (r : Result ℕ FromHexError). result_unwrap_or r 0) last.2 in
    let whole : pair.0 ∷ more.0 ≡ bytes = ap (λ (r : Result (List ℕ) FromHexError). result_unwrap_or r []) more.2 in
    let up : pair.0 / 16 ≡ high.0 = omega (arith, first.0, second.0, byte) in
    let down : pair.0 % 16 ≡ last.0 = omega (arith, first.0, second.0, byte) in
    let ih = lower_again (i + 2) rest more.0 more.1 lows.2 in
    subst (λ (k : List ℕ). encode_lower k ≡ a ∷ b ∷ rest) whole (rw (up, down, first.1, second.1, ih) refl)

none_upper : (bytes : List ℕ) → IsBytes bytes → list_any is_upper_digit (encode_lower bytes) ≡ false
unfolding encode_with
none_upper [] h = refl
none_upper (b ∷ bytes) h =
    let lt : b < 256 = h 0 in
    let high = never_upper (b / 16) (omega (arith, lt)) in
    let last = never_upper (b % 16) (omega arith) in
    rw (high, last) (none_upper bytes (λ i. h (suc i)))

-- bytes are spelled by the digits that gave them exactly where none of these is in upper case
spelled_low : (word bytes : List ℕ) → decode_of word ≡ Ok bytes → 0 < length bytes → bytes_eq word (content_word bytes) ≡ not (list_any is_upper_digit word)
spelled_low word [] e some = absurd (omega arith)
spelled_low word (b ∷ bytes) e some =
    let ok = decode_of-ok word (b ∷ bytes) e in
    let pairs : decode_pairs 0 word ≡ Ok (b ∷ bytes) = sym (decode_of-even word ok.0) ∙ e in
    by_case (list_any is_upper_digit word) refl ok.3 pairs
  where
    text : List ℕ
    text = encode_lower (b ∷ bytes)

    differs : (t : Bool) → bytes_eq word text ≡ t → list_any is_upper_digit word ≡ true → IsBytes (b ∷ bytes) → t ≡ false
    differs true is high are = cc (sym high ∙ ap (list_any is_upper_digit) ((bytes_eq-Decides word text).0 is) ∙ none_upper (b ∷ bytes) are)
    differs false is high are = refl

    by_case : (t : Bool) → list_any is_upper_digit word ≡ t → IsBytes (b ∷ bytes) → decode_pairs 0 word ≡ Ok (b ∷ bytes) → bytes_eq word text ≡ not t
    by_case true is are pairs = differs (bytes_eq word text) refl is are
    by_case false is are pairs = (bytes_eq-Decides word text).1 (sym (lower_again 0 word (b ∷ bytes) pairs is))

no_dash : (word bytes : List ℕ) → decode_of word ≡ Ok bytes → bytes_eq word (codes "-") ≡ false
no_dash word bytes e = by_test (bytes_eq word (codes "-")) refl
  where
    by_test : (t : Bool) → bytes_eq word (codes "-") ≡ t → t ≡ false
    by_test true is =
        let even = (decode_of-ok word bytes e).0 in
        let one : length word ≡ 1 = ap length ((bytes_eq-Decides word (codes "-")).0 is) in
        absurd (omega (arith, even, one))
    by_test false is = refl

-- digits in lower case that are read
pub content_low : (word bytes : List ℕ) → are_lower_digits word ≡ true → decode_of word ≡ Ok bytes → content_of word ≡ Some bytes
unfolding content_of
content_low word bytes low e =
    let ok = decode_of-ok word bytes e in
    let parts = both_true (not (length word == 0)) (not (list_any is_upper_digit word)) low in
    let some : 0 < length bytes = grind (arith, ok.2, parts.0) in
    rw (no_dash word bytes e, e, spelled_low word bytes e some ∙ parts.1) refl

-- no digits, or some in upper case
pub content_not_low : (word : List ℕ) → bytes_eq word (codes "-") ≡ false → are_lower_digits word ≡ false → content_of word ≡ None
unfolding content_of
content_not_low word dash low = rw dash (by_read (decode_of word) refl)
  where
    by_read : (read : Result (List ℕ) FromHexError) → decode_of word ≡ read → spelled_by word read ≡ None
    by_read (Err fault) e = refl
    by_read (Ok []) e = rw dash refl
    by_read (Ok (b ∷ bytes)) e =
        let ok = decode_of-ok word (b ∷ bytes) e in
        let long : (length word == 0) ≡ false = grind (arith, ok.2) in
        let upper : not (list_any is_upper_digit word) ≡ false = sym (ap (λ (t : Bool). not t && not (list_any is_upper_digit word)) long) ∙ low in
        rw (spelled_low word (b ∷ bytes) e (omega arith) ∙ upper) refl
