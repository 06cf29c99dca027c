-- The first index of a list whose word is 0, by indices.
use Rattle.std.proofs.Common.{◌≡◌, ◌≢◌, ℕ, ◌+◌, ◌-◌, ◌<◌, ◌≤◌, cond, ltb, List, length, get_or, drop, Option, Some, None, position, inl, inr, refl, sym, ap, ◌∙◌, arith, length-drop, get_or-drop}
use Rattle.std.specs.Option.{option_map}
use Rattle.std.specs.List.{position_or_len}
use Rattle.std.proofs.lemmas.Bool.{eq-eqb, ne_eqb, eqb-true, eqb-false, lt-ltb, le-ltb, cases_lt, cond-true, cond-false}
use Rattle.std.proofs.lemmas.Option.{none-some}
use Rattle.std.proofs.lemmas.List.Sums.{position_or_len_is, fails_before_first}
use Rattle.std.proofs.lemmas.List.Quantifiers.{position-Some}
use Rattle.sn_map.specs.Free.{is_free_word, IsNextFree, NoneFree}

-- no word below an index is 0
abbrev pub NoneBelow : List ℕ → ℕ → Type 0
NoneBelow words n = (k : ℕ) → k < n → get_or words k 0 ≢ 0

index_is : (words : List ℕ) (n : ℕ) → n ≤ length words → NoneBelow words n → (n < length words → get_or words n 0 ≡ 0) → position_or_len is_free_word words ≡ n
index_is words n within before here =
    position_or_len_is is_free_word words n 0 within (λ k lt. ne_eqb (get_or words k 0) 0 (before k lt)) (λ lt. eq-eqb (get_or words n 0) 0 (here lt))

pub position_found : (words : List ℕ) (n : ℕ) → n < length words → NoneBelow words n → get_or words n 0 ≡ 0 → position is_free_word words ≡ Some n
position_found words n within before here =
    ap (λ m. cond (ltb m (length words)) (Some m) None) (index_is words n (omega arith) before (λ _. here))
    ∙ cond-true (ltb n (length words)) (Some n) None (lt-ltb n (length words) within)

pub position_none : (words : List ℕ) → NoneBelow words (length words) → position is_free_word words ≡ None
position_none words before =
    let n = length words in
    ap (λ m. cond (ltb m n) (Some m) None) (index_is words n (omega arith) before (λ lt. absurd (omega arith)))
    ∙ cond-false (ltb n n) (Some n) None (le-ltb n n (omega arith))

-- the index that a search gives has a 0, and none before it has
pub found_at : (words : List ℕ) (n : ℕ) → position is_free_word words ≡ Some n → (n < length words) × (get_or words n 0 ≡ 0) × NoneBelow words n
found_at words n e =
    let index = position-Some is_free_word words n 0 e in (
      index.0,
      eqb-true (get_or words n 0) 0 index.1,
      λ k lt. eqb-false (get_or words k 0) 0 (index.2 k lt),
    )

some_found : (words : List ℕ) (n : ℕ) → position_or_len is_free_word words ≡ n → n < length words → position is_free_word words ≡ Some n
some_found words n e lt =
    ap (λ m. cond (ltb m (length words)) (Some m) None) e ∙ cond-true (ltb n (length words)) (Some n) None (lt-ltb n (length words) lt)

-- where a search finds nothing, no word is 0
pub none_found : (words : List ℕ) → position is_free_word words ≡ None → NoneBelow words (length words)
none_found words e k lt zero_here =
    elim (cases_lt (position_or_len is_free_word words) (length words)) [
      | inl within ↦ none-some _ (sym e ∙ some_found words _ refl within)
      | inr past ↦ eqb-false (get_or words k 0) 0 (fails_before_first is_free_word words k 0 (omega arith)) zero_here
    ]

-- a word, seen from an index before it
seen_from : (words : List ℕ) (from block : ℕ) → from ≤ block → get_or words block 0 ≡ 0 → get_or (drop from words) (block - from) 0 ≡ 0
seen_from words from block low zero_here =
    let back : from + (block - from) ≡ block = omega arith in
    get_or-drop from words (block - from) 0 ∙ ap (λ m. get_or words m 0) back ∙ zero_here

-- where no word below an index is 0, the search continues from there
pub goes_on : (words : List ℕ) (at : ℕ) → at ≤ length words → NoneBelow words at → (r : Option ℕ) → r ≡ position is_free_word (drop at words) → position is_free_word words ≡ option_map (λ ahead. at + ahead) r
goes_on words at within before (Some n) e =
    let index = found_at (drop at words) n (sym e) in
    let inside : at + n < length words = omega (arith, index.0, length-drop at words) in
    position_found words (at + n) inside
    (λ k lt. elim (cases_lt k at) [
      | inl below ↦ before k below
      | inr above ↦ λ zero_here. index.2 (k - at) (omega arith) (seen_from words at k above zero_here)
    ])
    (sym (get_or-drop at words n 0) ∙ index.1)
goes_on words at within before None e =
    let none = none_found (drop at words) (sym e) in
    position_none words (λ k lt. elim (cases_lt k at) [
      | inl below ↦ before k below
      | inr above ↦ λ zero_here. none (k - at) (omega (arith, length-drop at words)) (seen_from words at k above zero_here)
    ])

-- what a search from an index on gives, by indices of the whole list
pub is_next_free : (words : List ℕ) (from ahead : ℕ) → position is_free_word (drop from words) ≡ Some ahead → IsNextFree words from (from + ahead)
is_next_free words from ahead e =
    let index = found_at (drop from words) ahead e in
    record {
      not_before = omega arith;
      within = omega (arith, index.0, length-drop from words);
      free = sym (get_or-drop from words ahead 0) ∙ index.1;
      first = λ other low high zero_here. index.2 (other - from) (omega arith) (seen_from words from other low zero_here);
    }

pub none_free : (words : List ℕ) (from : ℕ) → position is_free_word (drop from words) ≡ None → NoneFree words from
none_free words from e block low high zero_here =
    none_found (drop from words) e (block - from) (omega (arith, length-drop from words)) (seen_from words from block low zero_here)
