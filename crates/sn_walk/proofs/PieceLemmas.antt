use Rattle.std.proofs.Common.{◌≡◌, ◌<◌, ◌≤◌, ◌+◌, ◌-◌, ◌==◌, ℕ, Bool, true, false, cond, ltb, Option, Some, None, List, [], ◌∷◌, length, take, drop, refl, sym, ap, ◌∙◌, arith, IsTrue, not, ◌&&◌}
use Rattle.std.specs.List.{list_all, position_or_len, onto_first}
use Rattle.std.proofs.lemmas.Bool.{ltb-true, ltb-false, le-ltb}
use Rattle.std.proofs.lemmas.Option.{cond_some}
use Rattle.std.proofs.lemmas.List.{take_all, length-drop}
use Rattle.std.proofs.lemmas.List.Sums.{count_by-le-length}
use Rattle.std.proofs.lemmas.List.Splits.{slice_split_first, length-slice_split}
use Rattle.sn_limits.specs.Names.{is_name, is_name_spelled, has_name_length}
use Rattle.sn_walk.specs.Paths.{pieces}

abbrev is_slash : ℕ → Bool
is_slash c = c == 47

-- the answer of a search for the slash
abbrev found : List ℕ → Option ℕ
found text = cond (ltb (position_or_len is_slash text) (length text)) (Some (position_or_len is_slash text)) None

pub first_piece-found : (text : List ℕ) (r : Option ℕ) (at : ℕ) → r ≡ found text → r ≡ Some at → pieces text ≡ take at text ∷ pieces (take (length text - (at + 1)) (drop (at + 1) text))
first_piece-found text r at e s =
    let both = cond_some _ _ _ (sym e ∙ s) in
    let whole : take (length text - (at + 1)) (drop (at + 1) text) ≡ drop (at + 1) text = take_all _ _ (omega (arith, length-drop (at + 1) text)) in
    slice_split_first is_slash text 0 (ltb-true _ _ both.0) ∙ ap (λ k. take k text ∷ pieces (drop (k + 1) text)) both.1 ∙ ap (λ t. take at text ∷ pieces t) (sym whole)

-- where no slash is found the text is one piece
one_piece : (text : List ℕ) → ltb (position_or_len is_slash text) (length text) ≡ false → pieces text ≡ text ∷ []
one_piece [] h = refl
one_piece (x ∷ xs) h =
    elim (is_slash x) as (λ b. ltb (cond (not b) (1 + position_or_len is_slash xs) 0) (length (x ∷ xs)) ≡ false → cond b ([] ∷ pieces xs) (onto_first x (pieces xs)) ≡ (x ∷ xs) ∷ []) [
      | true ↦ λ k. absurd (omega (arith, ltb-false _ _ k))
      | false ↦ λ k. ap (onto_first x) (one_piece xs (le-ltb _ _ (omega (arith, ltb-false _ _ k))))
    ] h

none_unmet : (b : Bool) (n : ℕ) → cond b (Some n) None ≡ None → b ≡ false
none_unmet true n e = cc
none_unmet false n e = refl

pub first_piece-none : (text : List ℕ) (r : Option ℕ) → r ≡ found text → r ≡ None → pieces text ≡ text ∷ []
first_piece-none text r e s = one_piece text (none_unmet _ _ (sym e ∙ s))

both_true : (a b : Bool) → (a && b) ≡ true → (a ≡ true) × (b ≡ true)
both_true true b h = (refl, h)
both_true false b h = cc

true_pair : (a b c : Bool) → a ≡ true → b ≡ true → c ≡ true → ((a && b) && c) ≡ true
true_pair a b c p q r = rw (p, q, r) refl

-- all are names where all are spelled so and none is too long
pub all_names : (names : List (List ℕ)) → list_all is_name_spelled names ≡ true → list_all has_name_length names ≡ true → IsTrue (list_all is_name names)
all_names [] s l = refl
all_names (n ∷ names) s l =
    let spelled = both_true (is_name_spelled n) (list_all is_name_spelled names) s in
    let short = both_true (has_name_length n) (list_all has_name_length names) l in
    true_pair (is_name_spelled n) (has_name_length n) (list_all is_name names) spelled.0 short.0 (all_names names spelled.1 short.1)

-- a text has few pieces
pub few_pieces : (text : List ℕ) (n : ℕ) → length text < n → length (pieces text) ≤ n
few_pieces text n h = omega (arith, length-slice_split is_slash text, count_by-le-length is_slash text)
