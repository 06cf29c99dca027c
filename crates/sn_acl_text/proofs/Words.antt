-- The words of a text, and the entries that they say.
use Rattle.std.proofs.Common.{◌≡◌, ℕ, ◌+◌, ◌<◌, ◌≤◌, ⊎_elim, Bool, false, cond, not, Option, Some, None, List, [], ◌∷◌, ◌++◌, length, take, drop, refl, sym, ap, ◌∙◌, append_assoc, length-append, arith}
use Rattle.std.specs.Prelude.{position, ◌==◌}
use Rattle.std.specs.List.{AllByRecursion, position_or_len, slice_split}
use Rattle.std.proofs.lemmas.Bool.{cases_Bool}
use Rattle.std.proofs.lemmas.List.{append-nil}
use Rattle.std.proofs.lemmas.List.Elements.{All-from_recursion}
use Rattle.std.proofs.lemmas.List.Splits.{slice_split_first, slice_split_none}
use Rattle.sn_pax.proofs.Bytes.{some_place, a_place}
use Rattle.sn_acl_text.specs.declared.entries.TextEntry.{TextEntry}
use Rattle.sn_acl_text.specs.Reading.{is_separator, uncommented, entry_said, entries_said, followed, onto}

-- ---- one word and others

pub word_first : (text : List ℕ) (at : ℕ) → position is_separator text ≡ Some at → slice_split is_separator text ≡ take at text ∷ slice_split is_separator (drop (at + 1) text)
word_first text at found =
    let place = some_place is_separator text at found in
    slice_split_first is_separator text 0 place.1 ∙ ap (λ n. take n text ∷ slice_split is_separator (drop (n + 1) text)) place.0

none_passes : (p : ℕ → Bool) (xs : List ℕ) → (position_or_len p xs < length xs → ⊥) → AllByRecursion (λ b. p b ≡ false) xs
none_passes p [] none = tt
none_passes p (x ∷ xs) none =
    ⊎_elim
    (λ passes. (let first : position_or_len p (x ∷ xs) ≡ 0 = ap (λ b. cond (not b) (1 + position_or_len p xs) 0) passes in absurd (none (omega arith))))
    (λ fails. (let later : position_or_len p (x ∷ xs) ≡ 1 + position_or_len p xs = ap (λ b. cond (not b) (1 + position_or_len p xs) 0) fails in
    (fails, none_passes p xs (λ within. none (omega arith)))))
    (cases_Bool (p x))

pub word_alone : (text : List ℕ) → position is_separator text ≡ None → slice_split is_separator text ≡ text ∷ []
word_alone text none = slice_split_none is_separator text (All-from_recursion (λ b. is_separator b ≡ false) text (none_passes is_separator text (a_place is_separator text none)))

-- ---- entries so far

pub nothing_yet : (others : Option (List TextEntry)) → others ≡ onto [] others
nothing_yet None = refl
nothing_yet (Some others) = refl

one_more : (old : List TextEntry) (e : TextEntry) (others : Option (List TextEntry)) → onto old (followed (Some e) others) ≡ onto (old ++ e ∷ []) others
one_more old e None = refl
one_more old e (Some others) = ap (λ (all : List TextEntry). Some all) (sym (append_assoc old (e ∷ []) others))

pub taken : (old : List TextEntry) (word : List ℕ) (e : TextEntry) (words : List (List ℕ)) → (length (uncommented word) == 0) ≡ false → entry_said (uncommented word) ≡ Some e
    → onto old (entries_said (word ∷ words)) ≡ onto (old ++ e ∷ []) (entries_said words)
taken old word e words some is =
    ap (λ (b : Bool). onto old (cond b (entries_said words) (followed (entry_said (uncommented word)) (entries_said words)))) some
    ∙ ap (λ (o : Option TextEntry). onto old (followed o (entries_said words))) is ∙ one_more old e (entries_said words)

no_fewer : (old : List TextEntry) (others : Option (List TextEntry)) (all : List TextEntry) → onto old others ≡ Some all → length old ≤ length all
no_fewer old None all is = absurd (cc is)
no_fewer old (Some more) all is = let same : old ++ more ≡ all = cc is in omega (arith, ap length same, length-append old more)

pub full : (old : List TextEntry) (word : List ℕ) (e : TextEntry) (words : List (List ℕ)) (all : List TextEntry) → (length (uncommented word) == 0) ≡ false → entry_said (uncommented word) ≡ Some e
    → length old ≡ 36 → onto old (entries_said (word ∷ words)) ≡ Some all → 36 < length all
full old word e words all some is many whole =
    let longer = no_fewer (old ++ e ∷ []) (entries_said words) all (sym (taken old word e words some is) ∙ whole) in
    omega (arith, length-append old (e ∷ []))

pub all_taken : (entries : List TextEntry) → onto entries (Some []) ≡ Some entries
all_taken entries = ap (λ (all : List TextEntry). Some all) (append-nil entries)
