-- Which bytes the words of a line have, and that a line is cut into its words again.
use Rattle.std.proofs.Common.{◌≡◌, ℕ, ◌^◌, ◌<◌, ◌≤◌, ◌⊎◌, Bool, true, false, eqb, leb, List, [], ◌∷◌, ◌++◌, refl, ap, ◌∙◌, arith}
use Rattle.std.specs.Prelude.{decimal}
use Rattle.std.specs.List.{AllByRecursion, join_with_byte, list_all}
use Rattle.std.specs.Char.{is_ascii_graphic}
use Rattle.std.specs.Str.Parse.{AllDigits}
use Rattle.std.proofs.lemmas.Bool.{eqb-true, leb-true}
use Rattle.std.proofs.lemmas.Fmt.{decimal_is_IsNumeral}
use Rattle.std.proofs.lemmas.List.Elements.{All-from_recursion}
use Rattle.std.proofs.lemmas.Str.Parse.{digit_from_value}
use Rattle.sn_words.specs.Fields.{parts}
use Rattle.sn_words.proofs.Options.{both_true}
use Rattle.sn_words.proofs.Parts.{parts_cut, parts_last}

-- each byte is of a range
abbrev pub Within : ℕ → ℕ → List ℕ → Type 0
Within low high bytes = AllByRecursion (λ b. (low ≤ b) × (b ≤ high)) bytes

pub Within-append : (low high : ℕ) (xs ys : List ℕ) → Within low high xs → Within low high ys → Within low high (xs ++ ys)
Within-append low high [] ys h k = k
Within-append low high (x ∷ xs) ys h k = (h.0, Within-append low high xs ys h.1 k)

pub Within-wider : (low high l h : ℕ) (xs : List ℕ) → l ≤ low → high ≤ h → Within low high xs → Within l h xs
Within-wider low high l h [] a b w = tt
Within-wider low high l h (x ∷ xs) a b w = ((omega arith, omega arith), Within-wider low high l h xs a b w.1)

pub Within-join : (low high c : ℕ) (ws : List (List ℕ)) → low ≤ c → c ≤ high → AllByRecursion (Within low high) ws → Within low high (join_with_byte c ws)
Within-join low high c [] a b h = tt
Within-join low high c (w ∷ []) a b h = h.0
Within-join low high c (w ∷ v ∷ ws) a b h = Within-append low high w (c ∷ join_with_byte c (v ∷ ws)) h.0 ((a, b), Within-join low high c (v ∷ ws) a b h.1)

pub digits_within : (ds : List ℕ) → AllDigits 10 ds → Within 48 57 ds
digits_within [] h = tt
digits_within (d ∷ ds) h = (digit_from_value d h.0, digits_within ds h.1)

pub decimal_within : (n : ℕ) → n < 2 ^ 64 → Within 48 57 (decimal n)
decimal_within n lt = digits_within (decimal n) (decimal_is_IsNumeral n lt).0.1

pub graphic_within : (bytes : List ℕ) → list_all is_ascii_graphic bytes ≡ true → Within 33 126 bytes
graphic_within [] h = tt
graphic_within (b ∷ bytes) h =
    let p = both_true (is_ascii_graphic b) (list_all is_ascii_graphic bytes) h in
    let q = both_true (leb 33 b) (leb b 126) p.0 in
    ((leb-true 33 b q.0, leb-true b 126 q.1), graphic_within bytes p.1)

-- no byte is c
abbrev pub Lacks : ℕ → List ℕ → Type 0
Lacks c bytes = AllByRecursion (λ b. eqb b c ≡ false) bytes

not_equal : (b c : ℕ) (t : Bool) → (t ≡ true → b ≡ c) → (b ≡ c → ⊥) → t ≡ false
not_equal b c true is different = absurd (different (is refl))
not_equal b c false is different = refl

pub lacks_outside : (low high c : ℕ) (bytes : List ℕ) → (c < low) ⊎ (high < c) → Within low high bytes → Lacks c bytes
lacks_outside low high c [] out h = tt
lacks_outside low high c (b ∷ bytes) out h =
    (not_equal b c (eqb b c) (eqb-true b c) (λ e. omega arith), lacks_outside low high c bytes out h.1)

-- what was joined by a byte that no part has is cut into these parts
pub parts_join : (c : ℕ) (w : List ℕ) (ws : List (List ℕ)) → AllByRecursion (Lacks c) (w ∷ ws) → parts c (join_with_byte c (w ∷ ws)) ≡ w ∷ ws
parts_join c w [] h = parts_last c w (All-from_recursion (λ b. eqb b c ≡ false) w h.0)
parts_join c w (v ∷ ws) h =
    parts_cut c (w ++ c ∷ join_with_byte c (v ∷ ws)) w (join_with_byte c (v ∷ ws)) refl (All-from_recursion (λ b. eqb b c ≡ false) w h.0)
    ∙ ap (λ (t : List (List ℕ)). w ∷ t) (parts_join c v ws h.1)
