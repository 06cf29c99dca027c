-- Cutting a text at a byte.
use Rattle.std.proofs.Common.{◌≡◌, ℕ, ◌<◌, false, eqb, List, [], ◌∷◌, ◌++◌, length, map, All, refl, sym, ap, ◌∙◌, append_assoc, arith}
use Rattle.std.specs.Borrow.{Bor}
use Rattle.std.proofs.lemmas.Bool.{eq-eqb}
use Rattle.std.proofs.lemmas.List.{map_push, length-append, length-map}
use Rattle.std.proofs.lemmas.List.Splits.{slice_split_at, slice_split_none, length-slice_split}
use Rattle.sn_words.specs.Fields.{parts}

pub parts_cut : (separator : ℕ) (text front back : List ℕ) → text ≡ front ++ separator ∷ back → All (λ b. eqb b separator ≡ false) front → parts separator text ≡ front ∷ parts separator back
parts_cut separator text front back e lacks = rw e (slice_split_at (λ b. eqb b separator) front separator back lacks (eq-eqb separator separator refl))

pub parts_last : (separator : ℕ) (text : List ℕ) → All (λ b. eqb b separator ≡ false) text → parts separator text ≡ text ∷ []
parts_last separator text lacks = slice_split_none (λ b. eqb b separator) text lacks

pub some_parts : (separator : ℕ) (text : List ℕ) → 0 < length (parts separator text)
some_parts separator text = omega (arith, length-slice_split (λ b. eqb b separator) text)

abbrev pub texts : List (Bor (List ℕ)) → List (List ℕ)
texts ps = map (λ (p : Bor (List ℕ)). p.now) ps

-- one part more is cut off
pub goes_on : (separator : ℕ) (pieces : List (Bor (List ℕ))) (piece : Bor (List ℕ)) (rest others : List ℕ) (total : List (List ℕ)) → rest ≡ piece.now ++ separator ∷ others → All (λ b. eqb b separator ≡ false) piece.now
    → texts pieces ++ parts separator rest ≡ total → texts (pieces ++ piece ∷ []) ++ parts separator others ≡ total
goes_on separator pieces piece rest others total e lacks so_far =
    let one : texts (pieces ++ piece ∷ []) ≡ texts pieces ++ piece.now ∷ [] = map_push _ pieces piece in
    let cut = parts_cut separator rest piece.now others e lacks in
    ap (λ (t : List (List ℕ)). t ++ parts separator others) one ∙ append_assoc (texts pieces) (piece.now ∷ []) (parts separator others) ∙ ap (λ (t : List (List ℕ)). texts pieces ++ t) (sym cut) ∙ so_far

-- the last part is added
pub ends : (separator : ℕ) (pieces : List (Bor (List ℕ))) (rest : Bor (List ℕ)) (total : List (List ℕ)) → All (λ b. eqb b separator ≡ false) rest.now
    → texts pieces ++ parts separator rest.now ≡ total → texts (pieces ++ rest ∷ []) ≡ total
ends separator pieces rest total lacks so_far =
    map_push _ pieces rest ∙ ap (λ (t : List (List ℕ)). texts pieces ++ t) (sym (parts_last separator rest.now lacks)) ∙ so_far

-- with as many pieces as there is room for, a part is left over
pub overflows : (limit separator : ℕ) (pieces : List (Bor (List ℕ))) (rest : List ℕ) (total : List (List ℕ)) → length pieces ≡ limit
    → texts pieces ++ parts separator rest ≡ total → limit < length total
overflows limit separator pieces rest total full so_far =
    let more = some_parts separator rest in
    let len : length (texts pieces) ≡ length pieces = simp length-map in
    rw (← so_far) (omega (arith, len, full, more, length-append (texts pieces) (parts separator rest)))
