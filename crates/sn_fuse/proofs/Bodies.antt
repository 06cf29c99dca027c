-- What is read from the front of a body, and what else is spelled there.
use Rattle.std.proofs.Common.{◌≡◌, ◌≢◌, ℕ, ◌+◌, ◌^◌, ◌<◌, List, [], ◌∷◌, ◌++◌, length, refl, sym, ap, ◌∙◌, subst, length-append, arith}
use Rattle.std.specs.List.{AllByRecursion}
use Rattle.sn_bytes.specs.Bytes.{number_bytes}
use Rattle.sn_bytes.proofs.Fields.{same_fronts, same_numbers, length-number_bytes}
use Rattle.sn_fuse.specs.Body.{IsName, Field, Number, Unread, Text, End, Nothing, Begins, Ends, Spells}

-- how many bytes a field has
abbrev pub size_of : Field → ℕ
size_of (Number width value) = width
size_of (Unread width) = width
size_of (Text name) = length name + 1

abbrev pub sizes_of : List Field → ℕ
sizes_of [] = 0
sizes_of (field ∷ fields) = size_of field + sizes_of fields

begins_size : (field : Field) (bytes rest : List ℕ) → Begins field bytes rest → length bytes ≡ size_of field + length rest
begins_size (Number width value) bytes rest b = ap length b.1 ∙ omega (arith, length-append (number_bytes width value) rest, length-number_bytes width value)
begins_size (Unread width) bytes rest b = ap length b.2 ∙ omega (arith, length-append b.0 rest, b.1)
begins_size (Text name) bytes rest b = ap length b.1 ∙ omega (arith, length-append name (0 ∷ rest))

-- what is spelled is as long as its fields, and after them is the end
pub spelled_size : (fields : List Field) (end : End) (bytes : List ℕ) → Spells fields end bytes → (rest : List ℕ) × (length bytes ≡ sizes_of fields + length rest) × Ends end rest
spelled_size [] end bytes s = (bytes, omega arith, s)
spelled_size (field ∷ fields) end bytes s =
    let here = begins_size field bytes s.0 s.1 in
    let later = spelled_size fields end s.0 s.2 in
    (later.0, omega (arith, here, later.1), later.2)

-- fields with nothing after them
pub whole_size : (fields : List Field) (bytes : List ℕ) → Spells fields Nothing bytes → length bytes ≡ sizes_of fields
whole_size fields bytes s =
    let all = spelled_size fields Nothing bytes s in
    let none = ap length all.2 in
    omega (arith, all.1, none)

pub peel_number : (width value read : ℕ) (fields : List Field) (end : End) (bytes rest : List ℕ) → read < 256 ^ width → bytes ≡ number_bytes width read ++ rest
    → Spells (Number width value ∷ fields) end bytes → (value ≡ read) × Spells fields end rest
peel_number width value read fields end bytes rest fits e s =
    let same = same_numbers width value read s.0 rest s.1.0 fits (sym s.1.1 ∙ e) in
    (same.0, subst (λ (r : List ℕ). Spells fields end r) same.1 s.2)

pub peel_unread : (width : ℕ) (fields : List Field) (end : End) (bytes front rest : List ℕ) → length front ≡ width → bytes ≡ front ++ rest
    → Spells (Unread width ∷ fields) end bytes → Spells fields end rest
peel_unread width fields end bytes front rest long e s =
    let same = same_fronts s.1.0 front s.0 rest (s.1.1 ∙ sym long) (sym s.1.2 ∙ e) in
    subst (λ (r : List ℕ). Spells fields end r) same.1 s.2

-- two names that are ended by a 0 in the same bytes are one
same_texts : (a b x y : List ℕ) → AllByRecursion (λ byte. byte ≢ 0) a → AllByRecursion (λ byte. byte ≢ 0) b → a ++ 0 ∷ x ≡ b ++ 0 ∷ y → (a ≡ b) × (x ≡ y)
same_texts [] [] x y no-a no-b e = (refl, cc)
same_texts [] (d ∷ b) x y no-a no-b e = absurd (no-b.0 cc)
same_texts (c ∷ a) [] x y no-a no-b e = absurd (no-a.0 cc)
same_texts (c ∷ a) (d ∷ b) x y no-a no-b e =
    let first : c ≡ d = cc in
    let others = same_texts a b x y no-a.1 no-b.1 cc in
    (rw (first, others.0) refl, others.1)

pub peel_text : (name read : List ℕ) (fields : List Field) (end : End) (bytes rest : List ℕ) → IsName read → bytes ≡ read ++ 0 ∷ rest
    → Spells (Text name ∷ fields) end bytes → (name ≡ read) × Spells fields end rest
peel_text name read fields end bytes rest is e s =
    let same = same_texts name read s.0 rest s.1.0.no_zero is.no_zero (sym s.1.1 ∙ e) in
    (same.0, subst (λ (r : List ℕ). Spells fields end r) same.1 s.2)

pub length_zero : (bytes : List ℕ) → length bytes ≡ 0 → bytes ≡ []
length_zero [] e = refl
length_zero (b ∷ bytes) e = absurd (omega arith)
