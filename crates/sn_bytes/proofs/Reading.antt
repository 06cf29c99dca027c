-- Reading values one after the other, each of which is spelled by `bytes`.
use Rattle.std.proofs.Common.{◌≡◌, ℕ, ◌<◌, List, [], ◌∷◌, ◌++◌, length, Option, Some, sym, ap, ◌∙◌, append_assoc, length-append, arith}
use Rattle.std.specs.List.{AllByRecursion, flat_map}
use Rattle.std.proofs.lemmas.Grind.{flat_map-append}
use Rattle.std.proofs.lemmas.List.{append-nil}

-- the values that bytes spell, of which some were read, and the others are spelled by what is left
abbrev pub AreLeft : {A : Type 0} → (A → Type 0) → (A → List ℕ) → List A → List A → List ℕ → List ℕ → Type 0
AreLeft {A} Is bytes all others left rest = (more : List A) × (others ≡ all ++ more) × AllByRecursion Is more × (left ≡ flat_map bytes more ++ rest)

-- what reading one more gives, where not all were read
pub next_is : {A : Type 0} (Is : A → Type 0) (bytes : A → List ℕ) (all others : List A) (old new rest : List ℕ) (read : Option A)
    → ((s : A) (rest : List ℕ) → Is s → old ≡ bytes s ++ rest → (read ≡ Some s) × (new ≡ rest))
    → length all < length others → AreLeft Is bytes all others old rest
    → (s : A) × (read ≡ Some s) × AreLeft Is bytes (all ++ s ∷ []) others new rest
next_is Is bytes all others old new rest read only lt ([], whole, each, e) = absurd (omega (arith, ap length whole, ap length (append-nil all)))
next_is Is bytes all others old new rest read only lt (s ∷ more, whole, each, e) =
    let found = only s (flat_map bytes more ++ rest) each.0 (e ∙ append_assoc (bytes s) (flat_map bytes more) rest) in
    (s, found.0, (more, whole ∙ sym (append_assoc all (s ∷ []) more), each.1, found.1))

-- all were read
pub none_left : {A : Type 0} (Is : A → Type 0) (bytes : A → List ℕ) (all others : List A) (left rest : List ℕ) → length all ≡ length others → AreLeft Is bytes all others left rest → (others ≡ all) × (left ≡ rest)
none_left Is bytes all others left rest len ([], whole, each, e) = (whole ∙ append-nil all, e)
none_left Is bytes all others left rest len (s ∷ more, whole, each, e) = absurd (omega (arith, ap length whole, length-append all (s ∷ more)))

-- one more is spelled after the others
pub bytes_more : {A : Type 0} (bytes : A → List ℕ) (all : List A) (s : A) → flat_map bytes (all ++ s ∷ []) ≡ flat_map bytes all ++ bytes s
bytes_more bytes all s = flat_map-append bytes all (s ∷ []) ∙ ap (λ (r : List ℕ). flat_map bytes all ++ r) (append-nil (bytes s))

pub each_more : {A : Type 0} (Is : A → Type 0) (all : List A) (s : A) → AllByRecursion Is all → Is s → AllByRecursion Is (all ++ s ∷ [])
each_more Is [] s h k = (k, tt)
each_more Is (x ∷ all) s h k = (h.0, each_more Is all s h.1 k)
