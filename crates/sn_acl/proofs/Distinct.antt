-- In canonical order no tag occurs twice.
use Rattle.std.proofs.Common.{◌≡◌, ℕ, ◌<◌, Bool, true, List, [], ◌∷◌, length, get_or, refl, arith, ap, ◌∙◌, zero, suc}
use Rattle.std.specs.Prelude.{◌&&◌, ◌||◌, nat_lt as ltb}
use Rattle.std.proofs.Math.Dec.{eqb}
use Rattle.sn_acl.specs.declared.entries.Tag.{Tag}
use Rattle.sn_acl.specs.declared.entries.Entry.{Entry}
use Rattle.std.proofs.lemmas.Bool.Decides.{nat_tests}
use Rattle.sn_acl.specs.Entries.{precedes, rank_of, qualifier_of}
use Rattle.sn_acl.specs.AccessList.{is_canonical}
use Rattle.sn_acl.specs.Laws.{HasDistinctTags}
use Rattle.sn_acl.proofs.ModeLemmas.{both}

-- canonical order by numbers
abbrev Before : ℕ → ℕ → ℕ → ℕ → Bool
Before p q p' q' = ltb p p' || (eqb p p' && ltb q q')

before-trans : (a b c d e f : ℕ) → Before a b c d ≡ true → Before c d e f ≡ true → Before a b e f ≡ true
before-trans a b c d e f first second = grind (arith, nat_tests)

before-not_self : (a b : ℕ) → Before a b a b ≡ true → ⊥
before-not_self a b h = grind (arith, nat_tests)

precedes-trans : (a b c : Tag) → precedes a b ≡ true → precedes b c ≡ true → precedes a c ≡ true
precedes-trans a b c = before-trans (rank_of a) (qualifier_of a) (rank_of b) (qualifier_of b) (rank_of c) (qualifier_of c)

precedes-not_self : (a : Tag) → precedes a a ≡ true → ⊥
precedes-not_self a = before-not_self (rank_of a) (qualifier_of a)

-- the first entry precedes each other
first-precedes : (e : Entry) (es : List Entry) (j : ℕ) (d : Entry) → is_canonical (e ∷ es) ≡ true → j < length es → precedes e.tag (get_or es j d).tag ≡ true
first-precedes e [] j d = λ ordered within. absurd (omega arith)
first-precedes e (f ∷ es) zero d = λ ordered within. (both (precedes e.tag f.tag) (is_canonical (f ∷ es)) ordered).0
first-precedes e (f ∷ es) (suc j) d = λ ordered within.
    let parts = both (precedes e.tag f.tag) (is_canonical (f ∷ es)) ordered in
    precedes-trans e.tag f.tag (get_or es j d).tag parts.0 (first-precedes f es j d parts.1 (omega arith))

rest-canonical : (e : Entry) (es : List Entry) → is_canonical (e ∷ es) ≡ true → is_canonical es ≡ true
rest-canonical e [] = λ h. refl
rest-canonical e (f ∷ es) = λ h. (both (precedes e.tag f.tag) (is_canonical (f ∷ es)) h).1

distinct-at : (es : List Entry) (i j : ℕ) (d : Entry) → is_canonical es ≡ true → i < j → j < length es → (get_or es i d).tag ≡ (get_or es j d).tag → ⊥
distinct-at [] i j d = λ ordered below within same. omega arith
distinct-at (e ∷ es) i zero d = λ ordered below within same. omega arith
distinct-at (e ∷ es) zero (suc j) d = λ ordered below within same.
    precedes-not_self e.tag (ap (precedes e.tag) same ∙ first-precedes e es j d ordered (omega arith))
distinct-at (e ∷ es) (suc i) (suc j) d = λ ordered below within same.
    distinct-at es i j d (rest-canonical e es ordered) (omega arith) (omega arith) same

pub distinct : (es : List Entry) → is_canonical es ≡ true → HasDistinctTags es
distinct es ordered i j d = distinct-at es i j d ordered
