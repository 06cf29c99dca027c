-- A list in canonical order is the only sorted one with its entries.
use Rattle.std.proofs.Common.{◌≡◌, ℕ, zero, suc, ◌+◌, ◌<◌, Bool, true, false, cond, ◌&&◌, ◌||◌, ◌==◌, ⊎_elim, List, [], ◌∷◌, length, get_or, refl, sym, ap, ap₂, ◌∙◌, subst, arith}
use Rattle.std.specs.Prelude.{nat_lt}
use Rattle.std.specs.Cmp.{IsStrictWeakOrder}
use Rattle.std.specs.List.{sum_by}
use Rattle.std.specs.List.Sorted.{IsPermutation, IsSortedBy}
use Rattle.std.proofs.lemmas.Bool.{cases_Bool, and_parts, and_from, eqb-true, eq-eqb, cond-true, cond-false, true≢false}
use Rattle.std.proofs.lemmas.Bool.Decides.{nat_tests}
use Rattle.std.proofs.lemmas.List.Sums.{sum_by-cons}
use Rattle.std.proofs.lemmas.List.Sorted.{sorted_far, sum_by-IsPermutation}
use Rattle.sn_acl.specs.declared.entries.Tag.{Tag}
use Rattle.sn_acl.specs.declared.entries.Tag.TheVariants.{UserObj, User, GroupObj, Group, Mask, Other}
use Rattle.sn_acl.specs.declared.entries.Entry.{Entry}
use Rattle.sn_acl.specs.Entries.{precedes, rank_of, qualifier_of}
use Rattle.sn_acl.specs.AccessList.{is_canonical}

abbrev pub before : Entry → Entry → Bool
before a b = precedes a.tag b.tag

-- ---- canonical order is an order

abbrev Before : ℕ → ℕ → ℕ → ℕ → Bool
Before p q r s = nat_lt p r || (p == r && nat_lt q s)

before-one_way : (a b c d : ℕ) → Before a b c d ≡ true → Before c d a b ≡ false
before-one_way a b c d is = grind (arith, nat_tests)

before-chain : (a b c d e f : ℕ) → Before a b c d ≡ false → Before c d e f ≡ false → Before a b e f ≡ false
before-chain a b c d e f first second = grind (arith, nat_tests)

before-trans : (a b c d e f : ℕ) → Before a b c d ≡ true → Before c d e f ≡ true → Before a b e f ≡ true
before-trans a b c d e f first second = grind (arith, nat_tests)

pub is_order : IsStrictWeakOrder before
is_order = record {
  one_way = λ x y. before-one_way (rank_of x.tag) (qualifier_of x.tag) (rank_of y.tag) (qualifier_of y.tag);
  chain = λ x y z. before-chain (rank_of x.tag) (qualifier_of x.tag) (rank_of y.tag) (qualifier_of y.tag) (rank_of z.tag) (qualifier_of z.tag);
}

-- ---- entries by their numbers

tag_at : ℕ → ℕ → Tag
tag_at zero n = UserObj
tag_at (suc zero) n = User n
tag_at (suc (suc zero)) n = GroupObj
tag_at (suc (suc (suc zero))) n = Group n
tag_at (suc (suc (suc (suc zero)))) n = Mask
tag_at (suc (suc (suc (suc (suc m))))) n = Other

tag_is : (tag : Tag) → tag_at (rank_of tag) (qualifier_of tag) ≡ tag
unfolding tag_at
tag_is UserObj = refl
tag_is (User n) = refl
tag_is GroupObj = refl
tag_is (Group n) = refl
tag_is Mask = refl
tag_is Other = refl

same : Entry → Entry → Bool
same x y = (rank_of x.tag == rank_of y.tag) && (qualifier_of x.tag == qualifier_of y.tag) && (x.permissions == y.permissions)

same_self : (x : Entry) → same x x ≡ true
unfolding same
same_self x = and_from _ _ (and_from _ _ (eq-eqb (rank_of x.tag) (rank_of x.tag) refl) (eq-eqb (qualifier_of x.tag) (qualifier_of x.tag) refl)) (eq-eqb x.permissions x.permissions refl)

same_is : (x y : Entry) → same x y ≡ true → y ≡ x
unfolding same
same_is x y e =
    let parts = and_parts _ (x.permissions == y.permissions) e in
    let numbers = and_parts (rank_of x.tag == rank_of y.tag) (qualifier_of x.tag == qualifier_of y.tag) parts.0 in
    let tag = sym (tag_is x.tag) ∙ ap₂ tag_at (eqb-true (rank_of x.tag) (rank_of y.tag) numbers.0) (eqb-true (qualifier_of x.tag) (qualifier_of y.tag) numbers.1) ∙ tag_is y.tag in
    sym (ap₂ made tag (eqb-true x.permissions y.permissions parts.1))
  where
    made : Tag → ℕ → Entry
    made tag permissions = record { tag = tag; permissions = permissions }

-- ---- one sorted list

-- 1 for this entry, and 0 for any other
mark : Entry → Entry → ℕ
mark x y = cond (same x y) 1 0

mark_self : (x : Entry) → mark x x ≡ 1
unfolding mark
mark_self x = cond-true _ _ _ (same_self x)

mark_other : (x y : Entry) → same x y ≡ false → mark x y ≡ 0
unfolding mark
mark_other x y other = cond-false _ _ _ other

abbrev IsAmong : Entry → List Entry → Type 0
IsAmong x ys = (i : ℕ) × (i < length ys) × (get_or ys i x ≡ x)

next_among : (x y : Entry) (ys : List Entry) → IsAmong x ys → IsAmong x (y ∷ ys)
next_among x y ys (i, within, is) = (suc i, omega arith, is)

among : (x : Entry) (ys : List Entry) → 0 < sum_by (mark x) ys → IsAmong x ys
among x [] counted = absurd (omega arith)
among x (y ∷ ys) counted =
    let rest : 0 < sum_by (mark x) ys → IsAmong x ys = among x ys in
    ⊎_elim
    (λ is. (zero, omega arith, same_is x y is))
    (λ other. next_among x y ys (rest (omega (arith, sum_by-cons (mark x) y ys, mark_other x y other))))
    (cases_Bool (same x y))

-- each list sums as the other does, whatever is summed
abbrev pub SumAlike : List Entry → List Entry → Type 0
SumAlike xs ys = (f : Entry → ℕ) → sum_by f xs ≡ sum_by f ys

among_alike : (x : Entry) (xs ys : List Entry) → SumAlike (x ∷ xs) ys → IsAmong x ys
among_alike x xs ys alike = among x ys (omega (arith, sum_by-cons (mark x) x xs, mark_self x, alike (mark x)))

alike_rest : (x : Entry) (xs ys : List Entry) → SumAlike (x ∷ xs) (x ∷ ys) → SumAlike xs ys
alike_rest x xs ys alike f = omega (arith, sum_by-cons f x xs, sum_by-cons f x ys, alike f)

not_alike : (x : Entry) (xs : List Entry) → SumAlike [] (x ∷ xs) → ⊥
not_alike x xs alike = omega (arith, sum_by-cons (λ _. 1) x xs, alike (λ _. 1))

first_before : (e : Entry) (es : List Entry) (i : ℕ) (d : Entry) → is_canonical (e ∷ es) ≡ true → i < length es → before e (get_or es i d) ≡ true
first_before e [] i d = λ ordered within. absurd (omega arith)
first_before e (f ∷ es) zero d = λ ordered within. (and_parts (before e f) (is_canonical (f ∷ es)) ordered).0
first_before e (f ∷ es) (suc i) d = λ ordered within.
    let parts = and_parts (before e f) (is_canonical (f ∷ es)) ordered in
    let g = get_or es i d in
    before-trans (rank_of e.tag) (qualifier_of e.tag) (rank_of f.tag) (qualifier_of f.tag) (rank_of g.tag) (qualifier_of g.tag) parts.0 (first_before f es i d parts.1 (omega arith))

canonical_rest : (e : Entry) (es : List Entry) → is_canonical (e ∷ es) ≡ true → is_canonical es ≡ true
canonical_rest e [] = λ ordered. refl
canonical_rest e (f ∷ es) = λ ordered. (and_parts (before e f) (is_canonical (f ∷ es)) ordered).1

sorted_rest : (x : Entry) (xs : List Entry) → IsSortedBy before (x ∷ xs) → IsSortedBy before xs
sorted_rest x xs sorted = λ k d low within.
    let next : suc k + 1 ≡ suc (k + 1) = omega arith in
    let Is : ℕ → Type 0 = λ n. before (get_or (x ∷ xs) n d) (get_or xs k d) ≡ false in
    subst Is next (sorted (suc k) d (omega arith) (omega arith))

-- an entry among those after the first can't be first in a sorted list that has the first too
first_is : (x a : Entry) (xs es : List Entry) → is_canonical (a ∷ es) ≡ true → IsSortedBy before (x ∷ xs) → IsAmong a (x ∷ xs) → IsAmong x (a ∷ es) → x ≡ a
first_is x a xs es ordered sorted (j, there, is_a) (zero, within, is) = sym is
first_is x a xs es ordered sorted (j, there, is_a) (suc i, within, is) =
    let not_before = sym (ap (λ y. before y x) is_a) ∙ sorted_far before is_order (x ∷ xs) sorted zero j a (omega arith) there in
    let is_before = sym (ap (before a) is) ∙ first_before a es i x ordered (omega arith) in
    absurd (true≢false (sym is_before ∙ not_before))

one_sorted : (xs es : List Entry) → is_canonical es ≡ true → IsSortedBy before xs → SumAlike xs es → xs ≡ es
one_sorted [] [] ordered sorted alike = refl
one_sorted [] (a ∷ es) ordered sorted alike = absurd (not_alike a es alike)
one_sorted (x ∷ xs) [] ordered sorted alike = absurd (not_alike x xs (λ f. sym (alike f)))
one_sorted (x ∷ xs) (a ∷ es) ordered sorted alike =
    let first = first_is x a xs es ordered sorted (among_alike a es (x ∷ xs) (λ f. sym (alike f))) (among_alike x xs (a ∷ es) alike) in
    let front = λ (y : Entry) (ys : List Entry). y ∷ ys in
    let rest = alike_rest x xs es (λ f. alike f ∙ ap (λ y. sum_by f (y ∷ es)) (sym first)) in
    ap₂ front first (one_sorted xs es (canonical_rest a es ordered) (sorted_rest x xs sorted) rest)

-- entries sorted from those of a list in canonical order, whatever their order, are that list
pub sorted_is : (acl entries sorted : List Entry) → is_canonical acl ≡ true → IsPermutation acl entries → IsPermutation entries sorted → IsSortedBy before sorted → sorted ≡ acl
sorted_is acl entries sorted ordered from to is =
    one_sorted sorted acl ordered is (λ f. sum_by-IsPermutation f entries sorted to ∙ sum_by-IsPermutation f acl entries from)

next_sorted : (e : Entry) (es : List Entry) (k : ℕ) (d : Entry) → is_canonical (e ∷ es) ≡ true → k < length es → before (get_or es k d) (get_or (e ∷ es) k d) ≡ false
next_sorted e [] k d = λ ordered within. absurd (omega arith)
next_sorted e (f ∷ es) zero d = λ ordered within. is_order.one_way e f (and_parts (before e f) (is_canonical (f ∷ es)) ordered).0
next_sorted e (f ∷ es) (suc k) d = λ ordered within. next_sorted f es k d (canonical_rest e (f ∷ es) ordered) (omega arith)

canonical_sorted : (es : List Entry) → is_canonical es ≡ true → IsSortedBy before es
canonical_sorted [] ordered = λ k d low within. absurd (omega arith)
canonical_sorted (e ∷ es) ordered = λ k d low within.
    let next : k + 1 ≡ suc k = omega arith in
    let Is : ℕ → Type 0 = λ n. before (get_or (e ∷ es) n d) (get_or (e ∷ es) k d) ≡ false in
    subst Is (sym next) (next_sorted e es k d ordered (omega arith))

-- two lists in canonical order with the same entries
pub canonical_is : (a b entries : List Entry) → is_canonical a ≡ true → is_canonical b ≡ true → IsPermutation a entries → IsPermutation b entries → a ≡ b
canonical_is a b entries ordered-a ordered-b from-a from-b =
    one_sorted a b ordered-b (canonical_sorted a ordered-a) (λ f. sym (sum_by-IsPermutation f a entries from-a) ∙ sum_by-IsPermutation f b entries from-b)

-- entries with the same numbers of rank, qualifier and permissions
pub entry_is : (x y : Entry) → rank_of x.tag ≡ rank_of y.tag → qualifier_of x.tag ≡ qualifier_of y.tag → x.permissions ≡ y.permissions → y ≡ x
unfolding same
entry_is x y rank qualifier permissions = same_is x y (and_from _ _ (and_from _ _ (eq-eqb _ _ rank) (eq-eqb _ _ qualifier)) (eq-eqb _ _ permissions))
