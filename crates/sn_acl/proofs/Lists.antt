-- Lengths and order of lists of entries.
use Rattle.std.proofs.Common.{◌≡◌, ℕ, ◌+◌, ◌-◌, ◌<◌, ◌≤◌, true, false, cond, List, [], ◌∷◌, length, get_or, drop, refl, arith, zero, suc, length-drop}
use Rattle.std.specs.Prelude.{◌&&◌, filter}
use Rattle.std.proofs.Common.{ap, take}
use Rattle.std.proofs.lemmas.List.{length-map, length-take}
use Rattle.std.specs.Prelude.{map}
use Rattle.std.proofs.Math.Seq.{drop-cons}
use Rattle.sn_acl.specs.declared.entries.Tag.TheVariants.{UserObj, User, GroupObj, Group, Mask, Other}
use Rattle.sn_acl.specs.declared.entries.Entry.{Entry}
use Rattle.sn_acl.specs.Entries.{is_user_obj, is_group_obj, is_mask, is_other, is_named, precedes}
use Rattle.sn_acl.specs.AccessList.{IsValid, count_of, is_canonical}

-- each entry is of one kind
pub length-kinds : (es : List Entry)
    → count_of is_user_obj es + count_of is_group_obj es + count_of is_other es + count_of is_mask es + count_of is_named es ≡ length es
length-kinds [] = refl
length-kinds (e ∷ es) =
    let rest = length-kinds es in
    elim e.tag as (λ t. length (cond (is_user_obj t) (e ∷ filter (λ x. is_user_obj x.tag) es) (filter (λ x. is_user_obj x.tag) es))
    + length (cond (is_group_obj t) (e ∷ filter (λ x. is_group_obj x.tag) es) (filter (λ x. is_group_obj x.tag) es))
    + length (cond (is_other t) (e ∷ filter (λ x. is_other x.tag) es) (filter (λ x. is_other x.tag) es))
    + length (cond (is_mask t) (e ∷ filter (λ x. is_mask x.tag) es) (filter (λ x. is_mask x.tag) es))
    + length (cond (is_named t) (e ∷ filter (λ x. is_named x.tag) es) (filter (λ x. is_named x.tag) es)) ≡ length (e ∷ es)) [
      | UserObj ↦ omega (arith, rest)
      | User n ↦ omega (arith, rest)
      | GroupObj ↦ omega (arith, rest)
      | Group n ↦ omega (arith, rest)
      | Mask ↦ omega (arith, rest)
      | Other ↦ omega (arith, rest)
    ]

pub length-valid : (es : List Entry) → IsValid es → length es ≤ 36
length-valid es valid =
    let objects = valid.objects in
    let mask = valid.mask in
    omega (arith, length-kinds es)

-- the order from one place on
pub canonical_from : (es : List Entry) (i : ℕ) (d f : Entry) → 0 < i → i < length es
    → is_canonical (drop (i - 1) es) ≡ (precedes (get_or es (i - 1) d).tag (get_or es i f).tag && is_canonical (drop i es))
canonical_from es zero d f = λ above within. absurd (omega arith)
canonical_from es (suc i) d f = λ above within.
    let here : i < length es = omega arith in
    let same : suc i - 1 ≡ i = omega arith in
    rw (same, drop-cons es i d here, drop-cons es (suc i) f within) refl

pub canonical_more : (es : List Entry) (i : ℕ) (d f : Entry) → 0 < i → i < length es
    → precedes (get_or es (i - 1) d).tag (get_or es i f).tag ≡ true
    → is_canonical es ≡ is_canonical (drop (i - 1) es) → is_canonical es ≡ is_canonical (drop (i + 1 - 1) es)
canonical_more es i d f above within ordered so_far =
    let same : i + 1 - 1 ≡ i = omega arith in
    let step = canonical_from es i d f above within in
    rw (same, so_far, step, ordered) refl

pub canonical_not : (es : List Entry) (i : ℕ) (d f : Entry) → 0 < i → i < length es
    → precedes (get_or es (i - 1) d).tag (get_or es i f).tag ≡ false
    → is_canonical es ≡ is_canonical (drop (i - 1) es) → false ≡ is_canonical es
canonical_not es i d f above within unordered so_far =
    let step = canonical_from es i d f above within in
    rw (so_far, step, unordered) refl

-- a list with nothing after its last entry
canonical_short : (es : List Entry) → length es ≤ 1 → true ≡ is_canonical es
canonical_short [] = λ _. refl
canonical_short (e ∷ []) = λ _. refl
canonical_short (e ∷ f ∷ es) = λ short. absurd (omega (arith, short))

pub canonical_end : (es : List Entry) (i : ℕ) → length es ≤ i → is_canonical es ≡ is_canonical (drop (i - 1) es) → true ≡ is_canonical es
canonical_end es i past so_far =
    rw so_far (canonical_short (drop (i - 1) es) (omega (arith, length-drop (i - 1) es)))

-- one more of at most 36 entries, each changed
pub room : (f : Entry → Entry) (es changed : List Entry) (i : ℕ) → changed ≡ map f (take i es) → i < length es → IsValid es → length changed < 36
room f es changed i is within valid =
    omega (arith, ap length is, length-map (take i es) f, length-take i es, length-valid es valid)
