-- Lists of entries beside the lists of their numbers.
use Rattle.std.proofs.Common.{◌≡◌, ℕ, ◌+◌, ◌*◌, ◌<◌, ◌≤◌, Bool, true, false, cond, not, ◌&&◌, ◌==◌, ◌||◌, ⊎_elim, List, [], ◌∷◌, ◌++◌, length, refl, sym, ap, ap₂, ◌∙◌, subst, append_assoc, length-append, arith}
use Rattle.std.specs.Prelude.{map, Option, None, Some, IfSome, IsNone}
use Rattle.std.specs.List.{AllByRecursion, list_all, list_any}
use Rattle.std.proofs.lemmas.Bool.{and_parts, ltb-true, cases_Bool}
use Rattle.std.proofs.lemmas.List.{append-nil}
use Rattle.std.specs.List.Sorted.{IsPermutation}
use Rattle.std.proofs.lemmas.List.Sorted.{list_any-IsPermutation, length_permutation}
use Rattle.std.proofs.lemmas.List.Concat.{flat_map-cons}
use Rattle.sn_acl.specs.declared.entries.Tag.{Tag}
use Rattle.sn_acl.specs.declared.entries.Tag.TheVariants.{UserObj, User, GroupObj, Group, Mask, Other}
use Rattle.sn_acl.specs.declared.entries.Entry.{Entry}
use Rattle.sn_acl.specs.Entries.{is_named, qualifier_of, rank_of}
use Rattle.sn_acl.specs.AccessList.{is_entry, IsValid}
use Rattle.sn_acl.proofs.Lists.{length-valid}
use Rattle.sn_bytes.specs.Bytes.{number_bytes}
use Rattle.sn_bytes.proofs.Fields.{length-number_bytes, same_numbers, same_fronts}
use Rattle.sn_acl_xattr.specs.declared.entries.RawEntry.{RawEntry}
use Rattle.sn_acl_xattr.specs.Values.{tag_number, written_id, raw_bytes, raws_bytes, raw_of, IsRaw, IsRawOf, AreRawOf, HasEntries, IsValueOf}
use Rattle.sn_acl_xattr.proofs.Sorting.{entry_is}

-- ---- how many bytes

pub length-raw : (raw : RawEntry) → length (raw_bytes raw) ≡ 8
length-raw raw =
    omega (arith, length-append (number_bytes 2 raw.tag ++ number_bytes 2 raw.permissions) (number_bytes 4 raw.id), length-append (number_bytes 2 raw.tag) (number_bytes 2 raw.permissions), length-number_bytes 2 raw.tag, length-number_bytes 2 raw.permissions, length-number_bytes 4 raw.id)

pub length-raws : (raws : List RawEntry) → length (raws_bytes raws) ≡ 8 * length raws
length-raws [] = omega arith
length-raws (raw ∷ raws) =
    omega (arith, length-raw raw, length-raws raws, ap length (flat_map-cons raw_bytes raw raws), length-append (raw_bytes raw) (raws_bytes raws))

-- ---- entries that were read, and others that have the same numbers

-- the entries that were read are a front of the others, whose further ones have the numbers that are left
abbrev pub IsFront : List Entry → List Entry → List RawEntry → Type 0
IsFront read others left = (more : List Entry) × (others ≡ read ++ more) × (list_all is_entry more ≡ true) × AreRawOf left more

pub next_entry : (read others : List Entry) (raw : RawEntry) (left : List RawEntry) → IsFront read others (raw ∷ left)
    → (e : Entry) × (is_entry e ≡ true) × IsRawOf raw e × IsFront (read ++ e ∷ []) others left
next_entry read others raw left ([], whole, each, are) = absurd are
next_entry read others raw left (e ∷ more, whole, each, are) =
    let parts = and_parts (is_entry e) (list_all is_entry more) each in
    (e, parts.0, are.0, (more, whole ∙ sym (append_assoc read (e ∷ []) more), parts.1, are.1))

pub none_left : (read others : List Entry) → IsFront read others [] → others ≡ read
none_left read others ([], whole, each, are) = whole ∙ append-nil read
none_left read others (e ∷ more, whole, each, are) = absurd are

pub are_more : (raws : List RawEntry) (entries : List Entry) (raw : RawEntry) (e : Entry) → AreRawOf raws entries → IsRawOf raw e → AreRawOf (raws ++ raw ∷ []) (entries ++ e ∷ [])
are_more [] [] raw e are is = (is, tt)
are_more [] (x ∷ entries) raw e are is = absurd are
are_more (y ∷ raws) [] raw e are is = absurd are
are_more (y ∷ raws) (x ∷ entries) raw e are is = (are.0, are_more raws entries raw e are.1 is)

pub length-are : (raws : List RawEntry) (entries : List Entry) → AreRawOf raws entries → length raws ≡ length entries
length-are [] [] are = refl
length-are [] (x ∷ entries) are = absurd are
length-are (y ∷ raws) [] are = absurd are
length-are (y ∷ raws) (x ∷ entries) are = omega (arith, length-are raws entries are.1)

-- ---- what is written

id_of_named : (tag : Tag) → is_named tag ≡ true → written_id tag ≡ qualifier_of tag
id_of_named UserObj = λ named. absurd cc
id_of_named (User n) = λ named. refl
id_of_named GroupObj = λ named. absurd cc
id_of_named (Group n) = λ named. refl
id_of_named Mask = λ named. absurd cc
id_of_named Other = λ named. absurd cc

id_fits : (tag : Tag) → qualifier_of tag < 4294967296 → written_id tag < 4294967296
id_fits UserObj = λ fits. omega arith
id_fits (User n) = λ fits. fits
id_fits GroupObj = λ fits. omega arith
id_fits (Group n) = λ fits. fits
id_fits Mask = λ fits. omega arith
id_fits Other = λ fits. omega arith

number_small : (tag : Tag) → tag_number tag ≤ 32
number_small UserObj = omega arith
number_small (User n) = omega arith
number_small GroupObj = omega arith
number_small (Group n) = omega arith
number_small Mask = omega arith
number_small Other = omega arith

raw_fits : (e : Entry) → is_entry e ≡ true → IsRaw (raw_of e)
raw_fits e is =
    let numbers = and_parts _ _ is in
    let permissions = ltb-true e.permissions 8 numbers.0 in
    let id = id_fits e.tag (ltb-true (qualifier_of e.tag) 4294967296 numbers.1) in
    let small = number_small e.tag in
    record { tag = omega arith; permissions = omega arith; id = omega arith }

pub raws_fit : (entries : List Entry) → list_all is_entry entries ≡ true → AllByRecursion IsRaw (map raw_of entries)
raws_fit [] h = tt
raws_fit (e ∷ entries) h =
    let parts = and_parts (is_entry e) (list_all is_entry entries) h in
    (raw_fits e parts.0, raws_fit entries parts.1)

pub raws_are : (entries : List Entry) → AreRawOf (map raw_of entries) entries
raws_are [] = tt
raws_are (e ∷ entries) = (record { tag = refl; permissions = refl; id = id_of_named e.tag }, raws_are entries)

-- ---- one list of entries for bytes

same_raw : (a b : RawEntry) (x y : List ℕ) → IsRaw a → IsRaw b → raw_bytes a ++ x ≡ raw_bytes b ++ y → (a ≡ b) × (x ≡ y)
same_raw a b x y fits-a fits-b e =
    let tags = same_numbers 2 a.tag b.tag (number_bytes 2 a.permissions ++ (number_bytes 4 a.id ++ x)) (number_bytes 2 b.permissions ++ (number_bytes 4 b.id ++ y)) fits-a.tag fits-b.tag (sym (flat a x) ∙ e ∙ flat b y) in
    let permissions = same_numbers 2 a.permissions b.permissions (number_bytes 4 a.id ++ x) (number_bytes 4 b.id ++ y) fits-a.permissions fits-b.permissions tags.1 in
    let ids = same_numbers 4 a.id b.id x y fits-a.id fits-b.id permissions.1 in
    (ap₂ (λ (t : ℕ) (r : ℕ × ℕ). made t r.0 r.1) tags.0 (ap₂ (λ (p i : ℕ). (p, i)) permissions.0 ids.0), ids.1)
  where
    made : ℕ → ℕ → ℕ → RawEntry
    made tag permissions id = record { tag = tag; permissions = permissions; id = id }

    flat : (raw : RawEntry) (rest : List ℕ) → raw_bytes raw ++ rest ≡ number_bytes 2 raw.tag ++ (number_bytes 2 raw.permissions ++ (number_bytes 4 raw.id ++ rest))
    flat raw rest = append_assoc (number_bytes 2 raw.tag ++ number_bytes 2 raw.permissions) (number_bytes 4 raw.id) rest ∙ append_assoc (number_bytes 2 raw.tag) (number_bytes 2 raw.permissions) (number_bytes 4 raw.id ++ rest)

same_raws : (xs ys : List RawEntry) → length xs ≡ length ys → AllByRecursion IsRaw xs → AllByRecursion IsRaw ys → raws_bytes xs ≡ raws_bytes ys → xs ≡ ys
same_raws [] [] long fit-x fit-y e = refl
same_raws [] (y ∷ ys) long fit-x fit-y e = absurd (omega arith)
same_raws (x ∷ xs) [] long fit-x fit-y e = absurd (omega arith)
same_raws (x ∷ xs) (y ∷ ys) long fit-x fit-y e =
    let first = same_raw x y (raws_bytes xs) (raws_bytes ys) fit-x.0 fit-y.0 (sym (flat_map-cons raw_bytes x xs) ∙ e ∙ flat_map-cons raw_bytes y ys) in
    ap₂ (λ (z : RawEntry) (zs : List RawEntry). z ∷ zs) first.0 (same_raws xs ys (omega arith) fit-x.1 fit-y.1 first.1)

-- the kind of a tag by its number
rank_at : ℕ → ℕ
rank_at n = cond (n == 1) 0 (cond (n == 2) 1 (cond (n == 4) 2 (cond (n == 8) 3 (cond (n == 16) 4 5))))

rank_is : (tag : Tag) → rank_at (tag_number tag) ≡ rank_of tag
unfolding rank_at
rank_is UserObj = refl
rank_is (User n) = refl
rank_is GroupObj = refl
rank_is (Group n) = refl
rank_is Mask = refl
rank_is Other = refl

named_is : (tag : Tag) → is_named tag ≡ ((rank_of tag == 1) || (rank_of tag == 3))
named_is UserObj = refl
named_is (User n) = refl
named_is GroupObj = refl
named_is (Group n) = refl
named_is Mask = refl
named_is Other = refl

no_qualifier : (tag : Tag) → is_named tag ≡ false → qualifier_of tag ≡ 0
no_qualifier UserObj = λ unnamed. refl
no_qualifier (User n) = λ unnamed. absurd cc
no_qualifier GroupObj = λ unnamed. refl
no_qualifier (Group n) = λ unnamed. absurd cc
no_qualifier Mask = λ unnamed. refl
no_qualifier Other = λ unnamed. refl

same_entry : (raw : RawEntry) (e f : Entry) → IsRawOf raw e → IsRawOf raw f → f ≡ e
same_entry raw e f is-e is-f =
    let rank = sym (rank_is e.tag) ∙ ap rank_at (sym is-e.tag ∙ is-f.tag) ∙ rank_is f.tag in
    let named : is_named e.tag ≡ is_named f.tag = named_is e.tag ∙ ap (λ r. (r == 1) || (r == 3)) rank ∙ sym (named_is f.tag) in
    let qualifier =
    ⊎_elim
    (λ is. sym (is-e.id is) ∙ is-f.id (sym named ∙ is))
    (λ is_not. no_qualifier e.tag is_not ∙ sym (no_qualifier f.tag (sym named ∙ is_not)))
    (cases_Bool (is_named e.tag)) in
    entry_is e f rank qualifier (sym is-e.permissions ∙ is-f.permissions)

same_entries : (raws : List RawEntry) (xs ys : List Entry) → AreRawOf raws xs → AreRawOf raws ys → xs ≡ ys
same_entries [] [] [] are-x are-y = refl
same_entries [] [] (y ∷ ys) are-x are-y = absurd are-y
same_entries [] (x ∷ xs) ys are-x are-y = absurd are-x
same_entries (raw ∷ raws) [] ys are-x are-y = absurd are-x
same_entries (raw ∷ raws) (x ∷ xs) [] are-x are-y = absurd are-y
same_entries (raw ∷ raws) (x ∷ xs) (y ∷ ys) are-x are-y =
    ap₂ (λ (z : Entry) (zs : List Entry). z ∷ zs) (same_entry raw y x are-y.0 are-x.0) (same_entries raws xs ys are-x.1 are-y.1)

-- how many entries a value has
pub length-value : (value : List ℕ) (entries : List Entry) → HasEntries value entries → length value ≡ 4 + 8 * length entries
length-value value entries has =
    omega (arith, ap length has.bytes, length-append (number_bytes 4 2) (raws_bytes has.raws), length-number_bytes 4 2, length-raws has.raws, length-are has.raws entries has.are)

-- bytes have the entries of one list alone
pub one_list : (value : List ℕ) (xs ys : List Entry) → HasEntries value xs → HasEntries value ys → xs ≡ ys
one_list value xs ys has-x has-y =
    let long : length has-x.raws ≡ length has-y.raws = omega (arith, length-are has-x.raws xs has-x.are, length-are has-y.raws ys has-y.are, length-value value xs has-x, length-value value ys has-y) in
    let behind = same_fronts (number_bytes 4 2) (number_bytes 4 2) (raws_bytes has-x.raws) (raws_bytes has-y.raws) refl (sym has-x.bytes ∙ has-y.bytes) in
    let raws = same_raws has-x.raws has-y.raws long has-x.fit has-y.fit behind.1 in
    same_entries has-y.raws xs ys (subst (λ (zs : List RawEntry). AreRawOf zs xs) raws has-x.are) has-y.are

-- ---- entries in another order

all_or_some : (p : Entry → Bool) (es : List Entry) → list_all p es ≡ not (list_any (λ e. not (p e)) es)
all_or_some p [] = refl
all_or_some p (e ∷ es) = elim (p e) as (λ b. (b && list_all p es) ≡ not (not b || list_any (λ e. not (p e)) es)) [
  | true ↦ all_or_some p es
  | false ↦ refl
]

all_permuted : (p : Entry → Bool) (xs ys : List Entry) → IsPermutation xs ys → list_all p xs ≡ true → list_all p ys ≡ true
all_permuted p xs ys order all =
    all_or_some p ys ∙ ap not (sym (list_any-IsPermutation (λ e. not (p e)) xs ys order)) ∙ sym (all_or_some p xs) ∙ all

-- a value of a valid ACL has few entries, and their numbers fit
pub value_fits : (value : List ℕ) (acl : List Entry) → IsValid acl → (is : IsValueOf value acl) → (length is.entries ≤ 36) × (list_all is_entry is.entries ≡ true)
value_fits value acl valid is =
    (omega (arith, length_permutation acl is.entries is.order, length-valid acl valid), all_permuted is_entry acl is.entries is.order valid.numbers)

-- what is made of the entries of a valid ACL is that ACL
pub is_acl : (made : Option (List Entry)) (es acl : List Entry) → es ≡ acl → IsValid acl → IfSome made (λ found. (found ≡ es) × IsValid es) → (IsNone made → IsValid es → ⊥) → made ≡ Some acl
is_acl None es acl same valid found refused = absurd (refused refl (subst IsValid (sym same) valid))
is_acl (Some made) es acl same valid found refused = ap (λ (x : List Entry). Some x) (found.0 ∙ same)
