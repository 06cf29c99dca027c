-- An ACL as the rights of its classes and its other entries.
use Rattle.std.proofs.Common.{◌≡◌, ℕ, zero, suc, ◌+◌, ◌<◌, Bool, true, false, cond, List, [], ◌∷◌, ◌++◌, Some, length, take, drop, refl, sym, ap, subst, ◌∙◌, append_assoc, length-append, arith}
use Rattle.std.specs.Prelude.{not}
use Rattle.std.specs.List.{AllByRecursion}
use Rattle.std.proofs.lemmas.List.{take-append-drop, append-nil}
use Rattle.std.proofs.lemmas.List.Elements.{filter-append}
use Rattle.sn_acl.specs.declared.entries.Tag.{Tag}
use Rattle.sn_acl.specs.declared.entries.Tag.TheVariants.{UserObj, User, GroupObj, Group, Mask, Other}
use Rattle.sn_acl.specs.declared.entries.Entry.{Entry}
use Rattle.sn_acl.specs.declared.modes.Mode.{Mode}
use Rattle.sn_acl.specs.Entries.{is_user_obj, is_group_obj, is_other}
use Rattle.sn_acl.specs.AccessList.{IsValid, count_of}
use Rattle.sn_acl.specs.Modes.{entry_of, granted_by}
use Rattle.sn_layout_acl.specs.AclEntry.{IsEntry}
use Rattle.sn_layout_acl.specs.Mode.{IsMode}
use Rattle.sn_layout_acl.specs.AclBlock.{users_in, joined, IsNamedPart}
use Rattle.sn_layout_acl.proofs.AclLists.{valid_entries}
use Rattle.sn_layout_acl.proofs.Joining.{one_if, count-step, parts_of, joined_parts, named_valid}
use Rattle.sn_record.specs.Payload.{objects_of, is_object, named_of}

abbrev entry : Tag → ℕ → Entry
entry tag permissions = record { tag = tag; permissions = permissions }

-- no entry is one of the three
abbrev AreNamed : List Entry → Type 0
AreNamed es = AllByRecursion (λ e. is_object e.tag ≡ false) es

-- ---- what counts say

count-append : (p : Tag → Bool) (xs ys : List Entry) → count_of p (xs ++ ys) ≡ count_of p xs + count_of p ys
count-append p [] ys = omega arith
count-append p (x ∷ xs) ys = omega (arith, count-step p x xs, count-step p x (xs ++ ys), count-append p xs ys)

is_none : (t : Tag) → one_if (is_user_obj t) + one_if (is_group_obj t) + one_if (is_other t) ≡ 0 → is_object t ≡ false
is_none UserObj e = absurd (omega (arith, e))
is_none (User n) e = refl
is_none GroupObj e = absurd (omega (arith, e))
is_none (Group n) e = refl
is_none Mask e = refl
is_none Other e = absurd (omega (arith, e))

are_named : (es : List Entry) → count_of is_user_obj es + count_of is_group_obj es + count_of is_other es ≡ 0 → AreNamed es
are_named [] e = tt
are_named (x ∷ xs) e =
    let user = count-step is_user_obj x xs in
    let group = count-step is_group_obj x xs in
    let other = count-step is_other x xs in
    (is_none x.tag (omega arith), are_named xs (omega arith))

part_named : (mode : Mode) (named : List Entry) → IsValid (joined mode named) → AreNamed named
part_named mode named v =
    let n = users_in named in
    let first = entry UserObj mode.owner ∷ take n named in
    let second = entry GroupObj mode.group ∷ drop n named in
    let last = entry Other mode.other ∷ [] in
    let count = λ (p : Tag → Bool). count-append p (first ++ second) last in
    let front = λ (p : Tag → Bool). count-append p first second in
    let whole = λ (p : Tag → Bool). sym (count-append p (take n named) (drop n named)) ∙ ap (count_of p) (take-append-drop n named) in
    are_named named (omega (arith, v.objects.user_obj, v.objects.group_obj, v.objects.other, count is_user_obj, count is_group_obj, count is_other, front is_user_obj, front is_group_obj, front is_other, whole is_user_obj, whole is_group_obj, whole is_other))

-- ---- what is found and what is left

keeps : (es : List Entry) → AreNamed es → named_of es ≡ es
keeps [] h = refl
keeps (e ∷ es) h = let here = h.0 in rw here (ap (λ (r : List Entry). e ∷ r) (keeps es h.1))

-- none of the entries is the one that is looked for
passes : (p : Tag → Bool) → ((t : Tag) → is_object t ≡ false → p t ≡ false) → (es rest : List Entry) → AreNamed es → entry_of p (es ++ rest) ≡ entry_of p rest
passes p not_object [] rest h = refl
passes p not_object (e ∷ es) rest h = let here = not_object e.tag h.0 in rw here (passes p not_object es rest h.1)

no_group : (t : Tag) → is_object t ≡ false → is_group_obj t ≡ false
no_group UserObj e = absurd cc
no_group (User n) e = refl
no_group GroupObj e = absurd cc
no_group (Group n) e = refl
no_group Mask e = refl
no_group Other e = absurd cc

no_other : (t : Tag) → is_object t ≡ false → is_other t ≡ false
no_other UserObj e = absurd cc
no_other (User n) e = refl
no_other GroupObj e = refl
no_other (Group n) e = refl
no_other Mask e = refl
no_other Other e = absurd cc

front_named : (n : ℕ) (es : List Entry) → AreNamed es → AreNamed (take n es)
front_named zero es h = tt
front_named (suc n) [] h = tt
front_named (suc n) (e ∷ es) h = (h.0, front_named n es h.1)

back_named : (n : ℕ) (es : List Entry) → AreNamed es → AreNamed (drop n es)
back_named zero es h = h
back_named (suc n) [] h = tt
back_named (suc n) (e ∷ es) h = back_named n es h.1

flat : (mode : Mode) (users others : List Entry)
    → ((entry UserObj mode.owner ∷ users) ++ (entry GroupObj mode.group ∷ others)) ++ entry Other mode.other ∷ []
    ≡ entry UserObj mode.owner ∷ (users ++ (entry GroupObj mode.group ∷ (others ++ entry Other mode.other ∷ [])))
flat mode users others = append_assoc (entry UserObj mode.owner ∷ users) (entry GroupObj mode.group ∷ others) (entry Other mode.other ∷ [])

named_joined : (mode : Mode) (named : List Entry) → AreNamed named → named_of (joined mode named) ≡ named
named_joined mode named each =
    let n = users_in named in
    let users = take n named in
    let others = drop n named in
    let last = entry Other mode.other ∷ [] in
    let test = λ (e : Entry). not (is_object e.tag) in
    let tail : named_of (others ++ last) ≡ others = filter-append test others last ∙ ap (λ (r : List Entry). r ++ []) (keeps others (back_named n named each)) ∙ append-nil others in
    let front = keeps users (front_named n named each) in
    ap named_of (flat mode users others)
    ∙ filter-append test users (entry GroupObj mode.group ∷ (others ++ last))
    ∙ ap (λ (r : List Entry). r ++ named_of (others ++ last)) front
    ∙ ap (λ (r : List Entry). users ++ r) tail
    ∙ take-append-drop n named

objects_joined : (mode : Mode) (named : List Entry) → AreNamed named → objects_of (joined mode named) ≡ mode
objects_joined mode named each =
    let n = users_in named in
    let users = take n named in
    let others = drop n named in
    let last = entry Other mode.other ∷ [] in
    let group : entry_of is_group_obj (joined mode named) ≡ Some (entry GroupObj mode.group) =
    ap (entry_of is_group_obj) (flat mode users others) ∙ passes is_group_obj no_group users (entry GroupObj mode.group ∷ (others ++ last)) (front_named n named each) in
    let other : entry_of is_other (joined mode named) ≡ Some (entry Other mode.other) =
    ap (entry_of is_other) (flat mode users others) ∙ passes is_other no_other users (entry GroupObj mode.group ∷ (others ++ last)) (front_named n named each) ∙ passes is_other no_other others last (back_named n named each) in
    let owner : entry_of is_user_obj (joined mode named) ≡ Some (entry UserObj mode.owner) = ap (entry_of is_user_obj) (flat mode users others) in
    rw (ap granted_by owner, ap granted_by group, ap granted_by other) refl

-- ---- both ways

-- a valid ACL is the join of its parts
pub parts_join : (acl : List Entry) → IsValid acl → acl ≡ joined (objects_of acl) (named_of acl)
parts_join acl v =
    let (users, others, owner, group, other, s, p) = parts_of acl acl _ refl v refl in
    let mode : Mode = record { owner = owner; group = group; other = other } in
    let whole : acl ≡ joined mode (users ++ others) = s.whole ∙ sym (joined_parts users others owner group other s.each s.begins) in
    let each = part_named mode (users ++ others) (subst IsValid whole v) in
    let objects = ap objects_of whole ∙ objects_joined mode (users ++ others) each in
    let named = ap named_of whole ∙ named_joined mode (users ++ others) each in
    whole ∙ ap (λ (m : Mode). joined m (users ++ others)) (sym objects) ∙ ap (λ (r : List Entry). joined (objects_of acl) r) (sym named)

-- and the parts of a join of valid parts are those
pub join_parts : (acl named : List Entry) (mode : Mode) → IsNamedPart named → acl ≡ joined mode named → (objects_of acl ≡ mode) × (named_of acl ≡ named)
join_parts acl named mode v e =
    let each = part_named (record { owner = 0; group = 0; other = 0 }) named v in
    (ap objects_of e ∙ objects_joined mode named each, ap named_of e ∙ named_joined mode named each)

pub parts_named : (acl : List Entry) → IsValid acl → IsNamedPart (named_of acl)
parts_named acl v = named_valid (objects_of acl) (named_of acl) (subst IsValid (parts_join acl v) v)

granted_small : (p : Tag → Bool) (es : List Entry) → AllByRecursion IsEntry es → granted_by (entry_of p es) < 8
granted_small p [] each = omega arith
granted_small p (e ∷ es) each =
    let here = each.0.permissions in
    let rest = granted_small p es each.1 in
    elim (p e.tag) as (λ b. granted_by (cond b (Some e) (entry_of p es)) < 8) [ true ↦ here | false ↦ rest ]

pub parts_mode : (acl : List Entry) → IsValid acl → IsMode (objects_of acl)
parts_mode acl v =
    let each = valid_entries acl v in
    record { owner = granted_small is_user_obj acl each; group = granted_small is_group_obj acl each; other = granted_small is_other acl each }

-- all but three entries are named
pub parts_count : (acl : List Entry) → IsValid acl → length acl ≡ 3 + length (named_of acl)
parts_count acl v =
    let named = named_of acl in
    let mode = objects_of acl in
    let n = users_in named in
    let first = entry UserObj mode.owner ∷ take n named in
    let second = entry GroupObj mode.group ∷ drop n named in
    let last = entry Other mode.other ∷ [] in
    omega (arith, ap length (parts_join acl v), length-append (first ++ second) last, length-append first second, length-append (take n named) (drop n named), ap length (take-append-drop n named))
