-- What the validity of an ACL says of the numbers of its entries.
use Rattle.std.proofs.Common.{◌≡◌, ℕ, zero, suc, ◌+◌, ◌<◌, ◌≤◌, Bool, true, false, ◌&&◌, List, [], ◌∷◌, ◌++◌, Option, None, Some, length, take, drop, refl, ap, arith, length-append}
use Rattle.std.specs.List.{AllByRecursion, list_all}
use Rattle.std.proofs.lemmas.Bool.{ltb-true}
use Rattle.std.proofs.lemmas.List.{take-append-drop}
use Rattle.sn_acl.specs.declared.entries.Tag.{Tag}
use Rattle.sn_acl.specs.declared.entries.Tag.TheVariants.{UserObj, User, GroupObj, Group, Mask, Other}
use Rattle.sn_acl.specs.declared.entries.Entry.{Entry}
use Rattle.sn_acl.specs.Entries.{is_user_obj, is_group_obj, is_mask, is_other, is_named, qualifier_of}
use Rattle.sn_acl.specs.AccessList.{IsValid, count_of, is_entry}
use Rattle.sn_layout_acl.specs.AclEntry.{IsEntry}
use Rattle.sn_layout_acl.specs.AclBlock.{users_in, with_objects, IsNamedPart, IsDefault, default_entries}

abbrev blank : Tag → Entry
blank tag = record { tag = tag; permissions = 0 }

abbrev total : List Entry → ℕ
total es = count_of is_user_obj es + count_of is_group_obj es + count_of is_other es + count_of is_mask es + count_of is_named es

one_more : (tag : Tag) (permissions : ℕ) (es : List Entry) → length es ≡ total es → length (record { tag = tag; permissions = permissions } ∷ es) ≡ total (record { tag = tag; permissions = permissions } ∷ es)
one_more UserObj p es e = omega (arith, e)
one_more (User n) p es e = omega (arith, e)
one_more GroupObj p es e = omega (arith, e)
one_more (Group n) p es e = omega (arith, e)
one_more Mask p es e = omega (arith, e)
one_more Other p es e = omega (arith, e)

-- each entry is counted once
counted : (es : List Entry) → length es ≡ total es
counted [] = refl
counted (e ∷ es) = one_more e.tag e.permissions es (counted es)

pub valid_short : (es : List Entry) → IsValid es → length es ≤ 36
valid_short es v = omega (arith, counted es, v.objects.user_obj, v.objects.group_obj, v.objects.other, v.mask.most, v.mask.named)

pub valid_some : (es : List Entry) → IsValid es → 0 < length es
valid_some es v = omega (arith, counted es, v.objects.user_obj)

both : (a b : Bool) → (a && b) ≡ true → (a ≡ true) × (b ≡ true)
both true b e = (refl, e)
both false b e = absurd cc

each_entry : (es : List Entry) → list_all is_entry es ≡ true → AllByRecursion IsEntry es
each_entry [] h = tt
each_entry (e ∷ es) h =
    let parts = both (is_entry e) (list_all is_entry es) h in
    let numbers = both _ _ parts.0 in
    (record { permissions = ltb-true e.permissions 8 numbers.0; qualifier = ltb-true (qualifier_of e.tag) 4294967296 numbers.1 }, each_entry es parts.1)

pub valid_entries : (es : List Entry) → IsValid es → AllByRecursion IsEntry es
valid_entries es v = each_entry es v.numbers

pub named_short : (named : List Entry) → IsNamedPart named → length named ≤ 33
named_short named v =
    let n = users_in named in
    let whole = ap length (take-append-drop n named) in
    let parts = length-append (take n named) (drop n named) in
    let short = valid_short (with_objects named) v in
    let front = length-append (blank UserObj ∷ take n named) (blank GroupObj ∷ drop n named) in
    let all = length-append ((blank UserObj ∷ take n named) ++ (blank GroupObj ∷ drop n named)) (blank Other ∷ []) in
    omega (arith, whole, parts, short, front, all)

all_front : (xs ys : List Entry) → AllByRecursion IsEntry (xs ++ ys) → AllByRecursion IsEntry xs × AllByRecursion IsEntry ys
all_front [] ys h = (tt, h)
all_front (x ∷ xs) ys h = let rest = all_front xs ys h.1 in ((h.0, rest.0), rest.1)

halves : (k : ℕ) (xs : List Entry) → AllByRecursion IsEntry (take k xs) → AllByRecursion IsEntry (drop k xs) → AllByRecursion IsEntry xs
halves zero xs a b = b
halves (suc k) [] a b = tt
halves (suc k) (x ∷ xs) a b = (a.0, halves k xs a.1 b)

pub named_entries : (named : List Entry) → IsNamedPart named → AllByRecursion IsEntry named
named_entries named v =
    let n = users_in named in
    let front = all_front ((blank UserObj ∷ take n named) ++ (blank GroupObj ∷ drop n named)) (blank Other ∷ []) (valid_entries (with_objects named) v) in
    let parts = all_front (blank UserObj ∷ take n named) (blank GroupObj ∷ drop n named) front.0 in
    halves n named parts.0.1 parts.1.1

pub default_short : (default : Option (List Entry)) → IsDefault default → length (default_entries default) ≤ 36
default_short None v = omega arith
default_short (Some entries) v = valid_short entries v

pub default_each : (default : Option (List Entry)) → IsDefault default → AllByRecursion IsEntry (default_entries default)
default_each None v = tt
default_each (Some entries) v = valid_entries entries v
