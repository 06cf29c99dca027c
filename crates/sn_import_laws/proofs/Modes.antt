-- An ACL whose mode is set to its own, and the bits that say a mode.
use Rattle.std.proofs.Common.{◌≡◌, ℕ, ◌+◌, ◌/◌, ◌%◌, ◌<◌, ◌≤◌, ◌==◌, Bool, true, false, cond, List, [], ◌∷◌, filter, map, length, Option, Some, None, is_some, refl, sym, ap, ◌∙◌, true≢false, arith, eq-eqb}
use Rattle.std.specs.Prelude.{nat_lt, codes, IfSome, Result, Ok, Err}
use Rattle.std.specs.List.{AllByRecursion}
use Rattle.std.specs.Option.{option_or}
use Rattle.std.specs.Str.{bytes_eq}
use Rattle.std.proofs.lemmas.Bool.{lt-ltb, ne_eqb}
use Rattle.std.proofs.lemmas.Slice.Eq.{bytes_eq-Decides}
use Rattle.sn_acl.specs.declared.entries.Tag.{Tag}
use Rattle.sn_acl.specs.declared.entries.Tag.TheVariants.{UserObj, User, GroupObj, Group, Mask, Other}
use Rattle.sn_acl.specs.declared.entries.Entry.{Entry}
use Rattle.sn_acl.specs.declared.modes.Mode.{Mode}
use Rattle.sn_acl.specs.AccessList.{IsValid, count_of}
use Rattle.sn_acl.specs.Entries.{is_user_obj, is_group_obj, is_mask, is_other}
use Rattle.sn_acl.specs.Modes.{entry_of, entry_under, granted_by, has_mask, mode_bits, mode_of, permissions_under, with_mode}
use Rattle.sn_acl.specs.Text.{acl_of, acl_text}
use Rattle.sn_acl.proofs.Spelling.{spelled}
use Rattle.sn_archive_laws.proofs.Modes.{bits_small, mode_again, small}
use Rattle.sn_import.specs.Calls.{bit, bits_of, default_text}
use Rattle.sn_import.specs.declared.object.Rights.{Rights}
use Rattle.sn_model.specs.declared.argument.AclKind.TheVariants.{Access as OfAccess, Default as OfDefault}
use Rattle.sn_model.specs.declared.argument.ModeBits.{ModeBits}
use Rattle.sn_model.specs.declared.argument.NewAcl.{NewAcl}
use Rattle.sn_model.specs.declared.argument.NewAcl.TheVariants.{Access as NewAccess, Default as NewDefault}
use Rattle.sn_model.specs.AccessCalls.{acl_argument, mode_bits_argument, new_acl}
use Rattle.sn_model.specs.Tests.{mode_from_bits, plain}
use Rattle.sn_model.specs.declared.reply.Errno.TheVariants.{Einval}
use Rattle.sn_model.specs.declared.reply.Refusal.{Refusal}

-- ---- one entry of a kind is the one that is found

abbrev passing : (Tag → Bool) → List Entry → List Entry
passing p es = filter (λ (e : Entry). p e.tag) es

none_pass : (p : Tag → Bool) (es : List Entry) → count_of p es ≡ 0 → AllByRecursion (λ (e : Entry). p e.tag ≡ true → ⊥) es
none_pass p [] none = tt
none_pass p (e ∷ es) none = told (p e.tag) refl none (none_pass p es)
  where
    told : (b : Bool) → p e.tag ≡ b → length (cond b (e ∷ passing p es) (passing p es)) ≡ 0 → (count_of p es ≡ 0 → AllByRecursion (λ (x : Entry). p x.tag ≡ true → ⊥) es)
        → AllByRecursion (λ (x : Entry). p x.tag ≡ true → ⊥) (e ∷ es)
    told true is n ih = absurd (omega (arith, n))
    told false is n ih = (λ passes. true≢false (sym passes ∙ is), ih n)

-- each entry of a kind is the one that is found
abbrev IsFound : (Tag → Bool) → Option Entry → Entry → Type 0
IsFound p found e = p e.tag ≡ true → found ≡ Some e

nobody : (p : Tag → Bool) (found : Option Entry) (es : List Entry) → AllByRecursion (λ (e : Entry). p e.tag ≡ true → ⊥) es → AllByRecursion (IsFound p found) es
nobody p found [] all = tt
nobody p found (e ∷ es) all = (λ passes. absurd (all.0 passes), nobody p found es all.1)

one_found : (p : Tag → Bool) (es : List Entry) → count_of p es ≤ 1 → AllByRecursion (IsFound p (entry_of p es)) es
one_found p [] few = tt
one_found p (e ∷ es) few = told (p e.tag) refl few (one_found p es)
  where
    told : (b : Bool) → p e.tag ≡ b → length (cond b (e ∷ passing p es) (passing p es)) ≤ 1 → (count_of p es ≤ 1 → AllByRecursion (IsFound p (entry_of p es)) es)
        → AllByRecursion (IsFound p (cond b (Some e) (entry_of p es))) (e ∷ es)
    told true is n ih = (λ passes. refl, nobody p (Some e) es (none_pass p es (omega (arith, n))))
    told false is n ih = (λ passes. absurd (true≢false (sym passes ∙ is)), ih n)

-- ---- its own mode leaves an ACL

abbrev entry : Tag → ℕ → Entry
entry tag permissions = record { tag = tag; permissions = permissions }

record Found (es : List Entry) (e : Entry) : Type 0 where
  user : IsFound is_user_obj (entry_of is_user_obj es) e
  group : IsFound is_group_obj (entry_of is_group_obj es) e
  mask : IsFound is_mask (entry_of is_mask es) e
  other : IsFound is_other (entry_of is_other es) e

group_same : (mask group : Option Entry) (mode : Mode) (n : ℕ) → mode.group ≡ granted_by (option_or mask group) → group ≡ Some (entry GroupObj n) → permissions_under mode (is_some mask) GroupObj n ≡ n
group_same None group mode n is found = is ∙ ap granted_by found
group_same (Some m) group mode n is found = refl

same_under : (es : List Entry) (tag : Tag) (n : ℕ) → Found es (entry tag n) → permissions_under (mode_of es) (has_mask es) tag n ≡ n
same_under es UserObj n f = ap granted_by (f.user refl)
same_under es (User u) n f = refl
same_under es GroupObj n f = group_same (entry_of is_mask es) (entry_of is_group_obj es) (mode_of es) n refl (f.group refl)
same_under es (Group g) n f = refl
same_under es Mask n f = ap (λ (m : Option Entry). granted_by (option_or m (entry_of is_group_obj es))) (f.mask refl)
same_under es Other n f = ap granted_by (f.other refl)

all_same : (whole es : List Entry) → AllByRecursion (IsFound is_user_obj (entry_of is_user_obj whole)) es → AllByRecursion (IsFound is_group_obj (entry_of is_group_obj whole)) es
    → AllByRecursion (IsFound is_mask (entry_of is_mask whole)) es → AllByRecursion (IsFound is_other (entry_of is_other whole)) es
    → map (entry_under (mode_of whole) (has_mask whole)) es ≡ es
all_same whole [] user group mask other = refl
all_same whole (e ∷ es) user group mask other =
    let one : entry_under (mode_of whole) (has_mask whole) e ≡ e =
    ap (entry e.tag) (same_under whole e.tag e.permissions (record { user = user.0; group = group.0; mask = mask.0; other = other.0 })) in
    ap (λ (x : Entry). x ∷ map (entry_under (mode_of whole) (has_mask whole)) es) one ∙ ap (λ (xs : List Entry). e ∷ xs) (all_same whole es user.1 group.1 mask.1 other.1)

pub own_mode : (es : List Entry) → IsValid es → with_mode (mode_of es) es ≡ es
own_mode es valid = all_same es es
    (one_found is_user_obj es (omega (arith, valid.objects.user_obj)))
    (one_found is_group_obj es (omega (arith, valid.objects.group_obj)))
    (one_found is_mask es valid.mask.most)
    (one_found is_other es (omega (arith, valid.objects.other)))

-- ---- arguments

bits_read : (set_gid sticky : Bool) (low : ℕ) → low < 512
    → (nat_lt (low + bit set_gid 1024 + bit sticky 512) 2048 ≡ true) × ((low + bit set_gid 1024 + bit sticky 512) % 512 ≡ low)
    × (((low + bit set_gid 1024 + bit sticky 512) / 1024 == 1) ≡ set_gid) × (((low + bit set_gid 1024 + bit sticky 512) / 512 % 2 == 1) ≡ sticky)
bits_read true true low small = (lt-ltb _ 2048 (omega arith), omega arith, eq-eqb _ 1 (omega arith), eq-eqb _ 1 (omega arith))
bits_read true false low small = (lt-ltb _ 2048 (omega arith), omega arith, eq-eqb _ 1 (omega arith), ne_eqb _ 1 (λ e. omega (arith, e)))
bits_read false true low small = (lt-ltb _ 2048 (omega arith), omega arith, ne_eqb _ 1 (λ e. omega (arith, e)), eq-eqb _ 1 (omega arith))
bits_read false false low small = (lt-ltb _ 2048 (omega arith), omega arith, ne_eqb _ 1 (λ e. omega (arith, e)), ne_eqb _ 1 (λ e. omega (arith, e)))

abbrev pub asked_bits : Rights → ModeBits
asked_bits rights = record { mode = mode_of rights.access; set_gid = rights.set_gid; sticky = rights.sticky }

pub bits_argument : (rights : Rights) → IsValid rights.access → mode_bits_argument (bits_of rights) ≡ Ok (asked_bits rights)
bits_argument rights valid =
    let is = small rights.access valid.numbers in
    let low = mode_bits (mode_of rights.access) in
    let read = bits_read rights.set_gid rights.sticky low (bits_small (mode_of rights.access) is) in
    let mode : mode_from_bits (bits_of rights % 512) ≡ mode_of rights.access = ap mode_from_bits read.1 ∙ mode_again (mode_of rights.access) is in
    ap (λ (b : Bool). cond b (told (mode_from_bits (bits_of rights % 512)) (bits_of rights / 1024 == 1) (bits_of rights / 512 % 2 == 1)) (Err (plain Einval))) read.0
    ∙ (λ i. told (mode i) (read.2 i) (read.3 i))
  where
    told : Mode → Bool → Bool → Result ModeBits Refusal
    told mode set_gid sticky = Ok (record { mode = mode; set_gid = set_gid; sticky = sticky })

pub access_argument : (acl : List Entry) → IsValid acl → acl_argument OfAccess (acl_text acl) ≡ Ok (NewAccess acl)
access_argument acl valid = ap (new_acl OfAccess) (spelled (acl_text acl) acl valid refl)

-- a dash is no ACL
no_dash : acl_of (codes "-") ≡ None
unfolding acl_of
no_dash = refl

dash_apart : (acl : List Entry) → IsValid acl → (b : Bool) → bytes_eq (acl_text acl) (codes "-") ≡ b → b ≡ false
dash_apart acl valid false e = refl
dash_apart acl valid true e =
    let same : acl_text acl ≡ codes "-" = (bytes_eq-Decides (acl_text acl) (codes "-")).0 e in
    let never : None ≡ Some acl = sym no_dash ∙ spelled (codes "-") acl valid (sym same) in
    cc

pub default_argument : (default : Option (List Entry)) → IfSome default IsValid → acl_argument OfDefault (default_text default) ≡ Ok (NewDefault default)
default_argument None valid = refl
default_argument (Some acl) valid =
    ap (λ (b : Bool). cond b none (new_acl OfDefault (acl_of (acl_text acl)))) (dash_apart acl valid (bytes_eq (acl_text acl) (codes "-")) refl)
    ∙ ap (new_acl OfDefault) (spelled (acl_text acl) acl valid refl)
  where
    none : Result NewAcl Refusal
    none = Ok (NewDefault None)
