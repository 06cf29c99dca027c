-- Entries that are an ACL, and texts with more entries than one has.
use Rattle.std.proofs.Common.{◌≡◌, ℕ, suc, ◌+◌, ◌<◌, ◌≤◌, Bool, true, false, cond, ⊎_elim, List, [], ◌∷◌, length, drop, get_or, drop-cons, add-one, refl, sym, ap, ◌∙◌, arith}
use Rattle.std.proofs.Math.ListN.{drop_of_length-le}
use Rattle.std.specs.Prelude.{nat_lt, Option, Some, None, Ok, Err}
use Rattle.std.specs.Option.{option_and_then}
use Rattle.std.proofs.lemmas.Bool.{cases_Bool}
use Rattle.sn_acl.specs.declared.entries.Entry.{Entry}
use Rattle.sn_acl.specs.AccessList.{IsValid, is_acl}
use Rattle.sn_acl.proofs.Validity.{valid-from_test, test-from_valid}
use Rattle.sn_acl_text.specs.declared.entries.TextEntry.{TextEntry}
use Rattle.sn_import_entry.specs.declared.fault.EntryFault.TheVariants.{Acl}
use Rattle.sn_import_entry.specs.declared.names.Names.{Names}
use Rattle.sn_import_entry.specs.Acls.{valid, valid_if, acl_said, entry_of, numbered, placed}

pub valid_is : (es : List Entry) → IsValid es → valid es ≡ Ok es
valid_is es ok = ap (λ t. cond t (Ok es) (Err Acl)) (test-from_valid es ok)

pub invalid_is : (es : List Entry) → (IsValid es → ⊥) → valid es ≡ Err Acl
invalid_is es bad = ⊎_elim
    (λ is. absurd (bad (valid-from_test es is)))
    (λ isnt. ap (λ t. cond t (Ok es) (Err Acl)) isnt)
    (cases_Bool (is_acl es))

pub none_said : (names : Names) (es : Option (List TextEntry)) → ((all : List TextEntry) → es ≡ Some all → 36 < length all) → acl_said names es ≡ Err Acl
none_said names None many = refl
none_said names (Some es) many =
    let is : nat_lt 36 (length es) ≡ true = grind (arith, many es refl) in
    ap (λ t. cond t (Err Acl) (valid_if (numbered names [] es))) is

pub few_said : (names : Names) (es : List TextEntry) → length es ≤ 36 → acl_said names (Some es) ≡ valid_if (numbered names [] es)
few_said names es few =
    let is : nat_lt 36 (length es) ≡ false = grind arith in
    ap (λ t. cond t (Err Acl) (valid_if (numbered names [] es))) is

-- what is left of a text's entries from one of them on
left_at : (said : List TextEntry) (i : ℕ) (first : TextEntry) → i < length said → first ≡ get_or said i first → drop i said ≡ first ∷ drop (i + 1) said
left_at said i first within is =
    drop-cons said i first within ∙ ap (λ e. e ∷ drop (suc i) said) (sym is) ∙ ap (λ n. first ∷ drop n said) (sym (add-one i))

-- the next entry has a number
pub next_numbered : (names : Names) (entries : List Entry) (said : List TextEntry) (i : ℕ) (first : TextEntry) (entry : Entry)
    → i < length said → first ≡ get_or said i first → Some entry ≡ entry_of names first → numbered names entries (drop i said) ≡ numbered names [] said
    → numbered names (placed entry entries) (drop (i + 1) said) ≡ numbered names [] said
next_numbered names entries said i first entry within is has same =
    ap (option_and_then (λ e. numbered names (placed e entries) (drop (i + 1) said))) has
    ∙ ap (numbered names entries) (sym (left_at said i first within is)) ∙ same

-- the next entry has none
pub none_numbered : (names : Names) (entries : List Entry) (said : List TextEntry) (i : ℕ) (first : TextEntry)
    → i < length said → first ≡ get_or said i first → None ≡ entry_of names first → numbered names entries (drop i said) ≡ numbered names [] said
    → numbered names [] said ≡ None
none_numbered names entries said i first within is none same =
    sym same ∙ ap (numbered names entries) (left_at said i first within is)
    ∙ ap (option_and_then (λ e. numbered names (placed e entries) (drop (i + 1) said))) (sym none)

pub all_numbered : (names : Names) (entries : List Entry) (said : List TextEntry) (i : ℕ) → length said ≤ i → numbered names entries (drop i said) ≡ numbered names [] said
    → numbered names [] said ≡ Some entries
all_numbered names entries said i all same = sym same ∙ ap (numbered names entries) (drop_of_length-le said all)
