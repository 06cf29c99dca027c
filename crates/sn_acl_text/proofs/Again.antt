-- What was written is read.
use Rattle.std.proofs.Common.{◌≡◌, ℕ, suc, ◌+◌, ◌^◌, ◌<◌, ◌⊎◌, inl, inr, Bool, true, false, cond, not, ◌||◌, Option, Some, None, List, [], ◌∷◌, ◌++◌, length, map, take, drop, refl, sym, ap, ◌∙◌, lit<, append_assoc, arith}
use Rattle.std.specs.Prelude.{nat_lt, decimal, ◌==◌}
use Rattle.std.specs.List.{AllByRecursion, list_all, position_or_len, slice_split}
use Rattle.std.specs.Char.{is_ascii_digit}
use Rattle.std.specs.Str.{all_ascii_digits, bytes_eq}
use Rattle.std.proofs.lemmas.Bool.{and_parts, and_from, leb-true, lt-ltb, ltb-true, ne_eqb}
use Rattle.std.proofs.lemmas.Fmt.{decimal_nonempty}
use Rattle.std.proofs.lemmas.List.{take_at, take_all}
use Rattle.std.proofs.lemmas.List.Elements.{All-from_recursion}
use Rattle.std.proofs.lemmas.List.Folds.{list_all-append}
use Rattle.std.proofs.lemmas.List.Splits.{slice_split_at, slice_split_none}
use Rattle.std.proofs.lemmas.Slice.Eq.{bytes_eq-Decides}
use Rattle.sn_acl.specs.declared.entries.Tag.{Tag}
use Rattle.sn_acl.specs.declared.entries.Tag.TheVariants.{UserObj, User, GroupObj, Group, Mask, Other}
use Rattle.sn_acl.specs.declared.entries.Entry.{Entry}
use Rattle.sn_acl.specs.Rights.{contains, letter_of, permissions_text, rights_named}
use Rattle.sn_acl.specs.Entries.{qualifier_of}
use Rattle.sn_acl.specs.AccessList.{IsValid, is_entry}
use Rattle.sn_acl.specs.Text.{qualifier_text}
use Rattle.sn_acl.proofs.RightsLemmas.{rights_named-text}
use Rattle.sn_acl.proofs.Reading.{digits-qualifier, entry-numbers}
use Rattle.sn_pax.specs.Records.{is_other}
use Rattle.sn_pax.proofs.Bytes.{place_of}
use Rattle.sn_acl_text.specs.declared.entries.Whom.{Whom}
use Rattle.sn_acl_text.specs.declared.entries.Whom.TheVariants as told_as
use Rattle.sn_acl_text.specs.declared.entries.TextEntry.{TextEntry}
use Rattle.sn_acl_text.specs.Long.{kind_word, long_entry, long_text}
use Rattle.sn_acl_text.specs.Reading.{Fields, fields_of, before, after, is_separator, uncommented, number_of, number_or_name, rights_said, whom_of, with_rights, plain, entry_said, entries_said, followed, said}
use Rattle.sn_acl_text.specs.Laws.{whom, told}
use Rattle.sn_acl_text.proofs.Joined.{some_entry}
use Rattle.sn_acl_text.proofs.Numbers.{number_is}

-- ---- bytes that a text doesn't have

-- a byte that no letter, no digit and no dash is
abbrev Apart : ℕ → Type 0
Apart c = (c < 45) ⊎ (c ≡ 58)

digits_lack : (c : ℕ) (ds : List ℕ) → Apart c → all_ascii_digits ds ≡ true → list_all (is_other c) ds ≡ true
digits_lack c [] apart all = refl
digits_lack c (d ∷ ds) apart all =
    let parts = and_parts (is_ascii_digit d) (all_ascii_digits ds) all in
    let range = and_parts _ _ parts.0 in
    let low = leb-true 48 d range.0 in
    let high = leb-true d 57 range.1 in
    and_from _ _ (ap not (ne_eqb d c (λ same. omega arith))) (digits_lack c ds apart parts.1)

letter_lacks : (c p right letter : ℕ) → Apart c → 58 < letter → is_other c (letter_of p right letter) ≡ true
letter_lacks c p right letter apart above =
    elim (contains p right) as (λ b. is_other c (cond b letter 45) ≡ true) [
      | true ↦ ap not (ne_eqb letter c (λ same. omega arith))
      | false ↦ ap not (ne_eqb 45 c (λ same. omega arith))
    ]

letters_lack : (c p : ℕ) → Apart c → list_all (is_other c) (permissions_text p) ≡ true
letters_lack c p apart =
    and_from _ _ (letter_lacks c p 4 114 apart (lit< tt)) (and_from _ _ (letter_lacks c p 2 119 apart (lit< tt)) (and_from _ _ (letter_lacks c p 1 120 apart (lit< tt)) refl))

above_lacks : (c : ℕ) (word : List ℕ) → Apart c → list_all (nat_lt 58) word ≡ true → list_all (is_other c) word ≡ true
above_lacks c [] apart all = refl
above_lacks c (b ∷ word) apart all =
    let parts = and_parts (nat_lt 58 b) (list_all (nat_lt 58) word) all in
    let above = ltb-true 58 b parts.0 in
    and_from _ _ (ap not (ne_eqb b c (λ same. omega arith))) (above_lacks c word apart parts.1)

kind_above : (t : Tag) → list_all (nat_lt 58) (kind_word t) ≡ true
kind_above UserObj = refl
kind_above (User n) = refl
kind_above GroupObj = refl
kind_above (Group n) = refl
kind_above Mask = refl
kind_above Other = refl

colon_lacks : (c : ℕ) → c < 45 → is_other c 58 ≡ true
colon_lacks c low = ap not (ne_eqb 58 c (λ same. omega arith))

entry_lacks : (c : ℕ) (e : Entry) → c < 45 → is_entry e ≡ true → list_all (is_other c) (long_entry e) ≡ true
entry_lacks c e low fits =
    let apart : Apart c = inl low in
    let letters = and_from _ _ (colon_lacks c low) (letters_lack c e.permissions apart) in
    let digits = digits_lack c (qualifier_text e.tag) apart (digits-qualifier e.tag (entry-numbers e fits).1) in
    let colon : list_all (is_other c) (58 ∷ []) ≡ true = and_from _ _ (colon_lacks c low) refl in
    list_all-append (is_other c) (kind_word e.tag ++ 58 ∷ []) (qualifier_text e.tag ++ (58 ∷ permissions_text e.permissions))
    ∙ and_from _ _
    (list_all-append (is_other c) (kind_word e.tag) (58 ∷ []) ∙ and_from _ _ (above_lacks c (kind_word e.tag) apart (kind_above e.tag)) colon)
    (list_all-append (is_other c) (qualifier_text e.tag) (58 ∷ permissions_text e.permissions) ∙ and_from _ _ digits letters)

-- ---- the parts of a text

front : (byte : ℕ) (xs ys : List ℕ) → list_all (is_other byte) xs ≡ true → before byte (xs ++ byte ∷ ys) ≡ xs
front byte xs ys lacks = ap (λ n. take n (xs ++ byte ∷ ys)) (place_of byte xs ys lacks) ∙ take_at xs (byte ∷ ys) (length xs) refl

back : (byte : ℕ) (xs ys : List ℕ) → list_all (is_other byte) xs ≡ true → after byte (xs ++ byte ∷ ys) ≡ ys
back byte xs ys lacks = ap (λ n. drop (n + 1) (xs ++ byte ∷ ys)) (place_of byte xs ys lacks) ∙ past xs
  where
    past : (zs : List ℕ) → drop (length zs + 1) (zs ++ byte ∷ ys) ≡ ys
    past [] = refl
    past (z ∷ zs) = let more : length (z ∷ zs) + 1 ≡ suc (length zs + 1) = omega arith in ap (λ n. drop n (z ∷ (zs ++ byte ∷ ys))) more ∙ past zs

no_place : (byte : ℕ) (xs : List ℕ) → list_all (is_other byte) xs ≡ true → position_or_len (λ b. b == byte) xs ≡ length xs
no_place byte [] lacks = refl
no_place byte (x ∷ xs) lacks =
    let parts = and_parts (is_other byte x) (list_all (is_other byte) xs) lacks in
    ap (λ e. cond e (1 + position_or_len (λ b. b == byte) xs) 0) parts.0 ∙ omega (arith, no_place byte xs parts.1)

whole : (byte : ℕ) (xs : List ℕ) → list_all (is_other byte) xs ≡ true → before byte xs ≡ xs
whole byte xs lacks = ap (λ n. take n xs) (no_place byte xs lacks) ∙ take_all (length xs) xs (omega arith)

nothing : (byte : ℕ) (xs : List ℕ) → list_all (is_other byte) xs ≡ true → after byte xs ≡ []
nothing byte xs lacks = ap (λ n. drop (n + 1) xs) (no_place byte xs lacks) ∙ past xs
  where
    past : (zs : List ℕ) → drop (length zs + 1) zs ≡ []
    past [] = refl
    past (z ∷ zs) = let more : length (z ∷ zs) + 1 ≡ suc (length zs + 1) = omega arith in ap (λ n. drop n (z ∷ zs)) more ∙ past zs

-- ---- one entry

abbrev fields : Entry → Fields
fields e = record { kind = kind_word e.tag; qualifier = qualifier_text e.tag; rights = permissions_text e.permissions; number = [] }

fields_again : (e : Entry) → is_entry e ≡ true → fields_of (long_entry e) ≡ fields e
fields_again e fits =
    let apart : Apart 58 = inr refl in
    let kind = kind_word e.tag in
    let qualifier = qualifier_text e.tag in
    let rights = permissions_text e.permissions in
    let rest = qualifier ++ 58 ∷ rights in
    let kind_plain = above_lacks 58 kind apart (kind_above e.tag) in
    let qualifier_plain = digits_lack 58 qualifier apart (digits-qualifier e.tag (entry-numbers e fits).1) in
    let rights_plain = letters_lack 58 e.permissions apart in
    let text : long_entry e ≡ kind ++ 58 ∷ rest = append_assoc kind (58 ∷ []) rest in
    let first : after 58 (long_entry e) ≡ rest = ap (after 58) text ∙ back 58 kind rest kind_plain in
    let second : after 58 (after 58 (long_entry e)) ≡ rights = ap (after 58) first ∙ back 58 qualifier rights qualifier_plain in
    let a : before 58 (long_entry e) ≡ kind = ap (before 58) text ∙ front 58 kind rest kind_plain in
    let b : before 58 (after 58 (long_entry e)) ≡ qualifier = ap (before 58) first ∙ front 58 qualifier rights qualifier_plain in
    let d : before 58 (after 58 (after 58 (long_entry e))) ≡ rights = ap (before 58) second ∙ whole 58 rights rights_plain in
    let n : after 58 (after 58 (after 58 (long_entry e))) ≡ [] = ap (after 58) second ∙ nothing 58 rights rights_plain in
    λ i. record { kind = a i; qualifier = b i; rights = d i; number = n i }

rights_again : (p : ℕ) → p < 8 → rights_said (permissions_text p) ≡ Some p
rights_again p small =
    let value = rights_named-text p small in
    let same : bytes_eq (permissions_text p) (permissions_text (rights_named (permissions_text p))) ≡ true = (bytes_eq-Decides (permissions_text p) (permissions_text (rights_named (permissions_text p)))).1 (ap permissions_text (sym value)) in
    ap (λ (b : Bool). cond b (Some (rights_named (permissions_text p))) None) same ∙ ap (λ v. Some v) value

numbered : (n : ℕ) → n < 2 ^ 32 → number_of (decimal n) ≡ Some n
numbered n small = number_is (decimal n) n (omega arith) refl ∙ ap (λ (b : Bool). cond b (Some n) None) (lt-ltb n 4294967296 (omega arith))

some_digits : (n : ℕ) → n < 2 ^ 32 → (length (decimal n) == 0) ≡ false
some_digits n small = let some = decimal_nonempty n (omega arith) in ne_eqb (length (decimal n)) 0 (λ none. omega arith)

-- a user or a group with a number
abbrev numbered_fields : List ℕ → ℕ → List ℕ → Fields
numbered_fields kind n rights = record { kind = kind; qualifier = decimal n; rights = rights; number = [] }

whom_again : (t : Tag) (rights : List ℕ) → qualifier_of t < 2 ^ 32 → whom_of (record { kind = kind_word t; qualifier = qualifier_text t; rights = rights; number = [] }) ≡ Some (whom t)
whom_again UserObj rights fits = refl
whom_again (User n) rights fits =
    let fields = numbered_fields (kind_word (User n)) n rights in
    ap (λ (b : Bool). cond b (plain told_as.UserObj fields) (Some (told_as.User (number_or_name (decimal n) (number_of (decimal n)))))) (some_digits n fits) ∙ ap (λ (o : Option ℕ). Some (told_as.User (number_or_name (decimal n) o))) (numbered n fits)
whom_again GroupObj rights fits = refl
whom_again (Group n) rights fits =
    let fields = numbered_fields (kind_word (Group n)) n rights in
    ap (λ (b : Bool). cond b (plain told_as.GroupObj fields) (Some (told_as.Group (number_or_name (decimal n) (number_of (decimal n)))))) (some_digits n fits) ∙ ap (λ (o : Option ℕ). Some (told_as.Group (number_or_name (decimal n) o))) (numbered n fits)
whom_again Mask rights fits = refl
whom_again Other rights fits = refl

entry_again : (e : Entry) → is_entry e ≡ true → entry_said (long_entry e) ≡ Some (told e)
entry_again e fits =
    let numbers = entry-numbers e fits in
    let letters = permissions_text e.permissions in
    ap (λ (f : Fields). with_rights (whom_of f) (rights_said f.rights)) (fields_again e fits)
    ∙ ap (λ (w : Option Whom). with_rights w (rights_said letters)) (whom_again e.tag letters numbers.1)
    ∙ ap (λ (r : Option ℕ). with_rights (Some (whom e.tag)) r) (rights_again e.permissions numbers.0)

-- ---- all entries

entries_again : (es : List Entry) → list_all is_entry es ≡ true → entries_said (map long_entry es) ≡ Some (map told es)
entries_again [] all = refl
entries_again (e ∷ es) all =
    let parts = and_parts (is_entry e) (list_all is_entry es) all in
    let words = map long_entry es in
    let same : uncommented (long_entry e) ≡ long_entry e = whole 35 (long_entry e) (entry_lacks 35 e (lit< tt) parts.0) in
    let some : (length (uncommented (long_entry e)) == 0) ≡ false = ne_eqb (length (uncommented (long_entry e))) 0 (λ none. omega (arith, some_entry e, ap length same)) in
    let is : entry_said (uncommented (long_entry e)) ≡ Some (told e) = ap entry_said same ∙ entry_again e parts.0 in
    ap (λ (b : Bool). cond b (entries_said words) (followed (entry_said (uncommented (long_entry e))) (entries_said words))) some
    ∙ ap (λ (o : Option TextEntry). followed o (entries_said words)) is ∙ ap (λ (o : Option (List TextEntry)). followed (Some (told e)) o) (entries_again es parts.1)

neither : (a b : Bool) → not a ≡ true → not b ≡ true → (a || b) ≡ false
neither true b first second = absurd (cc first)
neither false true first second = absurd (cc second)
neither false false first second = refl

none_separates : (xs : List ℕ) → list_all (is_other 44) xs ≡ true → list_all (is_other 10) xs ≡ true → AllByRecursion (λ b. is_separator b ≡ false) xs
none_separates [] comma line = tt
none_separates (x ∷ xs) comma line =
    let commas = and_parts (is_other 44 x) (list_all (is_other 44) xs) comma in
    let lines = and_parts (is_other 10 x) (list_all (is_other 10) xs) line in
    (neither (x == 44) (x == 10) commas.0 lines.0, none_separates xs commas.1 lines.1)

split_again : (e : Entry) (es : List Entry) → is_entry e ≡ true → list_all is_entry es ≡ true → slice_split is_separator (long_text (e ∷ es)) ≡ map long_entry (e ∷ es)
split_again e [] fits all =
    slice_split_none is_separator (long_entry e) (All-from_recursion (λ b. is_separator b ≡ false) (long_entry e) (none_separates (long_entry e) (entry_lacks 44 e (lit< tt) fits) (entry_lacks 10 e (lit< tt) fits)))
split_again e (f ∷ es) fits all =
    let parts = and_parts (is_entry f) (list_all is_entry es) all in
    slice_split_at is_separator (long_entry e) 44 (long_text (f ∷ es)) (All-from_recursion (λ b. is_separator b ≡ false) (long_entry e) (none_separates (long_entry e) (entry_lacks 44 e (lit< tt) fits) (entry_lacks 10 e (lit< tt) fits))) refl
    ∙ ap (λ (words : List (List ℕ)). long_entry e ∷ words) (split_again f es parts.0 parts.1)

pub written : (es : List Entry) → IsValid es → said (long_text es) ≡ Some (map told es)
written [] valid = absurd (omega (arith, valid.objects.user_obj))
written (e ∷ es) valid =
    let parts = and_parts (is_entry e) (list_all is_entry es) valid.numbers in
    ap entries_said (split_again e es parts.0 parts.1) ∙ entries_again (e ∷ es) valid.numbers
