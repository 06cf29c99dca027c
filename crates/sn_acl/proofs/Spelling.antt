-- A text spells the ACL whose text it is, and no other.
use Rattle.std.proofs.Common.{◌≡◌, ℕ, ◌<◌, ◌^◌, ◌⊎◌, Bool, true, false, cond, eqb, ◌&&◌, List, [], ◌∷◌, ◌++◌, length, map, Option, Some, None, refl, inl, inr, lit<, eq-eqb, arith, ap, subst, ◌∙◌}
use Rattle.std.specs.Prelude.{decimal}
use Rattle.std.specs.List.{AllByRecursion, list_all, slice_split}
use Rattle.std.specs.Char.{is_ascii_digit}
use Rattle.std.specs.Str.{all_ascii_digits, bytes_eq}
use Rattle.std.specs.Str.Parse.{digits_value}
use Rattle.std.proofs.lemmas.Bool.{leb-true, ne_eqb}
use Rattle.std.proofs.lemmas.Fmt.{decimal_is_IsNumeral, decimal_nonempty}
use Rattle.std.proofs.lemmas.List.{append-nil}
use Rattle.std.proofs.lemmas.List.Elements.{All-from_recursion}
use Rattle.std.proofs.lemmas.List.Splits.{slice_split_at, slice_split_none}
use Rattle.std.proofs.lemmas.Slice.Eq.{bytes_eq-Decides}
use Rattle.sn_acl.specs.declared.entries.Tag.{Tag}
use Rattle.sn_acl.specs.declared.entries.Tag.TheVariants.{UserObj, User, GroupObj, Group, Mask, Other}
use Rattle.sn_acl.specs.declared.entries.Entry.{Entry}
use Rattle.sn_acl.specs.Rights.{contains, letter_of, permissions_text, rights_named}
use Rattle.sn_acl.specs.Entries.{qualifier_of}
use Rattle.sn_acl.specs.AccessList.{IsValid, is_acl, is_entry}
use Rattle.sn_acl.specs.Text.{entry_text, more_text, acl_text, kind_letter, qualifier_text, qualified, tag_named, entry_named, entries_named, acl_of}
use Rattle.sn_acl.proofs.ModeLemmas.{both}
use Rattle.sn_acl.proofs.RightsLemmas.{rights_named-text}
use Rattle.sn_acl.proofs.Reading.{digits-qualifier, entry-numbers, entry-with}
use Rattle.sn_acl.proofs.Validity.{valid-from_test, test-from_valid}

-- no byte is the separator
abbrev Lacks : ℕ → List ℕ → Type 0
Lacks separator text = AllByRecursion (λ b. eqb b separator ≡ false) text

uncut : (separator : ℕ) (text : List ℕ) → Lacks separator text → slice_split (λ b. eqb b separator) text ≡ text ∷ []
uncut separator text lacks = slice_split_none (λ b. eqb b separator) text (All-from_recursion (λ b. eqb b separator ≡ false) text lacks)

cut : (separator : ℕ) (text more : List ℕ) → Lacks separator text → slice_split (λ b. eqb b separator) (text ++ (separator ∷ more)) ≡ text ∷ slice_split (λ b. eqb b separator) more
cut separator text more lacks = slice_split_at (λ b. eqb b separator) text separator more (All-from_recursion (λ b. eqb b separator ≡ false) text lacks) (eq-eqb separator separator refl)

-- a comma and a colon are no letter, no dash and no digit
abbrev Separates : ℕ → Type 0
Separates c = (c ≡ 44) ⊎ (c ≡ 58)

digits-lack : (c : ℕ) (ds more : List ℕ) → Separates c → all_ascii_digits ds ≡ true → Lacks c more → Lacks c (ds ++ more)
digits-lack c [] more = λ out all rest. rest
digits-lack c (d ∷ ds) more = λ out all rest.
    let parts = both (is_ascii_digit d) (all_ascii_digits ds) all in
    let range = both _ _ parts.0 in
    let low = leb-true 48 d range.0 in
    let high = leb-true d 57 range.1 in
    (ne_eqb d c (λ same. omega arith), digits-lack c ds more out parts.1 rest)

letter-lacks : (c p right letter : ℕ) → Separates c → 58 < letter → eqb (letter_of p right letter) c ≡ false
letter-lacks c p right letter out above =
    elim (contains p right) as (λ b. eqb (cond b letter 45) c ≡ false) [
      | true ↦ ne_eqb letter c (λ same. omega arith)
      | false ↦ ne_eqb 45 c (λ same. omega arith)
    ]

letters-lack : (c p : ℕ) → Separates c → Lacks c (permissions_text p)
letters-lack c p out = (letter-lacks c p 4 114 out (lit< tt), (letter-lacks c p 2 119 out (lit< tt), (letter-lacks c p 1 120 out (lit< tt), tt)))

kind-lacks : (c : ℕ) (t : Tag) → Separates c → eqb (kind_letter t) c ≡ false
kind-lacks c UserObj = λ out. ne_eqb 117 c (λ same. omega arith)
kind-lacks c (User n) = λ out. ne_eqb 117 c (λ same. omega arith)
kind-lacks c GroupObj = λ out. ne_eqb 103 c (λ same. omega arith)
kind-lacks c (Group n) = λ out. ne_eqb 103 c (λ same. omega arith)
kind-lacks c Mask = λ out. ne_eqb 109 c (λ same. omega arith)
kind-lacks c Other = λ out. ne_eqb 111 c (λ same. omega arith)

-- ---- one entry

entry-lacks : (e : Entry) → is_entry e ≡ true → Lacks 44 (entry_text e)
entry-lacks e fits =
    let comma : Separates 44 = inl refl in
    let numbers = entry-numbers e fits in
    let letters : Lacks 44 (58 ∷ permissions_text e.permissions) = (refl, letters-lack 44 e.permissions comma) in
    (kind-lacks 44 e.tag comma, (refl, digits-lack 44 (qualifier_text e.tag) (58 ∷ permissions_text e.permissions) comma (digits-qualifier e.tag numbers.1) letters))

-- an entry's words are its kind, its qualifier and its letters
entry-words : (e : Entry) → is_entry e ≡ true
    → slice_split (λ b. eqb b 58) (entry_text e) ≡ (kind_letter e.tag ∷ []) ∷ qualifier_text e.tag ∷ permissions_text e.permissions ∷ []
entry-words e fits =
    let colon : Separates 58 = inr refl in
    let numbers = entry-numbers e fits in
    let kind : Lacks 58 (kind_letter e.tag ∷ []) = (kind-lacks 58 e.tag colon, tt) in
    let digits : Lacks 58 (qualifier_text e.tag) = subst (Lacks 58) (append-nil (qualifier_text e.tag)) (digits-lack 58 (qualifier_text e.tag) [] colon (digits-qualifier e.tag numbers.1) tt) in
    cut 58 (kind_letter e.tag ∷ []) (qualifier_text e.tag ++ (58 ∷ permissions_text e.permissions)) kind
    ∙ ap (λ (ws : List (List ℕ)). (kind_letter e.tag ∷ []) ∷ ws)
    (cut 58 (qualifier_text e.tag) (permissions_text e.permissions) digits
    ∙ ap (λ (ws : List (List ℕ)). qualifier_text e.tag ∷ ws)
    (uncut 58 (permissions_text e.permissions) (letters-lack 58 e.permissions colon)))

numbered : (plain : Tag) (named : ℕ → Tag) (n : ℕ) → n < 2 ^ 64 → qualified plain named (decimal n) ≡ named n
numbered plain named n small = some (decimal n) (decimal_nonempty n small) ∙ ap named (decimal_is_IsNumeral n small).1
  where
    some : (ds : List ℕ) → 0 < length ds → qualified plain named ds ≡ named (digits_value 10 ds)
    some [] = λ none. absurd (omega arith)
    some (d ∷ ds) = λ one. refl

tag-again : (t : Tag) → qualifier_of t < 2 ^ 32 → tag_named (kind_letter t ∷ []) (qualifier_text t) ≡ t
tag-again UserObj = λ fits. refl
tag-again (User n) = λ fits. numbered UserObj User n (omega arith)
tag-again GroupObj = λ fits. refl
tag-again (Group n) = λ fits. numbered GroupObj Group n (omega arith)
tag-again Mask = λ fits. refl
tag-again Other = λ fits. refl

entry-again : (e : Entry) → is_entry e ≡ true → entry_named (slice_split (λ b. eqb b 58) (entry_text e)) ≡ e
entry-again e fits =
    let numbers = entry-numbers e fits in
    ap entry_named (entry-words e fits)
    ∙ (entry-with (tag_named (kind_letter e.tag ∷ []) (qualifier_text e.tag)) (rights_named (permissions_text e.permissions)) e.permissions (rights_named-text e.permissions numbers.0)
    ∙ ap tagged (tag-again e.tag numbers.1))
  where
    tagged : Tag → Entry
    tagged t = record { tag = t; permissions = e.permissions }

-- ---- all entries

words-again : (e : Entry) (es : List Entry) → is_entry e ≡ true → list_all is_entry es ≡ true
    → slice_split (λ b. eqb b 44) (entry_text e ++ more_text es) ≡ map entry_text (e ∷ es)
words-again e [] = λ fits all.
    ap (slice_split (λ b. eqb b 44)) (append-nil (entry_text e)) ∙ uncut 44 (entry_text e) (entry-lacks e fits)
words-again e (f ∷ fs) = λ fits all.
    let parts = both (is_entry f) (list_all is_entry fs) all in
    cut 44 (entry_text e) (entry_text f ++ more_text fs) (entry-lacks e fits)
    ∙ ap (λ (ws : List (List ℕ)). entry_text e ∷ ws) (words-again f fs parts.0 parts.1)

entries-again : (es : List Entry) → list_all is_entry es ≡ true → map (λ word. entry_named (slice_split (λ b. eqb b 58) word)) (map entry_text es) ≡ es
entries-again [] = λ all. refl
entries-again (e ∷ es) = λ all.
    let parts = both (is_entry e) (list_all is_entry es) all in
    let first = entry-again e parts.0 in
    let others = entries-again es parts.1 in
    rw (first, others) refl

named-again : (es : List Entry) → IsValid es → entries_named (acl_text es) ≡ es
named-again [] = λ valid. absurd (omega (arith, valid.objects.user_obj))
named-again (e ∷ es) = λ valid.
    let parts = both (is_entry e) (list_all is_entry es) valid.numbers in
    ap (map (λ word. entry_named (slice_split (λ b. eqb b 58) word))) (words-again e es parts.0 parts.1) ∙ entries-again (e ∷ es) valid.numbers

-- ---- the ACL that a text spells

pub spelled : (text : List ℕ) (es : List Entry) → IsValid es → text ≡ acl_text es → acl_of text ≡ Some es
unfolding acl_of
spelled text es valid is =
    let named : entries_named text ≡ es = ap entries_named is ∙ named-again es valid in
    let passes : is_acl es ≡ true = test-from_valid es valid in
    let same : bytes_eq text (acl_text es) ≡ true = (bytes_eq-Decides text (acl_text es)).1 is in
    rw (named, passes, same) refl

chosen : (b : Bool) (x y : List Entry) → cond b (Some x) None ≡ Some y → (b ≡ true) × (x ≡ y)
chosen true x y e = (refl, cc)
chosen false x y e = cc

pub spells : (text : List ℕ) (es : List Entry) → acl_of text ≡ Some es → IsValid es × (text ≡ acl_text es)
unfolding acl_of
spells text es e =
    let named = entries_named text in
    let (passes, is) = chosen (is_acl named && bytes_eq text (acl_text named)) named es e in
    let parts = both (is_acl named) (bytes_eq text (acl_text named)) passes in
    subst (λ (x : List Entry). IsValid x × (text ≡ acl_text x)) is (valid-from_test named parts.0, (bytes_eq-Decides text (acl_text named)).0 parts.1)

-- a text that no valid ACL has
unspelled : (read : Option (List Entry)) → ((es : List Entry) → read ≡ Some es → ⊥) → None ≡ read
unspelled None none = refl
unspelled (Some es) none = absurd (none es refl)

pub spells-none : (text : List ℕ) → ((es : List Entry) → IsValid es → text ≡ acl_text es → ⊥) → None ≡ acl_of text
spells-none text none = unspelled (acl_of text) (λ es e. let found = spells text es e in none es found.0 found.1)
