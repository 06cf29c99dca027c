-- Reading what an entry was written as.
use Rattle.std.proofs.Common.{◌≡◌, ℕ, ◌+◌, ◌*◌, ◌-◌, ◌^◌, ◌<◌, ◌≤◌, Bool, true, false, cond, List, [], ◌∷◌, ◌++◌, length, take, drop, refl, arith, ap, sym, ◌∙◌, rules, append_assoc, length-append}
use Rattle.std.specs.Prelude.{take_while}
use Rattle.std.specs.Str.{all_ascii_digits}
use Rattle.std.specs.Char.{is_ascii_digit}
use Rattle.std.proofs.lemmas.List.Sums.{take_while-cons}
use Rattle.std.proofs.lemmas.Str.Parse.{IsNumeralModel, numerals_by_fold}
use Rattle.std.proofs.lemmas.Fmt.{digits_decimal, decimal_nonempty}
use Rattle.std.proofs.lemmas.Bool.{ltb-true}
use Rattle.std.proofs.Math.Seq.{drop-append_seam}
use Rattle.sn_acl.specs.declared.entries.Tag.{Tag}
use Rattle.sn_acl.specs.declared.entries.Tag.TheVariants.{UserObj, User, GroupObj, Group, Mask, Other}
use Rattle.sn_acl.specs.declared.entries.Entry.{Entry}
use Rattle.sn_acl.specs.Rights.{permissions_text}
use Rattle.sn_acl.specs.Entries.{qualifier_of}
use Rattle.sn_acl.specs.AccessList.{IsValid, is_entry}
use Rattle.std.specs.List.{list_all}
use Rattle.sn_acl.specs.Text.{entry_text, more_text, acl_text, kind_letter, qualifier_text}
use Rattle.sn_acl.proofs.ModeLemmas.{both}
use Rattle.sn_acl.proofs.Lists.{length-valid}

module _ {X : Type 0} where
  pub length-take_while-le : (p : X → Bool) (xs : List X) → length (take_while p xs) ≤ length xs
  length-take_while-le p [] = omega arith
  length-take_while-le p (x ∷ xs) =
      let rest = length-take_while-le p xs in
      rw take_while-cons (elim (p x) as (λ b. length (cond b (x ∷ take_while p xs) []) ≤ length (x ∷ xs)) [ true ↦ omega (arith, rest) | false ↦ omega arith ])

  pub take-take_while : (p : X → Bool) (xs : List X) → take (length (take_while p xs)) xs ≡ take_while p xs
  take-take_while p [] = refl
  take-take_while p (x ∷ xs) =
      let rest = take-take_while p xs in
      rw take_while-cons (elim (p x) as (λ b. take (length (cond b (x ∷ take_while p xs) [])) (x ∷ xs) ≡ cond b (x ∷ take_while p xs) []) [ true ↦ ap (λ ys. x ∷ ys) rest | false ↦ refl ])

-- a fold over digits
abbrev read_on : ℕ → List ℕ → ℕ
read_on n [] = n
read_on n (c ∷ cs) = read_on (10 * n + (c - 48)) cs

own : IsNumeralModel (λ ds. all_ascii_digits ds ≡ true) (read_on 0)
own = numerals_by_fold _ (search rules) read_on (search rules)

-- digits end at the colon after them
digits-end : (ds more : List ℕ) → all_ascii_digits ds ≡ true → take_while is_ascii_digit (ds ++ (58 ∷ more)) ≡ ds
digits-end [] more = λ all. refl
digits-end (d ∷ ds) more = λ all.
    let parts = both (is_ascii_digit d) (all_ascii_digits ds) all in
    take_while-cons is_ascii_digit d (ds ++ (58 ∷ more)) ∙ rw (parts.0, digits-end ds more parts.1) refl

pub digits-qualifier : (t : Tag) → qualifier_of t < 2 ^ 32 → all_ascii_digits (qualifier_text t) ≡ true
digits-qualifier UserObj = λ fits. refl
digits-qualifier (User n) = λ fits. digits_decimal own n (omega arith)
digits-qualifier GroupObj = λ fits. refl
digits-qualifier (Group n) = λ fits. digits_decimal own n (omega arith)
digits-qualifier Mask = λ fits. refl
digits-qualifier Other = λ fits. refl

-- the digits and the rest after them, in the text of an entry that is followed by more
pub digits-read : (t : Tag) (p : ℕ) (more tail digits : List ℕ) → qualifier_of t < 2 ^ 32
    → tail ≡ (qualifier_text t ++ (58 ∷ permissions_text p)) ++ more → digits ≡ take_while is_ascii_digit tail → digits ≡ qualifier_text t
digits-read t p more tail digits fits is read =
    read ∙ (ap (take_while is_ascii_digit) (is ∙ append_assoc (qualifier_text t) (58 ∷ permissions_text p) more)
    ∙ digits-end (qualifier_text t) (permissions_text p ++ more) (digits-qualifier t fits))

pub rest-read : (t : Tag) (p : ℕ) (more tail rest : List ℕ) → qualifier_of t < 2 ^ 32
    → tail ≡ (qualifier_text t ++ (58 ∷ permissions_text p)) ++ more → rest ≡ drop (length (take_while is_ascii_digit tail)) tail
    → rest ≡ 58 ∷ (permissions_text p ++ more)
rest-read t p more tail rest fits is read =
    let digits = digits-read t p more tail (take_while is_ascii_digit tail) fits is refl in
    read ∙ (ap (λ ds. drop (length ds) tail) digits
    ∙ (ap (drop (length (qualifier_text t))) (is ∙ append_assoc (qualifier_text t) (58 ∷ permissions_text p) more)
    ∙ drop-append_seam (qualifier_text t) (58 ∷ (permissions_text p ++ more))))

-- a tag without a number
pub user-without : (t : Tag) → qualifier_of t < 2 ^ 32 → 117 ≡ kind_letter t → length (qualifier_text t) ≡ 0 → UserObj ≡ t
user-without UserObj = λ fits kind empty. refl
user-without (User n) = λ fits kind empty. absurd (omega (arith, decimal_nonempty n))
user-without GroupObj = λ fits kind empty. absurd (omega arith)
user-without (Group n) = λ fits kind empty. absurd (omega arith)
user-without Mask = λ fits kind empty. absurd (omega arith)
user-without Other = λ fits kind empty. absurd (omega arith)

pub group-without : (t : Tag) → qualifier_of t < 2 ^ 32 → 103 ≡ kind_letter t → length (qualifier_text t) ≡ 0 → GroupObj ≡ t
group-without UserObj = λ fits kind empty. absurd (omega arith)
group-without (User n) = λ fits kind empty. absurd (omega arith)
group-without GroupObj = λ fits kind empty. refl
group-without (Group n) = λ fits kind empty. absurd (omega (arith, decimal_nonempty n))
group-without Mask = λ fits kind empty. absurd (omega arith)
group-without Other = λ fits kind empty. absurd (omega arith)

-- the numbers of an entry
pub entry-numbers : (e : Entry) → is_entry e ≡ true → (e.permissions < 8) × (qualifier_of e.tag < 2 ^ 32)
entry-numbers e fits =
    let parts = both _ _ fits in
    (ltb-true e.permissions 8 parts.0, ltb-true (qualifier_of e.tag) 4294967296 parts.1)

-- what one reading of an entry says
abbrev pub Reads : List ℕ → Entry → List ℕ → Type 0
Reads text entry rest = (e : Entry) (more : List ℕ) → is_entry e ≡ true → text ≡ entry_text e ++ more → (entry ≡ e) × (rest ≡ more)

-- where the text is that of a valid ACL, the entries read are its first ones, and the rest is that of the others
abbrev pub IsReadUpTo : List ℕ → List Entry → List ℕ → Type 0
IsReadUpTo text kept rest = (es : List Entry) → IsValid es → text ≡ acl_text es → (others : List Entry) × (es ≡ kept ++ others) × (rest ≡ more_text others)

all-behind : (p : Entry → Bool) (xs : List Entry) (y : Entry) (ys : List Entry) → list_all p (xs ++ (y ∷ ys)) ≡ true → p y ≡ true
all-behind p [] y ys = λ all. (both (p y) (list_all p ys) all).0
all-behind p (x ∷ xs) y ys = λ all. all-behind p xs y ys (both (p x) (list_all p (xs ++ (y ∷ ys))) all).1

entry-behind : (es kept : List Entry) (e : Entry) (others : List Entry) → IsValid es → es ≡ kept ++ (e ∷ others) → is_entry e ≡ true
entry-behind es kept e others valid is = all-behind is_entry kept e others (ap (list_all is_entry) (sym is) ∙ valid.numbers)

-- the first entry
pub first-read : (text : List ℕ) (entry : Entry) (rest : List ℕ) → Reads text entry rest → IsReadUpTo text (entry ∷ []) rest
first-read text entry rest reads [] = λ valid is. absurd (omega (arith, valid.objects.user_obj))
first-read text entry rest reads (e ∷ es) = λ valid is.
    let found = reads e (more_text es) (entry-behind (e ∷ es) [] e es valid refl) is in
    (es, ap (λ x. x ∷ es) (sym found.0), found.1)

-- after a comma there is one more entry
comma : (rest : List ℕ) (tail : List ℕ) (others : List Entry) → rest ≡ 44 ∷ tail → rest ≡ more_text others
    → (e : Entry) × (os : List Entry) × (others ≡ e ∷ os) × (tail ≡ entry_text e ++ more_text os)
comma rest tail [] = λ is more. absurd (omega (arith, ap length is, ap length more))
comma rest tail (e ∷ os) = λ is more. (e, os, refl, ap (drop 1) (sym is ∙ more))

pub more-read : (text : List ℕ) (kept : List Entry) (rest tail : List ℕ) (entry : Entry) (after : List ℕ)
    → IsReadUpTo text kept rest → rest ≡ 44 ∷ tail → Reads tail entry after → IsReadUpTo text (kept ++ (entry ∷ [])) after
more-read text kept rest tail entry after so_far is reads = λ es valid whole.
    let (others, parts, more) = so_far es valid whole in
    let (e, os, split, behind) = comma rest tail others is more in
    let fits = entry-behind es kept e os valid (parts ∙ ap (λ (xs : List Entry). kept ++ xs) split) in
    let found = reads e (more_text os) fits behind in
    (os, parts ∙ (ap (λ (xs : List Entry). kept ++ xs) (split ∙ ap (λ (x : Entry). x ∷ os) (sym found.0)) ∙ sym (append_assoc kept (entry ∷ []) os)), found.1)

-- no entry after a comma
pub not-read : (text : List ℕ) (kept : List Entry) (rest tail : List ℕ)
    → IsReadUpTo text kept rest → rest ≡ 44 ∷ tail → ((e : Entry) (more : List ℕ) → is_entry e ≡ true → tail ≡ entry_text e ++ more → ⊥)
    → (es : List Entry) → IsValid es → text ≡ acl_text es → ⊥
not-read text kept rest tail so_far is none = λ es valid whole.
    let (others, parts, more) = so_far es valid whole in
    let (e, os, split, behind) = comma rest tail others is more in
    none e (more_text os) (entry-behind es kept e os valid (parts ∙ ap (λ (xs : List Entry). kept ++ xs) split)) behind

-- more entries than an ACL has
pub full-read : (text : List ℕ) (kept : List Entry) (rest tail : List ℕ)
    → IsReadUpTo text kept rest → rest ≡ 44 ∷ tail → 36 ≤ length kept
    → (es : List Entry) → IsValid es → text ≡ acl_text es → ⊥
full-read text kept rest tail so_far is full = λ es valid whole.
    let (others, parts, more) = so_far es valid whole in
    let (e, os, split, behind) = comma rest tail others is more in
    omega (arith, length-valid es valid, ap length (parts ∙ ap (λ (xs : List Entry). kept ++ xs) split), length-append kept (e ∷ os))

-- something other than a comma after the last entry
rest-empty : (rest : List ℕ) (others : List Entry) → rest ≡ more_text others → ((tail : List ℕ) → rest ≡ 44 ∷ tail → ⊥) → length rest ≡ 0
rest-empty rest [] = λ more none. ap length more
rest-empty rest (e ∷ os) = λ more none. absurd (none (entry_text e ++ more_text os) more)

pub end-read : (text : List ℕ) (kept : List Entry) (rest : List ℕ)
    → IsReadUpTo text kept rest → ((tail : List ℕ) → rest ≡ 44 ∷ tail → ⊥) → (length rest ≡ 0 → ⊥)
    → (es : List Entry) → IsValid es → text ≡ acl_text es → ⊥
end-read text kept rest so_far none some = λ es valid whole.
    let (others, parts, more) = so_far es valid whole in
    some (rest-empty rest others more none)

pub entry-with : (t : Tag) (p q : ℕ) → p ≡ q → let e : Entry = record { tag = t; permissions = p } in let f : Entry = record { tag = t; permissions = q } in e ≡ f
entry-with t p q same = let f : ℕ → Entry = λ n. record { tag = t; permissions = n } in ap f same
