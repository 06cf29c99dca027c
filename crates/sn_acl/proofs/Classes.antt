-- Which class decides, by tests on the whole list of entries.
use Rattle.std.proofs.Common.{◌≡◌, ℕ, ◌<◌, Bool, true, false, cond, List, [], ◌∷◌, refl, arith, ap, Option, Some, None, ◌∙◌, eq-eqb}
use Rattle.std.proofs.lemmas.Bool.{ne_eqb}
use Rattle.std.specs.Prelude.{◌==◌, ◌&&◌, ◌||◌, filter, find, length, unwrap_or}
use Rattle.std.specs.List.{list_any}
use Rattle.sn_acl.specs.declared.entries.Entry.{Entry}
use Rattle.sn_acl.specs.Entries.{is_user_obj, is_user, is_other}
use Rattle.sn_acl.specs.AccessList.{count_of}
use Rattle.sn_acl.specs.Access.{Class, or_else, class_of, entries_of, is_held_group, first_of, denial_in, denial_of, is_within, limit_of}
use Rattle.sn_acl.specs.Rights.{contains}
use Rattle.std.specs.Option.{UnwrapsOrElse}
use Rattle.sn_acl.specs.Matching as matching
use Rattle.sn_acl.specs.declared.access.Class as declared
use Rattle.sn_acl.specs.Credential.{Credential}

module _ {X : Type 0} where
  -- a test of what passes another
  pub any-filter : (q p : X → Bool) (xs : List X) → list_any p (filter q xs) ≡ list_any (λ x. q x && p x) xs
  any-filter q p [] = refl
  any-filter q p (x ∷ xs) =
      elim (q x) as (λ b. list_any p (cond b (x ∷ filter q xs) (filter q xs)) ≡ ((b && p x) || list_any (λ y. q y && p y) xs)) [
        | true ↦ ap (λ r. p x || r) (any-filter q p xs)
        | false ↦ any-filter q p xs
      ]

  -- what is counted is there
  pub any-counted : (q : X → Bool) (xs : List X) → 0 < length (filter q xs) → list_any q xs ≡ true
  any-counted q [] = λ counted. absurd (omega arith)
  any-counted q (x ∷ xs) =
      elim (q x) as (λ b. 0 < length (cond b (x ∷ filter q xs) (filter q xs)) → (b || list_any q xs) ≡ true) [
        | true ↦ λ _. refl
        | false ↦ any-counted q xs
      ]

-- the first that passes, or the default of an empty class
pub first-filter : (q : Entry → Bool) (xs : List Entry) → unwrap_or (find q xs) (first_of []) ≡ first_of (filter q xs)
first-filter q [] = refl
first-filter q (x ∷ xs) =
    elim (q x) as (λ b. unwrap_or (cond b (Some x) (find q xs)) (first_of []) ≡ first_of (cond b (x ∷ filter q xs) (filter q xs))) [
      | true ↦ refl
      | false ↦ first-filter q xs
    ]

pub unwrapped : (o : Option Entry) (e : Entry) → UnwrapsOrElse o (λ x. x ≡ first_of []) e → e ≡ unwrap_or o (first_of [])
unwrapped None e is = is
unwrapped (Some x) e is = is

pub or_else-found : (q : Entry → Bool) (masked : Bool) (later : Class) (xs : List Entry) → list_any q xs ≡ true → or_else (filter q xs) masked later ≡ record { members = filter q xs; masked = masked }
or_else-found q masked later [] = λ found. cc
or_else-found q masked later (x ∷ xs) =
    elim (q x) as (λ b. (b || list_any q xs) ≡ true → or_else (cond b (x ∷ filter q xs) (filter q xs)) masked later ≡ record { members = cond b (x ∷ filter q xs) (filter q xs); masked = masked }) [
      | true ↦ λ _. refl
      | false ↦ λ found. or_else-found q masked later xs found
    ]

pub or_else-absent : (q : Entry → Bool) (masked : Bool) (later : Class) (xs : List Entry) → list_any q xs ≡ false → or_else (filter q xs) masked later ≡ later
or_else-absent q masked later [] = λ absent. refl
or_else-absent q masked later (x ∷ xs) =
    elim (q x) as (λ b. (b || list_any q xs) ≡ false → or_else (cond b (x ∷ filter q xs) (filter q xs)) masked later ≡ later) [
      | true ↦ λ absent. cc
      | false ↦ λ absent. or_else-absent q masked later xs absent
    ]

-- the owner's class, where the ACL has an entry of the owner
pub for-owner : (cred : Credential) (owner group : ℕ) (es : List Entry) → cred.uid ≡ owner → 0 < count_of is_user_obj es
    → class_of cred owner group es ≡ record { members = entries_of is_user_obj es; masked = false }
for-owner cred owner group es same counted =
    let test : (cred.uid == owner) ≡ true = eq-eqb cred.uid owner same in
    rw test (or_else-found (λ e. is_user_obj e.tag) false _ es (any-counted (λ e. is_user_obj e.tag) es counted))

pub for-user : (cred : Credential) (owner group : ℕ) (es : List Entry) → (cred.uid ≡ owner → ⊥) → list_any (λ e. is_user cred.uid e.tag) es ≡ true
    → class_of cred owner group es ≡ record { members = entries_of (is_user cred.uid) es; masked = true }
for-user cred owner group es differs found =
    let test : (cred.uid == owner) ≡ false = ne_eqb cred.uid owner differs in
    rw test (or_else-found (λ e. is_user cred.uid e.tag) true _ es found)

pub for-groups : (cred : Credential) (owner group : ℕ) (es : List Entry) → (cred.uid ≡ owner → ⊥) → list_any (λ e. is_user cred.uid e.tag) es ≡ false
    → list_any (λ e. is_held_group cred group e.tag) es ≡ true
    → class_of cred owner group es ≡ record { members = entries_of (is_held_group cred group) es; masked = true }
for-groups cred owner group es differs absent found =
    let test : (cred.uid == owner) ≡ false = ne_eqb cred.uid owner differs in
    rw test (or_else-absent (λ e. is_user cred.uid e.tag) true _ es absent
    ∙ or_else-found (λ e. is_held_group cred group e.tag) true _ es found)

pub for-others : (cred : Credential) (owner group : ℕ) (es : List Entry) → (cred.uid ≡ owner → ⊥) → list_any (λ e. is_user cred.uid e.tag) es ≡ false
    → list_any (λ e. is_held_group cred group e.tag) es ≡ false
    → class_of cred owner group es ≡ record { members = entries_of is_other es; masked = false }
for-others cred owner group es differs absent strange =
    let test : (cred.uid == owner) ≡ false = ne_eqb cred.uid owner differs in
    rw test (or_else-absent (λ e. is_user cred.uid e.tag) true _ es absent
    ∙ or_else-absent (λ e. is_held_group cred group e.tag) true _ es strange)

-- What `check` answers, from what its steps found.
module _ (cred : Credential) (owner group : ℕ) (es : List Entry) (want : ℕ) (class : declared.Class)
    (other_user : cred.uid ≡ 0 → ⊥) (decides : class_of cred owner group es ≡ matching.matching class es) where
  denial : denial_of cred owner group es want ≡ denial_in (matching.matching class es) es want
  denial =
      let test : (cred.uid == 0) ≡ false = ne_eqb cred.uid 0 other_user in
      rw (test, decides) refl

  pub denied-by_first : (first : Option Entry) (e : Entry)
      → list_any (λ x. matching.is_in class x.tag && contains x.permissions want) es ≡ false
      → first ≡ find (λ x. matching.is_in class x.tag) es → UnwrapsOrElse first (λ x. x ≡ first_of []) e
      → Some e ≡ denial_of cred owner group es want
  denied-by_first first e absent is unwraps =
      let members = any-filter (λ x. matching.is_in class x.tag) (λ x. contains x.permissions want) es in
      rw (denial, members, absent, ← first-filter (λ x. matching.is_in class x.tag) es, ← is) (ap Some (unwrapped first e unwraps))

  pub granted : (limit : Option Entry)
      → list_any (λ x. matching.is_in class x.tag && contains x.permissions want) es ≡ true
      → limit ≡ limit_of (matching.matching class es) es → is_within want limit ≡ true
      → None ≡ denial_of cred owner group es want
  granted limit found is free =
      let members = any-filter (λ x. matching.is_in class x.tag) (λ x. contains x.permissions want) es in
      rw (denial, members, found, ← is, free) refl

  pub denied-by_mask : (limit : Option Entry)
      → list_any (λ x. matching.is_in class x.tag && contains x.permissions want) es ≡ true
      → limit ≡ limit_of (matching.matching class es) es → is_within want limit ≡ false
      → limit ≡ denial_of cred owner group es want
  denied-by_mask limit found is limited =
      let members = any-filter (λ x. matching.is_in class x.tag) (λ x. contains x.permissions want) es in
      rw (denial, members, found, ← is, limited) refl
