-- What is granted with a MASK is granted without it.
use Rattle.std.proofs.Common.{◌≡◌, ℕ, Bool, true, false, cond, List, [], ◌∷◌, refl, ap, ◌∙◌, Option, Some, None}
use Rattle.std.specs.Prelude.{◌==◌, not, find, if◌then◌else◌}
use Rattle.std.specs.List.{list_any}
use Rattle.sn_acl.specs.declared.entries.Tag.{Tag}
use Rattle.sn_acl.specs.declared.entries.Tag.TheVariants.{UserObj, User, GroupObj, Group, Mask, Other}
use Rattle.sn_acl.specs.declared.entries.Entry.{Entry}
use Rattle.sn_acl.specs.Entries.{is_user_obj, is_user, is_other, is_mask}
use Rattle.sn_acl.specs.Credential.{Credential}
use Rattle.sn_acl.specs.Rights.{contains}
use Rattle.sn_acl.specs.Access.{Class, class_of, entries_of, is_held_group, limit_of, first_of, denial_in}
use Rattle.sn_acl.specs.Laws.{unmasked, IsNarrowedByMask}

-- a test that no MASK passes
abbrev IsOfOthers : (Tag → Bool) → Type 0
IsOfOthers p = (t : Tag) → is_mask t ≡ true → p t ≡ false

kept : (p : Tag → Bool) → IsOfOthers p → (es : List Entry) → entries_of p (unmasked es) ≡ entries_of p es
kept p free [] = refl
kept p free (e ∷ es) =
    let rest = kept p free es in
    let split : (b : Bool) → is_mask e.tag ≡ b → entries_of p (cond (not b) (e ∷ unmasked es) (unmasked es)) ≡ entries_of p (e ∷ es)
    = λ b. elim b as (λ v. is_mask e.tag ≡ v → entries_of p (cond (not v) (e ∷ unmasked es) (unmasked es)) ≡ entries_of p (e ∷ es)) [
      | true ↦ λ masked. rest ∙ rw (free e.tag masked) refl
      | false ↦ λ other. ap (λ xs. cond (p e.tag) (e ∷ xs) xs) rest
    ] in
    split (is_mask e.tag) refl

without-mask : (es : List Entry) → find (λ e. is_mask e.tag) (unmasked es) ≡ None
without-mask [] = refl
without-mask (e ∷ es) =
    let rest = without-mask es in
    let split : (b : Bool) → is_mask e.tag ≡ b → find (λ x. is_mask x.tag) (cond (not b) (e ∷ unmasked es) (unmasked es)) ≡ None
    = λ b. elim b as (λ v. is_mask e.tag ≡ v → find (λ x. is_mask x.tag) (cond (not v) (e ∷ unmasked es) (unmasked es)) ≡ None) [
      | true ↦ λ masked. rest
      | false ↦ λ other. rw other rest
    ] in
    split (is_mask e.tag) refl

owner-free : IsOfOthers is_user_obj
owner-free UserObj = λ h. cc
owner-free (User n) = λ h. refl
owner-free GroupObj = λ h. refl
owner-free (Group n) = λ h. refl
owner-free Mask = λ h. refl
owner-free Other = λ h. refl

user-free : (uid : ℕ) → IsOfOthers (is_user uid)
user-free uid UserObj = λ h. refl
user-free uid (User n) = λ h. cc
user-free uid GroupObj = λ h. refl
user-free uid (Group n) = λ h. refl
user-free uid Mask = λ h. refl
user-free uid Other = λ h. refl

group-free : (cred : Credential) (group : ℕ) → IsOfOthers (is_held_group cred group)
group-free cred group UserObj = λ h. refl
group-free cred group (User n) = λ h. refl
group-free cred group GroupObj = λ h. cc
group-free cred group (Group n) = λ h. cc
group-free cred group Mask = λ h. refl
group-free cred group Other = λ h. refl

other-free : IsOfOthers is_other
other-free UserObj = λ h. refl
other-free (User n) = λ h. refl
other-free GroupObj = λ h. refl
other-free (Group n) = λ h. refl
other-free Mask = λ h. refl
other-free Other = λ h. cc

same-class : (cred : Credential) (owner group : ℕ) (es : List Entry) → class_of cred owner group (unmasked es) ≡ class_of cred owner group es
same-class cred owner group es =
    rw (
      kept is_user_obj owner-free es,
      kept (is_user cred.uid) (user-free cred.uid) es,
      kept (is_held_group cred group) (group-free cred group) es,
      kept is_other other-free es,
    ) refl

no-limit : (class : Class) (es : List Entry) → limit_of class (unmasked es) ≡ None
no-limit class es =
    elim class.masked as (λ b. (if b then find (λ e. is_mask e.tag) (unmasked es) else None) ≡ None) [ true ↦ without-mask es | false ↦ refl ]

-- a denial that is none, whatever the limit was
freed : (contained : Bool) (x : Option Entry) (e : Entry) → cond contained x (Some e) ≡ None → cond contained None (Some e) ≡ None
freed true x e = λ h. refl
freed false x e = λ h. h

granted-in : (class : Class) (es : List Entry) (want : ℕ) → denial_in class es want ≡ None → denial_in class (unmasked es) want ≡ None
granted-in class es want granted =
    rw (no-limit class es) (freed (list_any (λ e. contains e.permissions want) class.members) _ (first_of class.members) granted)

pub granted-unmasked : (cred : Credential) (owner group : ℕ) (es : List Entry) (want : ℕ) → IsNarrowedByMask cred owner group es want
granted-unmasked cred owner group es want granted =
    rw (same-class cred owner group es)
    (elim (cred.uid == 0) as (λ b. (if b then None else denial_in (class_of cred owner group es) es want) ≡ None
    → (if b then None else denial_in (class_of cred owner group es) (unmasked es) want) ≡ None) [
      | true ↦ λ h. refl
      | false ↦ granted-in (class_of cred owner group es) es want
    ] granted)
