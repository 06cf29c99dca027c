-- The look-ups of a walk, place by place.
use Rattle.std.proofs.Common.{◌≡◌, ℕ, ◌+◌, List, [], ◌∷◌, ◌++◌, append_assoc, Option, Some, None, Result, Ok, Err, refl, sym, ap, ◌∙◌, subst}
use Rattle.std.proofs.lemmas.List.{append-nil}
use Rattle.sn_acl.specs.Credential.{Credential}
use Rattle.sn_walk.specs.declared.fault.Failure.{Failure}
use Rattle.sn_walk.specs.declared.fault.Failure.TheVariants.{Refused, Fault}
use Rattle.sn_walk.specs.declared.object.Object.{Object}
use Rattle.sn_walk.specs.declared.walking.WalkRefusal.{WalkRefusal}
use Rattle.sn_walk.specs.Gives.{Fails}
use Rattle.sn_walk.specs.LookUps.{LookUp, MadeInPart, MadeUntil, from_found, looks_from, looks_in, looks_at, looks_for, where_passed}
use Rattle.sn_walk.specs.Views.{ViewedTrees, attributes_at}
use Rattle.sn_walk.specs.Walks.{admitted, passed}

looks_on : (trees : ViewedTrees) (cred : Credential) (place : ℕ) (directory : Object) (name next : List ℕ) (names : List (List ℕ)) (r : Result (Option Object) WalkRefusal) → passed trees cred place directory name ≡ r
    → looks_from trees cred place directory name (next ∷ names) ≡ looks_in trees cred place directory name ++ from_found r (λ object. looks_from trees cred (place + 1) object next names)
unfolding looks_from
looks_on trees cred place directory name next names r e = ap (λ p. looks_in trees cred place directory name ++ from_found p (λ object. looks_from trees cred (place + 1) object next names)) e

-- none is made after a place that refuses
looks_refused : (trees : ViewedTrees) (cred : Credential) (place : ℕ) (directory : Object) (name : List ℕ) (names : List (List ℕ)) (r : WalkRefusal) → passed trees cred place directory name ≡ Err r → looks_from trees cred place directory name names ≡ looks_in trees cred place directory name
unfolding looks_from
looks_refused trees cred place directory name [] r e = refl
looks_refused trees cred place directory name (next ∷ names) r e = looks_on trees cred place directory name next names (Err r) e ∙ append-nil _

-- those of a place come first
looks_first : (trees : ViewedTrees) (cred : Credential) (place : ℕ) (directory : Object) (name : List ℕ) (names : List (List ℕ)) → (more : List LookUp) × (looks_from trees cred place directory name names ≡ looks_in trees cred place directory name ++ more)
unfolding looks_from
looks_first trees cred place directory name [] = ([], sym (append-nil _))
looks_first trees cred place directory name (next ∷ names) = (_, refl)

-- nor after a name that isn't there
pub looks-missing : (trees : ViewedTrees) (cred : Credential) (place : ℕ) (directory : Object) (name next : List ℕ) (names : List (List ℕ)) → passed trees cred place directory name ≡ Ok None → looks_from trees cred place directory name (next ∷ names) ≡ looks_in trees cred place directory name
looks-missing trees cred place directory name next names e = looks_on trees cred place directory name next names (Ok None) e ∙ append-nil _

pub looks-on : (trees : ViewedTrees) (cred : Credential) (place : ℕ) (directory child : Object) (name next : List ℕ) (names : List (List ℕ)) → passed trees cred place directory name ≡ Ok (Some child)
    → looks_from trees cred place directory name (next ∷ names) ≡ looks_in trees cred place directory name ++ looks_from trees cred (place + 1) child next names
looks-on trees cred place directory child name next names e = looks_on trees cred place directory name next names (Ok (Some child)) e

pub looks-last : (trees : ViewedTrees) (cred : Credential) (place : ℕ) (directory : Object) (name : List ℕ) → looks_from trees cred place directory name [] ≡ looks_in trees cred place directory name
unfolding looks_from
looks-last trees cred place directory name = refl

-- those before a place, and those of the place, where the walk ends there
pub looks-end : (Made Later : List LookUp → Type 0) (all before rest here : List LookUp) → all ≡ before ++ rest → rest ≡ here → Later here → ((more : List LookUp) → Later more → Made (before ++ more)) → Made all
looks-end Made Later all before rest here whole ends made join = subst Made (sym (whole ∙ ap (λ (l : List LookUp). before ++ l) ends)) (join here made)

-- those before a place, and those that were made at the place, where the walk stops there
pub looks-stop : {F : Type 0} (Made Later : List LookUp → Type 0) (trees : ViewedTrees) (cred : Credential) (place : ℕ) (directory : Object) (name : List ℕ) (names : List (List ℕ)) (e : Failure WalkRefusal F) (all before : List LookUp) → all ≡ before ++ looks_from trees cred place directory name names
    → Fails e (passed trees cred place directory name) → MadeUntil e Later (looks_in trees cred place directory name) → ((more : List LookUp) → Later more → Made (before ++ more)) → MadeUntil e Made all
looks-stop Made Later trees cred place directory name names (Refused r) all before whole fails made join = looks-end Made Later all before _ _ whole (looks_refused trees cred place directory name names r fails) made join
looks-stop Made Later trees cred place directory name names (Fault f) all before whole fails made join =
    let first = looks_first trees cred place directory name names in
    record {
      front = before ++ made.front;
      rest = made.rest ++ first.0;
      whole = whole ∙ ap (λ (l : List LookUp). before ++ l) (first.1 ∙ ap (λ (l : List LookUp). l ++ first.0) made.whole) ∙ simp append_assoc;
      made = join made.front made.made;
    }

-- those of a place that admits, where the name's look-up ended in a fault
pub looks-to-fault : (Made : List LookUp → Type 0) (trees : ViewedTrees) (cred : Credential) (place : ℕ) (directory : Object) (name : List ℕ) (u : Unit {0}) → admitted cred place (attributes_at trees directory) ≡ Ok u
    → Made (looks_at directory ++ looks_for directory name) → MadeInPart Made (looks_in trees cred place directory name)
looks-to-fault Made trees cred place directory name u e made = record {
  front = looks_at directory ++ looks_for directory name;
  rest = [];
  whole = ap (λ (a : Result (Unit {0}) WalkRefusal). looks_at directory ++ where_passed a (looks_for directory name)) e ∙ sym (append-nil _);
  made = made;
}
