use Rattle.std.proofs.Common.{arith, cond, ◌≡◌, ℕ, ◌+◌, List, [], ◌∷◌, Option, Some, None, Result, Ok, Err, refl, sym, ap, ◌∙◌, subst}
use Rattle.sn_acl.specs.Credential.{Credential}
use Rattle.std.specs.Prelude.{IsSomeAnd}
use Rattle.sn_acl.specs.Access.{denial_of}
use Rattle.sn_limits.specs.declared.kind.Kind.{Kind}
use Rattle.sn_limits.specs.declared.kind.Kind.TheVariants.{File, Directory}
use Rattle.sn_walk.specs.declared.view.Attributes.{Attributes}
use Rattle.sn_walk.specs.declared.object.Object.{Object}
use Rattle.sn_walk.specs.declared.walking.Obstacle.TheVariants.{Missing, NotADirectory}
use Rattle.sn_walk.specs.declared.walking.WalkRefusal.{WalkRefusal}
use Rattle.sn_walk.specs.declared.fault.Failure.{Failure}
use Rattle.sn_walk.specs.declared.fault.Failure.TheVariants.{Refused, Fault}
use Rattle.sn_walk.specs.Gives.{Fails}
use Rattle.sn_walk.specs.declared.walking.Walked.{Walked}
use Rattle.sn_walk.specs.declared.walking.Walked.TheVariants.{Root, Name}
use Rattle.sn_walk.specs.Views.{ViewedTrees}
use Rattle.sn_walk.specs.Views.{attributes_at, child_of, is_directory}
use Rattle.sn_walk.specs.Chains.{◌>>=◌}
use Rattle.sn_walk.specs.Walks.{EndsAfter, EndsAt, admitted, passed, present, refusal, searched, walk_from, walk_of}
use Rattle.sn_walk.proofs.ChainLemmas.{bind_ok}

-- a place that refuses is the walk's refusal
refused_on : (trees : ViewedTrees) (cred : Credential) (place : ℕ) (directory : Object) (name : List ℕ) (names : List (List ℕ)) (r : WalkRefusal) → passed trees cred place directory name ≡ Err r → walk_from trees cred place directory name names ≡ Err r
unfolding walk_from
refused_on trees cred place directory name [] r e = ap (λ p. p >>= (λ object. Ok (Name directory place object))) e
refused_on trees cred place directory name (next ∷ names) r e = ap (λ p. p >>= (λ child. present place child >>= (λ object. walk_from trees cred (place + 1) object next names))) e

pub walk-fails : {F : Type 0} (trees : ViewedTrees) (cred : Credential) (place : ℕ) (directory : Object) (name : List ℕ) (names : List (List ℕ)) (e : Failure WalkRefusal F) → Fails e (passed trees cred place directory name) → Fails e (walk_from trees cred place directory name names)
walk-fails trees cred place directory name names (Refused r) h = refused_on trees cred place directory name names r h
walk-fails trees cred place directory name names (Fault f) h = tt

pub walk-missing : (trees : ViewedTrees) (cred : Credential) (place : ℕ) (directory : Object) (name next : List ℕ) (names : List (List ℕ)) → passed trees cred place directory name ≡ Ok None → walk_from trees cred place directory name (next ∷ names) ≡ Err (refusal place Missing)
unfolding walk_from
walk-missing trees cred place directory name next names e = ap (λ p. p >>= (λ child. present place child >>= (λ object. walk_from trees cred (place + 1) object next names))) e

pub walk-on : (trees : ViewedTrees) (cred : Credential) (place : ℕ) (directory child : Object) (name next : List ℕ) (names : List (List ℕ)) → passed trees cred place directory name ≡ Ok (Some child) → walk_from trees cred place directory name (next ∷ names) ≡ walk_from trees cred (place + 1) child next names
unfolding walk_from
walk-on trees cred place directory child name next names e = ap (λ p. p >>= (λ c. present place c >>= (λ object. walk_from trees cred (place + 1) object next names))) e

pub walk-last : (trees : ViewedTrees) (cred : Credential) (place : ℕ) (directory : Object) (name : List ℕ) (object : Option Object) → passed trees cred place directory name ≡ Ok object → walk_from trees cred place directory name [] ≡ Ok (Name directory place object)
unfolding walk_from
walk-last trees cred place directory name object e = ap (λ p. p >>= (λ o. Ok (Name directory place o))) e

abbrev ok : {A : Type 0} → A → Result A WalkRefusal
ok x = Ok x

same_ok : {A : Type 0} (x y : A) → ok x ≡ Ok y → x ≡ y
same_ok x y e = cc

-- what admits a caller is a directory
admitted_directory : (cred : Credential) (place : ℕ) (o : Option Attributes) (u : Unit {0}) → admitted cred place o ≡ Ok u → IsSomeAnd o (λ a. a.kind ≡ Directory)
admitted_directory cred place None u e = cc
admitted_directory cred place (Some a) u e = of_kind a.kind refl
  where
    of_kind : (k : Kind) → a.kind ≡ k → a.kind ≡ Directory
    of_kind File is = let never : ok {A = Unit {0}} u ≡ Err (refusal place NotADirectory) = sym e ∙ ap (λ (k : Kind). cond (is_directory k) (searched place (denial_of cred a.owner a.group a.acl 1)) (Err (refusal place NotADirectory))) is in cc
    of_kind Directory is = is

ends_after : (trees : ViewedTrees) (cred : Credential) (place : ℕ) (directory : Object) (name : List ℕ) (names : List (List ℕ)) (w : Walked) → walk_from trees cred place directory name names ≡ Ok w → EndsAfter trees place name names w
unfolding walk_from
ends_after trees cred place directory name [] w e =
    let b = bind_ok (passed trees cred place directory name) (λ object. Ok (Name directory place object)) w e in
    let d = bind_ok (admitted cred place (attributes_at trees directory)) (λ _. Ok (child_of trees directory name)) b.0 b.1 in
    subst (λ (v : Walked). EndsAfter trees place name [] v) (same_ok _ _ b.2) (omega arith, sym (same_ok _ _ d.2), admitted_directory cred place (attributes_at trees directory) d.0 d.1)
ends_after trees cred place directory name (next ∷ names) w e =
    let b = bind_ok (passed trees cred place directory name) (λ child. present place child >>= (λ object. walk_from trees cred (place + 1) object next names)) w e in
    let d = bind_ok (present place b.0) (λ object. walk_from trees cred (place + 1) object next names) w b.2 in
    further w (ends_after trees cred (place + 1) d.0 next names w d.2)
  where
    further : (v : Walked) → EndsAfter trees (place + 1) next names v → EndsAfter trees place name (next ∷ names) v
    further Root h = h
    further (Name at end object) h = (omega (arith, h.0), h.1, h.2)

pub ends_at : (trees : ViewedTrees) (cred : Credential) (names : List (List ℕ)) (w : Walked) → walk_of trees cred names ≡ Ok w → EndsAt trees names w
ends_at trees cred [] w e = sym (same_ok _ _ e)
ends_at trees cred (name ∷ names) w e = ends_after trees cred 0 _ name names w e
