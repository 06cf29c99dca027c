-- What the first index of a name says.
use Rattle.std.proofs.Common.{◌≡◌, ℕ, suc, ◌+◌, Bool, true, false, cond, not, ◌||◌, List, [], ◌∷◌, length, get_or, Some, None, refl, sym, ap, ◌∙◌, arith}
use Rattle.std.specs.Prelude.{nat_lt, position, remove}
use Rattle.std.specs.List.{list_any, position_or_len}
use Rattle.std.specs.FinMap as fin
use Rattle.std.specs.Str.{bytes_eq}
use Rattle.std.proofs.lemmas.Bool.{le-ltb, lt-ltb, ltb-false, ltb-true}
use Rattle.std.proofs.lemmas.List.Quantifiers.{position-Some}
use Rattle.sn_layout.specs.declared.snapshot.Snapshot.{Snapshot}
use Rattle.sn_layout.specs.Snapshot.{are_distinct}
use Rattle.sn_snap.specs.Catalogue.{by_name, others_than}
use Rattle.sn_snap.proofs.NameLemmas.{found_at, get_is, same_bytes, unfound}
use Rattle.sn_snap.proofs.ChangeLemmas.{all_others, remove-named}

shifted : (b : Bool) (k n : ℕ) → nat_lt k n ≡ b → b ≡ nat_lt (1 + k) (suc n)
shifted true k n e = sym (lt-ltb (1 + k) (suc n) (omega (arith, ltb-true k n e)))
shifted false k n e = sym (le-ltb (1 + k) (suc n) (omega (arith, ltb-false k n e)))

any_here : (b c : Bool) (k n : ℕ) → c ≡ nat_lt k n → (b || c) ≡ nat_lt (cond (not b) (1 + k) 0) (suc n)
any_here true c k n e = sym (lt-ltb 0 (suc n) (omega arith))
any_here false c k n e = e ∙ shifted (nat_lt k n) k n refl

list_any-index : (p : Snapshot → Bool) (snapshots : List Snapshot) → list_any p snapshots ≡ nat_lt (position_or_len p snapshots) (length snapshots)
list_any-index p [] = refl
list_any-index p (s ∷ more) = any_here (p s) (list_any p more) (position_or_len p more) (length more) (list_any-index p more)

nowhere : (p : Snapshot → Bool) (snapshots : List Snapshot) → position p snapshots ≡ None → list_any p snapshots ≡ false
nowhere p snapshots e = told (nat_lt (position_or_len p snapshots) (length snapshots)) (list_any-index p snapshots) e
  where
    told : (b : Bool) → list_any p snapshots ≡ b → cond b (Some (position_or_len p snapshots)) None ≡ None → list_any p snapshots ≡ false
    told true is none = cc
    told false is none = is

-- whether a snapshot has a name
abbrev pub has : List ℕ → Snapshot → Bool
has name s = bytes_eq name s.name

pub entry_at : {X : Type 0} (f : Snapshot → X) (snapshots : List Snapshot) (name : List ℕ) (i : ℕ) (s : Snapshot) → position (has name) snapshots ≡ Some i
    → s ≡ get_or snapshots i s → fin.get (by_name f snapshots) name ≡ Some (f s)
entry_at f snapshots name i s found is =
    let at = position-Some (has name) snapshots i s found in
    get_is f snapshots name ∙ found_at f snapshots name i s at.0 at.1 at.2 ∙ ap (λ (x : Snapshot). Some (f x)) (sym is)

pub name_at : (snapshots : List Snapshot) (name : List ℕ) (i : ℕ) (s : Snapshot) → position (has name) snapshots ≡ Some i → s ≡ get_or snapshots i s → s.name ≡ name
name_at snapshots name i s found is =
    let at = position-Some (has name) snapshots i s found in
    ap (λ (x : Snapshot). x.name) is ∙ sym (same_bytes name (get_or snapshots i s).name at.1)

pub no_entry : {X : Type 0} (f : Snapshot → X) (snapshots : List Snapshot) (name : List ℕ) → position (has name) snapshots ≡ None → fin.get (by_name f snapshots) name ≡ None
no_entry f snapshots name none = get_is f snapshots name ∙ unfound f snapshots name (nowhere (has name) snapshots none)

pub taken_at : (snapshots : List Snapshot) (name : List ℕ) (i : ℕ) (d : Snapshot) → are_distinct snapshots ≡ true → position (has name) snapshots ≡ Some i
    → remove snapshots i ≡ others_than name snapshots
taken_at snapshots name i d distinct found =
    let at = position-Some (has name) snapshots i d found in
    remove-named name snapshots i d distinct at.0 at.1 at.2

pub none_taken : (snapshots : List Snapshot) (name : List ℕ) → position (has name) snapshots ≡ None → snapshots ≡ others_than name snapshots
none_taken snapshots name none = sym (all_others name snapshots (nowhere (has name) snapshots none))
