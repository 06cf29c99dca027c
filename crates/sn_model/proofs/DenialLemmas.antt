-- Each EACCES of a walk, and of a call that makes a node or looks at one, is of a place where the access rule denies.
use Rattle.std.proofs.Common.{◌≡◌, ◌⊎◌, inl, inr, ℕ, suc, ◌+◌, ◌*◌, Bool, true, false, cond, List, [], ◌∷◌, take, Option, Some, None, Result, Ok, Err, nat_le, is_none, refl, sym, ap, ◌∙◌, arith}
use Rattle.std.specs.Option.{option_and_then}
use Rattle.sn_acl.specs.declared.entries.Entry.{Entry}
use Rattle.sn_acl.specs.declared.entries.Tag.{Tag}
use Rattle.sn_acl.specs.declared.modes.Mode.{Mode}
use Rattle.sn_acl.specs.Credential.{Credential}
use Rattle.sn_acl.specs.Access.{denial_of}
use Rattle.sn_limits.specs.declared.limits.Limits.{Limits}
use Rattle.sn_walk.specs.declared.object.Object.{Object}
use Rattle.sn_walk.specs.declared.view.Attributes.{Attributes}
use Rattle.sn_walk.specs.declared.walking.Found.{Found}
use Rattle.sn_walk.specs.declared.walking.Obstacle.{Obstacle}
use Rattle.sn_walk.specs.declared.walking.Obstacle.TheVariants.{NotADirectory, Denied, Missing}
use Rattle.sn_walk.specs.declared.walking.WalkRefusal.{WalkRefusal}
use Rattle.sn_walk.specs.declared.walking.Walked.{Walked}
use Rattle.sn_walk.specs.declared.walking.Walked.TheVariants.{Root, Name}
use Rattle.sn_walk.specs.Chains.{◌>>=◌}
use Rattle.sn_walk.specs.Objects.{is_in_tree_of, number_of, root}
use Rattle.sn_walk.specs.Views.{ViewedTrees, attributes_at, child_of, is_directory}
use Rattle.sn_walk.specs.Walks.{admitted, found_at, passed, present, refusal, searched, walk_from, walk_of}
use Rattle.sn_walk.proofs.ChainLemmas.{bind_ok}
use Rattle.sn_model.specs.declared.reply.Access.{Access}
use Rattle.sn_model.specs.declared.reply.Denial.{Denial}
use Rattle.sn_model.specs.declared.reply.Errno.{Errno}
use Rattle.sn_model.specs.declared.reply.Errno.TheVariants.{Eacces, Enoent, Enotdir, Eexist, Erofs, Elimit}
use Rattle.sn_model.specs.declared.reply.Refusal.{Refusal}
use Rattle.sn_model.specs.declared.reply.Rule.TheVariants as rule
use Rattle.sn_model.specs.declared.reply.Reply.TheVariants as reply
use Rattle.sn_model.specs.declared.outcome.Outcome.{Outcome}
use Rattle.sn_model.specs.declared.session.Session.{Session}
use Rattle.sn_walk.specs.declared.object.Home.TheVariants.{Live}
use Rattle.sn_limits.specs.declared.kind.Kind.TheVariants.{Directory}
use Rattle.sn_model.specs.Tree.{Tree, least_unused, link_to, names_in}
use Rattle.sn_model.specs.World.{World, trees_of, viewed_trees}
use Rattle.sn_model.specs.Outcomes.{makes, tells}
use Rattle.sn_model.specs.FileCalls.{first_ownership}
use Rattle.sn_model.specs.Calls.{mkdir_outcome, last_name, seen, stat_outcome, status_of}
use Rattle.sn_model.specs.Tests.{plain, denied, search, write, rights_of, obstacle_refusal, walked, prefix, there, full, not_present, live, unless_denied, granted, writable_parent, has_room}
use Rattle.sn_model.specs.Denials.{led_to, at_place, IsByRule}

-- ---- walks

-- a chain fails where its first test fails, or where what follows does
pub bind_err : {A B E : Type 0} (r : Result A E) (f : A → Result B E) (e : E) → (r >>= f) ≡ Err e → (r ≡ Err e) ⊎ ((x : A) × (r ≡ Ok x) × (f x ≡ Err e))
bind_err (Ok x) f e h = inr (x, refl, h)
bind_err (Err r) f e h = let same : r ≡ e = cc in inl (ap (λ y. Err y) same)

-- the last of these names denotes something whose ACL denies search by an entry with this tag
record IsShut (trees : ViewedTrees) (cred : Credential) (start : Object) (names : List (List ℕ)) (k : ℕ) (tag : Tag) : Type 0 where
  pub object : Object
  pub place : led_to trees start (take k names) ≡ Some object
  pub attributes : Attributes
  pub has : attributes_at trees object ≡ Some attributes
  pub entry : Entry
  pub denies : denial_of cred attributes.owner attributes.group attributes.acl 1 ≡ Some entry
  pub told : tag ≡ entry.tag

module _ (trees : ViewedTrees) (cred : Credential) where
  shut_here : (place : ℕ) (directory : Object) (names : List (List ℕ)) (r : WalkRefusal) (tag : Tag) → admitted cred place (attributes_at trees directory) ≡ Err r → r.obstacle ≡ Denied tag → (r.place ≡ place) × IsShut trees cred directory names 0 tag
  unfolding led_to
  shut_here place directory names r tag e o = of (attributes_at trees directory) refl e
    where
      seen : (a : Attributes) → attributes_at trees directory ≡ Some a → (d : Option Entry) → denial_of cred a.owner a.group a.acl 1 ≡ d → searched place d ≡ Err r → (r.place ≡ place) × IsShut trees cred directory names 0 tag
      seen a is None denies f = cc
      seen a is (Some entry) denies f =
          let same : refusal place (Denied entry.tag) ≡ r = cc f in
          let told : Denied entry.tag ≡ Denied tag = ap (λ (x : WalkRefusal). x.obstacle) same ∙ o in
          (ap (λ (x : WalkRefusal). x.place) (sym same), record { object = directory; place = refl; attributes = a; has = is; entry = entry; denies = denies; told = cc told })

      of : (a : Option Attributes) → attributes_at trees directory ≡ a → admitted cred place a ≡ Err r → (r.place ≡ place) × IsShut trees cred directory names 0 tag
      of None is f =
          let same : refusal place Missing ≡ r = cc f in
          let never : Missing ≡ Denied tag = ap (λ (x : WalkRefusal). x.obstacle) same ∙ o in cc never
      of (Some a) is f = kind (is_directory a.kind) f
        where
          kind : (b : Bool) → cond b (searched place (denial_of cred a.owner a.group a.acl 1)) (Err (refusal place NotADirectory)) ≡ Err r → (r.place ≡ place) × IsShut trees cred directory names 0 tag
          kind true g = seen a is (denial_of cred a.owner a.group a.acl 1) refl g
          kind false g =
              let same : refusal place NotADirectory ≡ r = cc g in
              let never : NotADirectory ≡ Denied tag = ap (λ (x : WalkRefusal). x.obstacle) same ∙ o in cc never

  abbrev child_ok : Object → List ℕ → Result (Option Object) WalkRefusal
  child_ok directory name = Ok (child_of trees directory name)

  passed_err : (place : ℕ) (directory : Object) (name : List ℕ) (r : WalkRefusal) → passed trees cred place directory name ≡ Err r → admitted cred place (attributes_at trees directory) ≡ Err r
  passed_err place directory name r e = told (bind_err (admitted cred place (attributes_at trees directory)) (λ _. child_ok directory name) r e)
    where
      told : (admitted cred place (attributes_at trees directory) ≡ Err r) ⊎ ((x : Unit {0}) × (admitted cred place (attributes_at trees directory) ≡ Ok x) × (child_ok directory name ≡ Err r)) → admitted cred place (attributes_at trees directory) ≡ Err r
      told (inl h) = h
      told (inr h) = let never = h.2 in cc never

  pub passed_ok : (place : ℕ) (directory : Object) (name : List ℕ) (child : Option Object) → passed trees cred place directory name ≡ Ok child → child_of trees directory name ≡ child
  passed_ok place directory name child e =
      let b = bind_ok (admitted cred place (attributes_at trees directory)) (λ _. child_ok directory name) child e in
      let same : child_ok directory name ≡ Ok child = b.2 in cc same

  pub present_ok : (place : ℕ) (child : Option Object) (object : Object) → present place child ≡ Ok object → child ≡ Some object
  present_ok place None object e = cc
  present_ok place (Some x) object e = let same : x ≡ object = cc e in ap (λ (y : Object). Some y) same

  present_err : (place : ℕ) (child : Option Object) (r : WalkRefusal) (tag : Tag) → present place child ≡ Err r → r.obstacle ≡ Denied tag → ⊥
  present_err place None r tag e o =
      let same : refusal place Missing ≡ r = cc e in
      let never : Missing ≡ Denied tag = ap (λ (x : WalkRefusal). x.obstacle) same ∙ o in cc never
  present_err place (Some x) r tag e o = cc e

  led_on : (directory child : Object) (name : List ℕ) (names : List (List ℕ)) (k : ℕ) (o : Option Object) → child_of trees directory name ≡ Some child → led_to trees child (take k names) ≡ o → led_to trees directory (take (suc k) (name ∷ names)) ≡ o
  unfolding led_to
  led_on directory child name names k o e h = ap (option_and_then (λ x. led_to trees x (take k names))) e ∙ h

  shut_on : (directory child : Object) (name : List ℕ) (names : List (List ℕ)) (k : ℕ) (tag : Tag) → child_of trees directory name ≡ Some child → IsShut trees cred child names k tag → IsShut trees cred directory (name ∷ names) (suc k) tag
  shut_on directory child name names k tag e h = record { object = h.object; place = led_on directory child name names k _ e h.place; attributes = h.attributes; has = h.has; entry = h.entry; denies = h.denies; told = h.told }

  abbrev walked_ok : Walked → Result Walked WalkRefusal
  walked_ok w = Ok w

  abbrev onward : ℕ → List ℕ → List (List ℕ) → Object → Result Walked WalkRefusal
  onward place next names object = walk_from trees cred (place + 1) object next names

  abbrev further : ℕ → List ℕ → List (List ℕ) → Option Object → Result Walked WalkRefusal
  further place next names child = present place child >>= onward place next names

  abbrev Shut : ℕ → Object → List (List ℕ) → WalkRefusal → Tag → Type 0
  Shut place directory names r tag = (k : ℕ) × (r.place ≡ place + k) × IsShut trees cred directory names k tag

  shut_first : (place : ℕ) (directory : Object) (name : List ℕ) (names : List (List ℕ)) (r : WalkRefusal) (tag : Tag) → r.obstacle ≡ Denied tag → passed trees cred place directory name ≡ Err r → Shut place directory (name ∷ names) r tag
  shut_first place directory name names r tag o h = let s = shut_here place directory (name ∷ names) r tag (passed_err place directory name r h) o in (0, omega (arith, s.0), s.1)

  walk_denied : (place : ℕ) (directory : Object) (name : List ℕ) (names : List (List ℕ)) (r : WalkRefusal) (tag : Tag) → walk_from trees cred place directory name names ≡ Err r → r.obstacle ≡ Denied tag → Shut place directory (name ∷ names) r tag
  unfolding walk_from
  walk_denied place directory name [] r tag e o = told (bind_err (passed trees cred place directory name) (λ object. walked_ok (Name directory place object)) r e)
    where
      told : (passed trees cred place directory name ≡ Err r) ⊎ ((x : Option Object) × (passed trees cred place directory name ≡ Ok x) × (walked_ok (Name directory place x) ≡ Err r)) → Shut place directory (name ∷ []) r tag
      told (inl h) = shut_first place directory name [] r tag o h
      told (inr h) = let never = h.2 in cc never
  walk_denied place directory name (next ∷ names) r tag e o = told (λ object h. walk_denied (place + 1) object next names r tag h o) (bind_err (passed trees cred place directory name) (further place next names) r e)
    where
      beyond : ((object : Object) → onward place next names object ≡ Err r → Shut (place + 1) object (next ∷ names) r tag) → (child : Option Object) → child_of trees directory name ≡ child → (present place child ≡ Err r) ⊎ ((x : Object) × (present place child ≡ Ok x) × (onward place next names x ≡ Err r)) → Shut place directory (name ∷ next ∷ names) r tag
      beyond ih child is (inl h) = absurd (present_err place child r tag h o)
      beyond ih child is (inr h) =
          let d = ih h.0 h.2 in
          (suc d.0, omega (arith, d.1), shut_on directory h.0 name (next ∷ names) d.0 tag (is ∙ present_ok place child h.0 h.1) d.2)

      told : ((object : Object) → onward place next names object ≡ Err r → Shut (place + 1) object (next ∷ names) r tag) → (passed trees cred place directory name ≡ Err r) ⊎ ((x : Option Object) × (passed trees cred place directory name ≡ Ok x) × (further place next names x ≡ Err r)) → Shut place directory (name ∷ next ∷ names) r tag
      told ih (inl h) = shut_first place directory name (next ∷ names) r tag o h
      told ih (inr h) = beyond ih h.0 (passed_ok place directory name h.0 h.1) (bind_err (present place h.0) (onward place next names) r h.2)

  -- where a walk ends, its directory is at its place
  pub walk_led : (place : ℕ) (directory : Object) (name : List ℕ) (names : List (List ℕ)) (at : Object) (end : ℕ) (last : Option Object) → walk_from trees cred place directory name names ≡ Ok (Name at end last) → (k : ℕ) × (end ≡ place + k) × (led_to trees directory (take k (name ∷ names)) ≡ Some at)
  unfolding walk_from led_to
  walk_led place directory name [] at end last e =
      let b = bind_ok (passed trees cred place directory name) (λ object. Ok (Name directory place object)) (Name at end last) e in
      let same : Name directory place b.0 ≡ Name at end last = cc (b.2) in
      let here : directory ≡ at = cc same in
      let count : place ≡ end = cc same in
      (0, omega (arith, count), ap (λ (x : Object). Some x) here)
  walk_led place directory name (next ∷ names) at end last e =
      let b = bind_ok (passed trees cred place directory name) (λ child. present place child >>= (λ object. walk_from trees cred (place + 1) object next names)) (Name at end last) e in
      let p = bind_ok (present place b.0) (λ object. walk_from trees cred (place + 1) object next names) (Name at end last) b.2 in
      let d = walk_led (place + 1) p.0 next names at end last p.2 in
      (suc d.0, omega (arith, d.1), led_on directory p.0 name (next ∷ names) d.0 (Some at) (passed_ok place directory name b.0 b.1 ∙ present_ok place b.0 p.0 p.1) d.2)

-- ---- tests

abbrev refused : {A : Type 0} → Refusal → Result A Refusal
refused r = Err r

-- a refusal that is another isn't EACCES
other : (e : Errno) (r : Refusal) → refused {A = Unit {0}} (plain e) ≡ Err r → r.errno ≡ Eacces → e ≡ Eacces
other e r h is = let same : plain e ≡ r = cc h in ap (λ (x : Refusal). x.errno) same ∙ is

-- what a refusal of a path's test is, where it is EACCES
pub record IsDeniedAt (trees : ViewedTrees) (cred : Credential) (path : ℕ) (names : List (List ℕ)) (r : Refusal) : Type 0 where
  pub denial : Denial
  pub carried : r.denial ≡ Some denial
  pub path_is : denial.path ≡ path
  pub by_rule : IsByRule trees cred names denial

abbrev granted_ok : Attributes → Result Attributes Refusal
granted_ok a = Ok a

module _ (trees : ViewedTrees) (cred : Credential) (path : ℕ) where
  denied_by : (names : List (List ℕ)) (place : ℕ) (want : Access) (object : Object) (a : Attributes) (entry : Entry) (r : Refusal) → at_place trees names place ≡ Some object → attributes_at trees object ≡ Some a → denial_of cred a.owner a.group a.acl (rights_of want) ≡ Some entry → denied path place want entry.tag ≡ r → IsDeniedAt trees cred path names r
  denied_by names place want object a entry r at has denies same = record {
    denial = record { path = path; place = place; want = want; rule = rule.Entry entry.tag };
    carried = ap (λ (x : Refusal). x.denial) (sym same);
    path_is = refl;
    by_rule = record { object = object; place = at; attributes = a; has = has; entry = entry; denies = denies; told = refl };
  }

  pub prefix_denied : (names : List (List ℕ)) (r : Refusal) → prefix trees cred path names ≡ Err r → r.errno ≡ Eacces → IsDeniedAt trees cred path names r
  prefix_denied [] r e is = cc
  prefix_denied (name ∷ names) r e is = told (walk_from trees cred 0 root name names) refl e
    where
      stopped : (w : WalkRefusal) → walk_from trees cred 0 root name names ≡ Err w → (o : Obstacle) → w.obstacle ≡ o → obstacle_refusal path w.place o ≡ r → IsDeniedAt trees cred path (name ∷ names) r
      stopped w f NotADirectory h same = let never : Enotdir ≡ Eacces = ap (λ (x : Refusal). x.errno) same ∙ is in cc never
      stopped w f Missing h same = let never : Enoent ≡ Eacces = ap (λ (x : Refusal). x.errno) same ∙ is in cc never
      stopped w f (Denied tag) h same =
          let d = walk_denied trees cred 0 root name names w tag f h in
          let s = d.2 in
          let at : w.place ≡ d.0 = omega (arith, d.1) in
          denied_by (name ∷ names) w.place search s.object s.attributes s.entry r (ap (λ (n : ℕ). led_to trees root (take n (name ∷ names))) at ∙ s.place) s.has s.denies (ap (λ (t : Tag). denied path w.place search t) (sym s.told) ∙ same)

      told : (w : Result Walked WalkRefusal) → walk_from trees cred 0 root name names ≡ w → walked path w ≡ Err r → IsDeniedAt trees cred path (name ∷ names) r
      told (Ok v) f g = cc g
      told (Err w) f g = let same : obstacle_refusal path w.place w.obstacle ≡ r = cc g in stopped w f w.obstacle refl same

  pub there_other : (o : Option Found) (r : Refusal) → there o ≡ Err r → r.errno ≡ Eacces → ⊥
  there_other None r e is = let never : Enoent ≡ Eacces = (let same : plain Enoent ≡ r = cc e in ap (λ (x : Refusal). x.errno) same ∙ is) in cc never
  there_other (Some x) r e is = cc e

  pub full_denied : (names : List (List ℕ)) (r : Refusal) → full trees cred path names ≡ Err r → r.errno ≡ Eacces → IsDeniedAt trees cred path names r
  full_denied names r e is = told (bind_err (prefix trees cred path names) (λ w. there (found_at trees w)) r e)
    where
      told : (prefix trees cred path names ≡ Err r) ⊎ ((w : Walked) × (prefix trees cred path names ≡ Ok w) × (there (found_at trees w) ≡ Err r)) → IsDeniedAt trees cred path names r
      told (inl h) = prefix_denied names r h is
      told (inr h) = absurd (there_other (found_at trees h.0) r h.2 is)

  -- an access is denied by what is at its place
  pub granted_denied : (names : List (List ℕ)) (place : ℕ) (want : Access) (object : Object) (r : Refusal) → at_place trees names place ≡ Some object → granted cred path place want (attributes_at trees object) ≡ Err r → r.errno ≡ Eacces → IsDeniedAt trees cred path names r
  granted_denied names place want object r at e is = told (attributes_at trees object) refl e
    where
      entry_told : (a : Attributes) → attributes_at trees object ≡ Some a → (d : Option Entry) → denial_of cred a.owner a.group a.acl (rights_of want) ≡ d → unless_denied path place want d ≡ Err r → IsDeniedAt trees cred path names r
      entry_told a has None f g = cc g
      entry_told a has (Some entry) f g = let same : denied path place want entry.tag ≡ r = cc g in denied_by names place want object a entry r at has f same

      asked : (a : Attributes) → attributes_at trees object ≡ Some a → (unless_denied path place want (denial_of cred a.owner a.group a.acl (rights_of want)) ≡ Err r) ⊎ ((x : Unit {0}) × (unless_denied path place want (denial_of cred a.owner a.group a.acl (rights_of want)) ≡ Ok x) × (granted_ok a ≡ Err r)) → IsDeniedAt trees cred path names r
      asked a has (inl h) = entry_told a has (denial_of cred a.owner a.group a.acl (rights_of want)) refl h
      asked a has (inr h) = let never = h.2 in cc never

      told : (o : Option Attributes) → attributes_at trees object ≡ o → granted cred path place want o ≡ Err r → IsDeniedAt trees cred path names r
      told None has f = let never : Enoent ≡ Eacces = (let same : plain Enoent ≡ r = cc f in ap (λ (x : Refusal). x.errno) same ∙ is) in cc never
      told (Some a) has f = asked a has (bind_err (unless_denied path place want (denial_of cred a.owner a.group a.acl (rights_of want))) (λ _. granted_ok a) r f)

-- ---- calls

pub not_present_other : (w : Walked) (r : Refusal) → not_present w ≡ Err r → r.errno ≡ Eacces → ⊥
not_present_other Root r e is = let never : Eexist ≡ Eacces = (let same : plain Eexist ≡ r = cc e in ap (λ (x : Refusal). x.errno) same ∙ is) in cc never
not_present_other (Name at end None) r e is = cc e
not_present_other (Name at end (Some x)) r e is = let never : Eexist ≡ Eacces = (let same : plain Eexist ≡ r = cc e in ap (λ (x : Refusal). x.errno) same ∙ is) in cc never

pub live_other : (o : Object) (r : Refusal) → live o ≡ Err r → r.errno ≡ Eacces → ⊥
live_other o r e is = told (is_in_tree_of o root) e
  where
    told : (b : Bool) → cond b (Ok (number_of o)) (Err (plain Erofs)) ≡ Err r → ⊥
    told true f = cc f
    told false f = let never : Erofs ≡ Eacces = (let same : plain Erofs ≡ r = cc f in ap (λ (x : Refusal). x.errno) same ∙ is) in cc never

abbrev some_room : Result (Unit {0}) Refusal
some_room = Ok tt

pub room_other : (limits : Limits) (tree : Tree) (directory : ℕ) (r : Refusal) → has_room limits tree directory ≡ Err r → r.errno ≡ Eacces → ⊥
room_other limits tree directory r e is = told (is_none (least_unused limits tree)) (nat_le limits.names (names_in tree directory)) e
  where
    full_up : plain Elimit ≡ r → ⊥
    full_up same = let never : Elimit ≡ Eacces = ap (λ (x : Refusal). x.errno) same ∙ is in cc never

    told : (a b : Bool) → cond a (refused (plain Elimit)) (cond b (refused (plain Elimit)) some_room) ≡ Err r → ⊥
    told true b f = full_up (cc f)
    told false true f = full_up (cc f)
    told false false f = cc f

-- the directory that a new name is to be in is at its place
vacant_at : (trees : ViewedTrees) (cred : Credential) (names : List (List ℕ)) (w : Walked) (v : Object × ℕ) → walk_of trees cred names ≡ Ok w → not_present w ≡ Ok v → at_place trees names v.1 ≡ Some v.0
vacant_at trees cred names Root v e f = cc f
vacant_at trees cred names (Name at end (Some x)) v e f = cc f
vacant_at trees cred [] (Name at end None) v e f = cc e
vacant_at trees cred (name ∷ names) (Name at end None) v e f =
    let d = walk_led trees cred 0 root name names at end None e in
    let same : (at, end) ≡ v = cc f in
    let place : end ≡ d.0 = omega (arith, d.1) in
    ap (λ (p : Object × ℕ). at_place trees (name ∷ names) p.1) (sym same) ∙ ap (λ (n : ℕ). at_place trees (name ∷ names) n) place ∙ d.2 ∙ ap (λ (p : Object × ℕ). Some p.0) same

pub prefix_ok : (path : ℕ) (r : Result Walked WalkRefusal) (w : Walked) → walked path r ≡ Ok w → r ≡ Ok w
prefix_ok path (Ok v) w e = let same : v ≡ w = cc e in ap (λ (x : Walked). Ok x) same
prefix_ok path (Err r) w e = cc e

module _ (limits : Limits) (world : World) (s : Session) (names : List (List ℕ)) (mode : Mode) (r : Refusal) (is : r.errno ≡ Eacces) where
  abbrev trees : ViewedTrees
  trees = viewed_trees (trees_of world)

  abbrev Denied_there : Type 0
  Denied_there = IsDeniedAt trees s.cred 1 names r

  abbrev last_of_mkdir : ℕ → Attributes → Result Outcome Refusal
  last_of_mkdir directory parent = Ok (makes (2 * limits.inode_charge + limits.block_charge) (link_to directory (last_name names)) Directory (first_ownership Directory s mode parent ((trees.tree Live).default_acl directory)))

  abbrev roomy : ℕ → Attributes → Result Outcome Refusal
  roomy d p = has_room limits world.live d >>= (λ _. last_of_mkdir d p)

  abbrev parented : Object × ℕ → ℕ → Result Outcome Refusal
  parented v d = writable_parent trees s.cred 1 v.1 v.0 >>= (λ p. roomy d p)

  abbrev alive : Object × ℕ → Result Outcome Refusal
  alive v = live v.0 >>= (λ d. parented v d)

  in_room : (d : ℕ) (p : Attributes) → roomy d p ≡ Err r → ⊥
  in_room d p e = told (bind_err (has_room limits world.live d) (λ _. last_of_mkdir d p) r e)
    where
      told : (has_room limits world.live d ≡ Err r) ⊎ ((x : Unit {0}) × (has_room limits world.live d ≡ Ok x) × (last_of_mkdir d p ≡ Err r)) → ⊥
      told (inl h) = room_other limits world.live d r h is
      told (inr h) = let never = h.2 in cc never

  in_parent : (v : Object × ℕ) (d : ℕ) → at_place trees names v.1 ≡ Some v.0 → parented v d ≡ Err r → Denied_there
  in_parent v d at e = told (bind_err (writable_parent trees s.cred 1 v.1 v.0) (λ p. roomy d p) r e)
    where
      told : (writable_parent trees s.cred 1 v.1 v.0 ≡ Err r) ⊎ ((p : Attributes) × (writable_parent trees s.cred 1 v.1 v.0 ≡ Ok p) × (roomy d p ≡ Err r)) → Denied_there
      told (inl h) = granted_denied trees s.cred 1 names v.1 write v.0 r at h is
      told (inr h) = absurd (in_room d h.0 h.2)

  in_live : (v : Object × ℕ) → at_place trees names v.1 ≡ Some v.0 → alive v ≡ Err r → Denied_there
  in_live v at e = told (bind_err (live v.0) (λ d. parented v d) r e)
    where
      told : (live v.0 ≡ Err r) ⊎ ((d : ℕ) × (live v.0 ≡ Ok d) × (parented v d ≡ Err r)) → Denied_there
      told (inl h) = absurd (live_other v.0 r h is)
      told (inr h) = in_parent v h.0 at h.2

  in_name : (w : Walked) → walk_of trees s.cred names ≡ Ok w → (not_present w >>= alive) ≡ Err r → Denied_there
  in_name w f e = told (bind_err (not_present w) alive r e)
    where
      told : (not_present w ≡ Err r) ⊎ ((v : Object × ℕ) × (not_present w ≡ Ok v) × (alive v ≡ Err r)) → Denied_there
      told (inl h) = absurd (not_present_other w r h is)
      told (inr h) = in_live h.0 (vacant_at trees s.cred names w h.0 f h.1) h.2

  pub mkdir_denied : mkdir_outcome limits (seen limits world) s names mode ≡ Err r → Denied_there
  unfolding mkdir_outcome
  mkdir_denied e = told (bind_err (prefix trees s.cred 1 names) (λ w. not_present w >>= alive) r e)
    where
      told : (prefix trees s.cred 1 names ≡ Err r) ⊎ ((w : Walked) × (prefix trees s.cred 1 names ≡ Ok w) × ((not_present w >>= alive) ≡ Err r)) → Denied_there
      told (inl h) = prefix_denied trees s.cred 1 names r h is
      told (inr h) = in_name h.0 (prefix_ok 1 (walk_of trees s.cred names) h.0 h.1) h.2

  abbrev stat_tells : Found → Result Outcome Refusal
  stat_tells found = Ok (tells (reply.Status (status_of (number_of found.object) found.attributes)))

  pub stat_denied : stat_outcome trees s names ≡ Err r → Denied_there
  unfolding stat_outcome
  stat_denied e = told (bind_err (full trees s.cred 1 names) stat_tells r e)
    where
      told : (full trees s.cred 1 names ≡ Err r) ⊎ ((x : Found) × (full trees s.cred 1 names ≡ Ok x) × (stat_tells x ≡ Err r)) → Denied_there
      told (inl h) = full_denied trees s.cred 1 names r h is
      told (inr h) = let never = h.2 in cc never
