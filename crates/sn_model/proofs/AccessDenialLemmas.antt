-- The calls that ask for rights and set them refuse an access, and grant one, by the access rule.
use Rattle.std.proofs.Common.{◌≡◌, ◌⊎◌, inl, inr, ℕ, ◌+◌, Bool, true, false, cond, List, [], ◌∷◌, length, take, Option, Some, None, Result, Ok, Err, ◌||◌, ◌==◌, refl, sym, ap, ◌∙◌, arith}
use Rattle.std.specs.Prelude.{unwrap_or}
use Rattle.std.specs.Option.{option_and_then}
use Rattle.std.proofs.Math.Seq.{take-length}
use Rattle.sn_acl.specs.declared.entries.Entry.{Entry}
use Rattle.sn_acl.specs.Access.{denial_of}
use Rattle.sn_acl.specs.Credential.{Credential, is_member}
use Rattle.sn_limits.specs.declared.limits.Limits.{Limits}
use Rattle.sn_walk.specs.declared.object.Object.{Object}
use Rattle.sn_walk.specs.declared.view.Attributes.{Attributes}
use Rattle.sn_walk.specs.declared.walking.Found.{Found}
use Rattle.sn_walk.specs.declared.walking.Walked.{Walked}
use Rattle.sn_walk.specs.declared.walking.Walked.TheVariants.{Root, Name}
use Rattle.sn_walk.specs.Chains.{◌>>=◌}
use Rattle.sn_walk.specs.Objects.{root}
use Rattle.sn_walk.specs.Views.{ViewedTrees, attributes_at, is_directory}
use Rattle.sn_walk.specs.Walks.{found_as, found_at, passed, present, walk_from, walk_of}
use Rattle.sn_walk.proofs.ChainLemmas.{bind_ok}
use Rattle.sn_model.specs.declared.change.Change.TheVariants.{SetAttributes}
use Rattle.sn_model.specs.declared.reply.Access.{Access}
use Rattle.sn_model.specs.declared.reply.Errno.{Errno}
use Rattle.sn_model.specs.declared.reply.Errno.TheVariants.{Eacces, Einval, Eperm}
use Rattle.sn_model.specs.declared.reply.Refusal.{Refusal}
use Rattle.sn_model.specs.declared.reply.Reply.TheVariants as reply
use Rattle.sn_model.specs.declared.reply.Rule.{Rule}
use Rattle.sn_model.specs.declared.reply.Rule.TheVariants as rule
use Rattle.sn_model.specs.declared.session.Session.{Session}
use Rattle.sn_model.specs.AccessCalls.{AclKind, OfAccess, OfDefault, ModeBits, NewAcl, access_outcome, acl_at, by_owner, chmod_outcome, chown_outcome, getacl_outcome, given_to, has_acl, kind_of, live_if, ownership_at, setacl_outcome, to_group, to_owner, with_acl, with_mode_bits}
use Rattle.sn_model.specs.AccessLaws.{IsGranted, IsDeniedOn, EachDeniesByRule}
use Rattle.sn_model.specs.Denials.{at_place, led_to}
use Rattle.sn_model.specs.Outcomes.{Outcome, tells, does}
use Rattle.sn_model.specs.Tests.{forbidden, full, granted, live, plain, prefix, rights_of, there, unless_denied}
use Rattle.sn_model.proofs.AccessCallLemmas.{full_has, some_found, there_is}
use Rattle.sn_model.proofs.DecisionLemmas.{ok, walked_ok}
use Rattle.sn_model.proofs.DenialLemmas.{IsDeniedAt, bind_err, full_denied, granted_denied, live_other, passed_ok, present_ok}

-- ---- what a path leads to

module _ (trees : ViewedTrees) (cred : Credential) where
  abbrev IsLed : Object → List (List ℕ) → ℕ → ℕ → Object → Type 0
  IsLed start names place end object = (end + 1 ≡ place + length names) × (led_to trees start names ≡ Some object)

  leads : (place : ℕ) (directory : Object) (name : List ℕ) (names : List (List ℕ)) (at : Object) (end : ℕ) (o : Object) → walk_from trees cred place directory name names ≡ Ok (Name at end (Some o)) → IsLed directory (name ∷ names) place end o
  unfolding walk_from led_to
  leads place directory name [] at end o e =
      let b = bind_ok (passed trees cred place directory name) (λ object. Ok (Name directory place object)) (Name at end (Some o)) e in
      let same : Name directory place b.0 ≡ Name at end (Some o) = cc (b.2) in
      let count : place ≡ end = cc same in
      let child : b.0 ≡ Some o = cc same in
      (omega (arith, count), ap (option_and_then (λ x. led_to trees x [])) (passed_ok trees cred place directory name b.0 b.1 ∙ child))
  leads place directory name (next ∷ names) at end o e =
      let b = bind_ok (passed trees cred place directory name) (λ child. present place child >>= (λ object. walk_from trees cred (place + 1) object next names)) (Name at end (Some o)) e in
      let p = bind_ok (present place b.0) (λ object. walk_from trees cred (place + 1) object next names) (Name at end (Some o)) b.2 in
      let d = leads (place + 1) p.0 next names at end o p.2 in
      (omega (arith, d.0), ap (option_and_then (λ x. led_to trees x (next ∷ names))) (passed_ok trees cred place directory name b.0 b.1 ∙ present_ok trees cred place b.0 p.0 p.1) ∙ d.1)

  not_root : (place : ℕ) (directory : Object) (name : List ℕ) (names : List (List ℕ)) → walk_from trees cred place directory name names ≡ Ok Root → ⊥
  unfolding walk_from
  not_root place directory name [] e = let b = bind_ok (passed trees cred place directory name) (λ object. Ok (Name directory place object)) Root e in let never = b.2 in cc never
  not_root place directory name (next ∷ names) e =
      let b = bind_ok (passed trees cred place directory name) (λ child. present place child >>= (λ object. walk_from trees cred (place + 1) object next names)) Root e in
      let p = bind_ok (present place b.0) (λ object. walk_from trees cred (place + 1) object next names) Root b.2 in
      not_root (place + 1) p.0 next names p.2

  -- what is found is at its place, the path's last
  abbrev pub IsAt : List (List ℕ) → Found → Type 0
  IsAt names found = (found.place ≡ length names) × (led_to trees root names ≡ Some found.object)

  placed : (names : List (List ℕ)) (place : ℕ) (o : Object) (a : Option Attributes) (found : Found) → place ≡ length names → led_to trees root names ≡ Some o → found_as place o a ≡ Some found → IsAt names found
  placed names place o None found count led e = cc
  placed names place o (Some a) found count led e =
      let same = some_found (record { object = o; place = place; attributes = a }) found e in
      (ap (λ (f : Found). f.place) (sym same) ∙ count, led ∙ ap (λ (f : Found). Some f.object) same)

  pub found_led : (names : List (List ℕ)) (w : Walked) (found : Found) → walk_of trees cred names ≡ Ok w → found_at trees w ≡ Some found → IsAt names found
  unfolding led_to
  found_led [] Root found e f = placed [] 0 root (attributes_at trees root) found refl refl f
  found_led [] (Name at end o) found e f = cc e
  found_led (name ∷ names) Root found e f = absurd (not_root 0 root name names e)
  found_led (name ∷ names) (Name at end None) found e f = cc f
  found_led (name ∷ names) (Name at end (Some o)) found e f =
      let d = leads 0 root name names at end o e in
      placed (name ∷ names) (end + 1) o (attributes_at trees o) found (omega (arith, d.0)) d.1 f

  pub full_led : (names : List (List ℕ)) (found : Found) → full trees cred 1 names ≡ Ok found → IsAt names found
  full_led names found e =
      let w = bind_ok (prefix trees cred 1 names) (λ w. there (found_at trees w)) found e in
      found_led names w.0 found (walked_ok 1 (walk_of trees cred names) w.0 w.1) (there_is (found_at trees w.0) found w.2)

  pub found_there : (names : List (List ℕ)) (found : Found) → IsAt names found → at_place trees names found.place ≡ Some found.object
  found_there names found at = ap (λ (n : ℕ). led_to trees root (take n names)) at.0 ∙ ap (led_to trees root) (take-length names) ∙ at.1

-- ---- tests that refuse with another error

abbrev pass : Result (Unit {0}) Refusal
pass = Ok tt

not_so : (x r : Refusal) (e : Errno) → x ≡ r → r.errno ≡ Eacces → x.errno ≡ e → e ≡ Eacces
not_so x r e same is has = sym has ∙ ap (λ (y : Refusal). y.errno) same ∙ is

-- a rule that is no entry refuses with EPERM
pub rule_other : (b : Bool) (place : ℕ) (which : Rule) (r : Refusal) → cond b pass (Err (forbidden 1 place which)) ≡ Err r → r.errno ≡ Eacces → ⊥
rule_other true place which r e is = cc e
rule_other false place which r e is = let same : forbidden 1 place which ≡ r = cc e in let never = not_so (forbidden 1 place which) r Eperm same is refl in cc never

owner_other : (cred : Credential) (found : Found) (r : Refusal) → by_owner cred 1 found ≡ Err r → r.errno ≡ Eacces → ⊥
owner_other cred found r = rule_other (cred.uid == 0 || cred.uid == found.attributes.owner) found.place rule.NotOwner r

to_owner_other : (cred : Credential) (found : Found) (uid : Option ℕ) (r : Refusal) → to_owner cred 1 found uid ≡ Err r → r.errno ≡ Eacces → ⊥
to_owner_other cred found uid r = rule_other (cred.uid == 0 || unwrap_or uid found.attributes.owner == found.attributes.owner) found.place rule.NotRoot r

to_group_other : (cred : Credential) (found : Found) (gid : Option ℕ) (r : Refusal) → to_group cred 1 found gid ≡ Err r → r.errno ≡ Eacces → ⊥
to_group_other cred found gid r = rule_other (cred.uid == 0 || unwrap_or gid found.attributes.group == found.attributes.group || is_member cred (unwrap_or gid found.attributes.group)) found.place rule.NotMember r

acl_other : (kind : AclKind) (a : Attributes) (r : Refusal) → has_acl kind a ≡ Err r → r.errno ≡ Eacces → ⊥
acl_other OfAccess a r e is = cc e
acl_other OfDefault a r e is = told (is_directory a.kind) e
  where
    told : (b : Bool) → cond b pass (Err (plain Einval)) ≡ Err r → ⊥
    told true f = cc f
    told false f = let same : plain Einval ≡ r = cc f in let never = not_so (plain Einval) r Einval same is refl in cc never

pub live_if_other : (b : Bool) (o : Object) (r : Refusal) → live_if b o ≡ Err r → r.errno ≡ Eacces → ⊥
live_if_other false o r e is = cc e
live_if_other true o r e is = told (bind_err (live o) (λ _. pass) r e)
  where
    told : (live o ≡ Err r) ⊎ ((n : ℕ) × (live o ≡ Ok n) × (pass ≡ Err r)) → ⊥
    told (inl h) = live_other o r h is
    told (inr h) = let never = h.2 in cc never

-- ---- the calls

module _ (trees : ViewedTrees) (s : Session) (names : List (List ℕ)) (r : Refusal) (is : r.errno ≡ Eacces) where
  abbrev Denied_here : Type 0
  Denied_here = IsDeniedOn trees s.cred names r

  denied_on : IsDeniedAt trees s.cred 1 names r → Denied_here
  denied_on d = record { denial = d.denial; carried = d.carried; path = d.path_is; by_rule = d.by_rule }

  -- a call that looks its path up, and then only refuses with EACCES what the access rule denies
  behind_full : (f : Found → Result Outcome Refusal) → ((found : Found) → full trees s.cred 1 names ≡ Ok found → f found ≡ Err r → Denied_here) → (full trees s.cred 1 names >>= f) ≡ Err r → Denied_here
  behind_full f more e = told (bind_err (full trees s.cred 1 names) f r e)
    where
      told : (full trees s.cred 1 names ≡ Err r) ⊎ ((x : Found) × (full trees s.cred 1 names ≡ Ok x) × (f x ≡ Err r)) → Denied_here
      told (inl h) = denied_on (full_denied trees s.cred 1 names r h is)
      told (inr h) = more h.0 h.1 h.2

  -- a test that never refuses with EACCES
  behind : {A : Type 0} (test : Result A Refusal) (f : A → Result Outcome Refusal) → (test ≡ Err r → ⊥) → ((x : A) → f x ≡ Err r → Denied_here) → (test >>= f) ≡ Err r → Denied_here
  behind test f never more e = told (bind_err test f r e)
    where
      told : (test ≡ Err r) ⊎ ((x : _) × (test ≡ Ok x) × (f x ≡ Err r)) → Denied_here
      told (inl h) = absurd (never h)
      told (inr h) = more h.0 h.2

  chmod_denied : (limits : Limits) (bits : ModeBits) → chmod_outcome limits trees s names bits ≡ Err r → Denied_here
  unfolding chmod_outcome
  chmod_denied limits bits =
      let last = λ (x : Found) (n : ℕ). ok (does limits.inode_charge (SetAttributes n (with_mode_bits s.cred x.attributes bits (ownership_at trees x)))) in
      behind_full (λ x. live x.object >>= (λ n. by_owner s.cred 1 x >>= (λ _. last x n))) (λ x _.
      behind (live x.object) (λ n. by_owner s.cred 1 x >>= (λ _. last x n)) (λ h. live_other x.object r h is) (λ n.
      behind (by_owner s.cred 1 x) (λ _. last x n) (λ h. owner_other s.cred x r h is) (λ _ h. cc h)))

  chown_denied : (limits : Limits) (uid gid : Option ℕ) → chown_outcome limits trees s names uid gid ≡ Err r → Denied_here
  unfolding chown_outcome
  chown_denied limits uid gid =
      let last = λ (x : Found) (n : ℕ). ok (does limits.inode_charge (SetAttributes n (given_to s.cred x.attributes uid gid (ownership_at trees x)))) in
      let joined = λ (x : Found) (n : ℕ). to_group s.cred 1 x gid >>= (λ _. last x n) in
      let kept = λ (x : Found) (n : ℕ). to_owner s.cred 1 x uid >>= (λ _. joined x n) in
      behind_full (λ x. live x.object >>= (λ n. by_owner s.cred 1 x >>= (λ _. kept x n))) (λ x _.
      behind (live x.object) (λ n. by_owner s.cred 1 x >>= (λ _. kept x n)) (λ h. live_other x.object r h is) (λ n.
      behind (by_owner s.cred 1 x) (λ _. kept x n) (λ h. owner_other s.cred x r h is) (λ _.
      behind (to_owner s.cred 1 x uid) (λ _. joined x n) (λ h. to_owner_other s.cred x uid r h is) (λ _.
      behind (to_group s.cred 1 x gid) (λ _. last x n) (λ h. to_group_other s.cred x gid r h is) (λ _ h. cc h)))))

  access_denied : (want : Access) → access_outcome trees s names want ≡ Err r → Denied_here
  unfolding access_outcome
  access_denied want =
      behind_full (λ x. live_if want.write x.object >>= (λ _. granted s.cred 1 x.place want (Some x.attributes) >>= (λ _. ok (tells reply.Done)))) (λ x found.
      behind (live_if want.write x.object) (λ _. granted s.cred 1 x.place want (Some x.attributes) >>= (λ _. ok (tells reply.Done))) (λ h. live_if_other want.write x.object r h is) (λ _ h.
      asked x found (bind_err (granted s.cred 1 x.place want (Some x.attributes)) (λ _. ok (tells reply.Done)) r h)))
    where
      asked : (x : Found) → full trees s.cred 1 names ≡ Ok x → (granted s.cred 1 x.place want (Some x.attributes) ≡ Err r) ⊎ ((a : Attributes) × (granted s.cred 1 x.place want (Some x.attributes) ≡ Ok a) × (ok (tells reply.Done) ≡ Err r)) → Denied_here
      asked x found (inl h) =
          let has = full_has trees s names x found in
          denied_on (granted_denied trees s.cred 1 names x.place want x.object r (found_there trees s.cred names x (full_led trees s.cred names x found)) (ap (granted s.cred 1 x.place want) has ∙ h) is)
      asked x found (inr h) = let never = h.2 in cc never

  getacl_denied : (kind : AclKind) → getacl_outcome trees s names kind ≡ Err r → Denied_here
  unfolding getacl_outcome
  getacl_denied kind =
      behind_full (λ x. has_acl kind x.attributes >>= (λ _. ok (tells (reply.Acl (acl_at trees kind x))))) (λ x _.
      behind (has_acl kind x.attributes) (λ _. ok (tells (reply.Acl (acl_at trees kind x)))) (λ h. acl_other kind x.attributes r h is) (λ _ h. cc h))

  setacl_denied : (limits : Limits) (acl : NewAcl) → setacl_outcome limits trees s names acl ≡ Err r → Denied_here
  unfolding setacl_outcome
  setacl_denied limits acl =
      let last = λ (x : Found) (n : ℕ). ok (does limits.inode_charge (SetAttributes n (with_acl acl (ownership_at trees x)))) in
      behind_full (λ x. has_acl (kind_of acl) x.attributes >>= (λ _. live x.object >>= (λ n. by_owner s.cred 1 x >>= (λ _. last x n)))) (λ x _.
      behind (has_acl (kind_of acl) x.attributes) (λ _. live x.object >>= (λ n. by_owner s.cred 1 x >>= (λ _. last x n))) (λ h. acl_other (kind_of acl) x.attributes r h is) (λ _.
      behind (live x.object) (λ n. by_owner s.cred 1 x >>= (λ _. last x n)) (λ h. live_other x.object r h is) (λ n.
      behind (by_owner s.cred 1 x) (λ _. last x n) (λ h. owner_other s.cred x r h is) (λ _ h. cc h))))

pub denies : (limits : Limits) (trees : ViewedTrees) (s : Session) (names : List (List ℕ)) → EachDeniesByRule limits trees s names
denies limits trees s names = record {
  chmod = λ bits r e is. chmod_denied trees s names r is limits bits e;
  chown = λ uid gid r e is. chown_denied trees s names r is limits uid gid e;
  access = λ want r e is. access_denied trees s names r is want e;
  getacl = λ kind r e is. getacl_denied trees s names r is kind e;
  setacl = λ acl r e is. setacl_denied trees s names r is limits acl e;
}

-- ---- an access that passes

unless_ok : (place : ℕ) (want : Access) (d : Option Entry) (u : Unit {0}) → unless_denied 1 place want d ≡ Ok u → d ≡ None
unless_ok place want None u e = refl
unless_ok place want (Some entry) u e = cc e

pub grants : (trees : ViewedTrees) (s : Session) (names : List (List ℕ)) (want : Access) (o : Outcome) → access_outcome trees s names want ≡ Ok o → IsGranted trees s.cred names want
unfolding access_outcome
grants trees s names want o e =
    let x = bind_ok (full trees s.cred 1 names) (λ x. live_if want.write x.object >>= (λ _. granted s.cred 1 x.place want (Some x.attributes) >>= (λ _. ok (tells reply.Done)))) o e in
    let l = bind_ok (live_if want.write x.0.object) (λ _. granted s.cred 1 x.0.place want (Some x.0.attributes) >>= (λ _. ok (tells reply.Done))) o x.2 in
    let g = bind_ok (granted s.cred 1 x.0.place want (Some x.0.attributes)) (λ _. ok (tells reply.Done)) o l.2 in
    let u = bind_ok (unless_denied 1 x.0.place want (denial_of s.cred x.0.attributes.owner x.0.attributes.group x.0.attributes.acl (rights_of want))) (λ _. ok x.0.attributes) g.0 g.1 in
    record {
      object = x.0.object;
      led = (full_led trees s.cred names x.0 x.1).1;
      attributes = x.0.attributes;
      has = full_has trees s names x.0 x.1;
      grants = unless_ok x.0.place want (denial_of s.cred x.0.attributes.owner x.0.attributes.group x.0.attributes.acl (rights_of want)) u.0 u.1;
    }
