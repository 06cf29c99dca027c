-- The calls on files by their names refuse with EACCES only what the access rule denies.
use Rattle.std.proofs.Common.{◌≡◌, ◌⊎◌, inl, inr, ℕ, Bool, true, false, cond, List, [], ◌∷◌, Option, Some, None, Result, Ok, Err, refl, sym, ap, ◌∙◌, arith, not, ◌||◌, ◌==◌, ◌+◌, ◌*◌}
use Rattle.sn_acl.specs.Credential.{Credential}
use Rattle.sn_acl.specs.declared.modes.Mode.{Mode}
use Rattle.sn_limits.specs.declared.kind.Kind.TheVariants.{File}
use Rattle.sn_limits.specs.declared.limits.Limits.{Limits}
use Rattle.sn_walk.specs.declared.object.Home.{Home}
use Rattle.sn_walk.specs.declared.object.Object.{Object}
use Rattle.sn_walk.specs.declared.object.Object.TheVariants as object
use Rattle.sn_walk.specs.declared.view.Attributes.{Attributes}
use Rattle.sn_walk.specs.declared.walking.Found.{Found}
use Rattle.sn_walk.specs.declared.walking.Walked.{Walked}
use Rattle.sn_walk.specs.declared.walking.Walked.TheVariants.{Root, Name}
use Rattle.sn_walk.specs.Chains.{◌>>=◌}
use Rattle.sn_walk.specs.Objects.{number_of, root}
use Rattle.sn_walk.specs.Views.{ViewedTrees, is_directory}
use Rattle.sn_walk.specs.Walks.{found_at, walk_of}
use Rattle.std.specs.Prelude.{ok_or}
use Rattle.sn_model.specs.declared.change.Change.TheVariants.{Remove}
use Rattle.sn_model.specs.Outcomes.{does}
use Rattle.sn_model.specs.declared.reply.Errno.{Errno}
use Rattle.sn_model.specs.declared.reply.Errno.TheVariants.{Eacces, Eexist, Eisdir, Emfile, Enoent, Eperm}
use Rattle.sn_model.specs.declared.reply.Refusal.{Refusal}
use Rattle.sn_model.specs.declared.reply.Rule.TheVariants as rule
use Rattle.sn_model.specs.declared.session.Session.{Session}
use Rattle.sn_model.specs.AccessCalls.{live_if}
use Rattle.sn_model.specs.Calls.{seen}
use Rattle.sn_model.specs.Denials.{at_place}
use Rattle.sn_model.specs.Descriptors.{Descriptors, next_descriptor}
use Rattle.sn_model.specs.FileCalls.{OpenFlags, access_of, creating, file, file_of, first_ownership, no_directory, not_exclusive, open_absent, open_found, open_outcome, open_there, opens_new, opens_there, unlink_outcome}
use Rattle.sn_model.specs.Seen.{last_name, parent_of}
use Rattle.sn_model.specs.Tests.{granted, has_room, live, plain, prefix, sticky, there, write, writable_parent}
use Rattle.sn_model.specs.Tree.{viewed}
use Rattle.sn_model.specs.World.{World, trees_of, viewed_trees}
use Rattle.sn_model.proofs.AccessCallLemmas.{found_has}
use Rattle.sn_model.proofs.AccessDenialLemmas.{found_led, found_there, live_if_other, rule_other}
use Rattle.sn_model.proofs.DecisionLemmas.{ok}
use Rattle.sn_model.proofs.DenialLemmas.{IsDeniedAt, bind_err, granted_denied, live_other, prefix_denied, prefix_ok, room_other, there_other, walk_led}
use Rattle.sn_model.proofs.OtherLemmas.{plain_other, refuses}

abbrev pass : Result (Unit {0}) Refusal
pass = Ok tt

abbrev stop : Errno → Result (Unit {0}) Refusal
stop errno = Err (plain errno)

-- the directory of a path's last name is at its place
pub parent_led : (trees : ViewedTrees) (cred : Credential) (names : List (List ℕ)) (without : Errno) (w : Walked) (v : Object × ℕ) → walk_of trees cred names ≡ Ok w → parent_of without w ≡ Ok v → at_place trees names v.1 ≡ Some v.0
parent_led trees cred names without Root v e f = cc f
parent_led trees cred [] without (Name at end o) v e f = cc e
parent_led trees cred (name ∷ names) without (Name at end o) v e f =
    let d = walk_led trees cred 0 root name names at end o e in
    let same : (at, end) ≡ v = cc f in
    let place : end ≡ d.0 = omega (arith, d.1) in
    ap (λ (p : Object × ℕ). at_place trees (name ∷ names) p.1) (sym same) ∙ ap (λ (n : ℕ). at_place trees (name ∷ names) n) place ∙ d.2 ∙ ap (λ (p : Object × ℕ). Some p.0) same

module _ (r : Refusal) (is : r.errno ≡ Eacces) where
  pub parent_other : (without : Errno) → (without ≡ Eacces → ⊥) → (w : Walked) → parent_of without w ≡ Err r → ⊥
  parent_other without apart Root e = plain_other without r apart e is
  parent_other without apart (Name at end o) e = cc e

  directory_other : (found : Found) → no_directory found ≡ Err r → ⊥
  directory_other found e = told (is_directory found.attributes.kind) e
    where
      told : (b : Bool) → cond b (stop Eperm) pass ≡ Err r → ⊥
      told true f = plain_other Eperm r (λ q. cc q) f is
      told false f = cc f

  pub sticky_other : (cred : Credential) (parent : Attributes) (found : Found) → sticky cred 1 parent found ≡ Err r → ⊥
  sticky_other cred parent found e = rule_other (not parent.sticky || cred.uid == 0 || cred.uid == found.attributes.owner || cred.uid == parent.owner) found.place rule.Sticky r e is

  file_other : (found : Found) (x : Object) → file_of found x ≡ Err r → ⊥
  file_other found object.Snapshots e = plain_other Eisdir r (λ q. cc q) e is
  file_other found (object.Node home number) e = told (is_directory found.attributes.kind) e
    where
      pair : Home × ℕ
      pair = (home, number)

      told : (b : Bool) → cond b (refuses (plain Eisdir)) (ok pair) ≡ Err r → ⊥
      told true f = plain_other Eisdir r (λ q. cc q) f is
      told false f = cc f

  given_other : (o : Option ℕ) → ok_or o (plain Emfile) ≡ Err r → ⊥
  given_other None e = plain_other Emfile r (λ q. cc q) e is
  given_other (Some fd) e = cc e

  exclusive_other : (flags : OpenFlags) → not_exclusive flags ≡ Err r → ⊥
  exclusive_other flags e = told flags.exclusive e
    where
      told : (b : Bool) → cond b (stop Eexist) pass ≡ Err r → ⊥
      told true f = plain_other Eexist r (λ q. cc q) f is
      told false f = cc f

  module _ (trees : ViewedTrees) (s : Session) (names : List (List ℕ)) where
    abbrev pub Denied : Type 0
    Denied = IsDeniedAt trees s.cred 1 names r

    -- a test, and what follows it
    pub then : {A B : Type 0} (test : Result A Refusal) (f : A → Result B Refusal) → (test ≡ Err r → Denied) → ((x : A) → test ≡ Ok x → f x ≡ Err r → Denied) → (test >>= f) ≡ Err r → Denied
    then test f first more e = told (bind_err test f r e)
      where
        told : (test ≡ Err r) ⊎ ((x : _) × (test ≡ Ok x) × (f x ≡ Err r)) → Denied
        told (inl h) = first h
        told (inr h) = more h.0 h.1 h.2

    pub unlink_denied : (limits : Limits) → unlink_outcome limits trees s names ≡ Err r → Denied
    unfolding unlink_outcome
    unlink_denied limits =
        let last = λ (at : Object × ℕ). ok (does (3 * limits.inode_charge + limits.block_charge) (Remove (number_of at.0) (last_name names))) in
        let behind = λ (w : Walked) (f : Found). parent_of Eperm w >>= (λ at. writable_parent trees s.cred 1 at.1 at.0 >>= (λ parent. sticky s.cred 1 parent f >>= (λ _. last at))) in
        then (prefix trees s.cred 1 names) (λ w. there (found_at trees w) >>= (λ f. no_directory f >>= (λ _. live f.object >>= (λ _. behind w f)))) (λ h. prefix_denied trees s.cred 1 names r h is) (λ w walked.
        then (there (found_at trees w)) (λ f. no_directory f >>= (λ _. live f.object >>= (λ _. behind w f))) (λ h. absurd (there_other trees s.cred 1 (found_at trees w) r h is)) (λ f found.
        then (no_directory f) (λ _. live f.object >>= (λ _. behind w f)) (λ h. absurd (directory_other f h)) (λ u no.
        then (live f.object) (λ _. behind w f) (λ h. absurd (live_other f.object r h is)) (λ n alive.
        then (parent_of Eperm w) (λ at. writable_parent trees s.cred 1 at.1 at.0 >>= (λ parent. sticky s.cred 1 parent f >>= (λ _. last at))) (λ h. absurd (parent_other Eperm (λ q. cc q) w h)) (λ at parent.
        then (writable_parent trees s.cred 1 at.1 at.0) (λ parent. sticky s.cred 1 parent f >>= (λ _. last at)) (λ h. granted_denied trees s.cred 1 names at.1 write at.0 r (parent_led trees s.cred names Eperm w at (prefix_ok 1 (walk_of trees s.cred names) w walked) parent) h is) (λ p granted.
        then (sticky s.cred 1 p f) (λ _. last at) (λ h. absurd (sticky_other s.cred p f h)) (λ _ _ h. cc h)))))))

    there_denied : (limits : Limits) (fd : ℕ) (flags : OpenFlags) (w : Walked) (found : Found) → walk_of trees s.cred names ≡ Ok w → found_at trees w ≡ Some found → open_there limits s fd flags found ≡ Err r → Denied
    unfolding open_there
    there_denied limits fd flags w found walked has =
        let last = λ (at : Home × ℕ). ok (opens_there limits flags fd at.0 at.1) in
        let asked = granted s.cred 1 found.place (access_of flags) (Some found.attributes) in
        then (not_exclusive flags) (λ _. file found >>= (λ at. live_if flags.write found.object >>= (λ _. asked >>= (λ _. last at)))) (λ h. absurd (exclusive_other flags h)) (λ u no.
        then (file found) (λ at. live_if flags.write found.object >>= (λ _. asked >>= (λ _. last at))) (λ h. absurd (file_other found found.object h)) (λ at is_file.
        then (live_if flags.write found.object) (λ _. asked >>= (λ _. last at)) (λ h. absurd (live_if_other flags.write found.object r h is)) (λ v alive.
        then asked (λ _. last at)
        (λ h. granted_denied trees s.cred 1 names found.place (access_of flags) found.object r (found_there trees s.cred names found (found_led trees s.cred names w found walked has)) (ap (granted s.cred 1 found.place (access_of flags)) (found_has trees w found has) ∙ h) is)
        (λ _ _ h. cc h))))

  module _ (limits : Limits) (world : World) (s : Session) (names : List (List ℕ)) where
    abbrev trees : ViewedTrees
    trees = viewed_trees (trees_of world)

    absent_denied : (fd : ℕ) (flags : OpenFlags) (mode : Mode) (w : Walked) → walk_of trees s.cred names ≡ Ok w → open_absent limits (seen limits world) s fd flags mode names w ≡ Err r → Denied trees s names
    unfolding open_absent
    absent_denied fd flags mode w walked =
        let last = λ (d : ℕ) (p : Attributes). ok (opens_new limits flags fd d (last_name names) (first_ownership File s mode p ((viewed world.live).default_acl d))) in
        then trees s names (creating flags) (λ _. parent_of Enoent w >>= (λ at. live at.0 >>= (λ d. writable_parent trees s.cred 1 at.1 at.0 >>= (λ p. has_room limits world.live d >>= (λ _. last d p))))) (λ h. absurd (create_other h)) (λ u no.
        then trees s names (parent_of Enoent w) (λ at. live at.0 >>= (λ d. writable_parent trees s.cred 1 at.1 at.0 >>= (λ p. has_room limits world.live d >>= (λ _. last d p)))) (λ h. absurd (parent_other Enoent (λ q. cc q) w h)) (λ at parent.
        then trees s names (live at.0) (λ d. writable_parent trees s.cred 1 at.1 at.0 >>= (λ p. has_room limits world.live d >>= (λ _. last d p))) (λ h. absurd (live_other at.0 r h is)) (λ d alive.
        then trees s names (writable_parent trees s.cred 1 at.1 at.0) (λ p. has_room limits world.live d >>= (λ _. last d p)) (λ h. granted_denied trees s.cred 1 names at.1 write at.0 r (parent_led trees s.cred names Enoent w at walked parent) h is) (λ p granted.
        then trees s names (has_room limits world.live d) (λ _. last d p) (λ h. absurd (room_other limits world.live d r h is)) (λ _ _ h. cc h)))))
      where
        create_other : creating flags ≡ Err r → ⊥
        create_other e = told flags.create e
          where
            told : (b : Bool) → cond b pass (stop Enoent) ≡ Err r → ⊥
            told true f = cc f
            told false f = plain_other Enoent r (λ q. cc q) f is

    found_denied : (fd : ℕ) (flags : OpenFlags) (mode : Mode) (w : Walked) (o : Option Found) → walk_of trees s.cred names ≡ Ok w → found_at trees w ≡ o → open_found limits (seen limits world) s fd flags mode names w o ≡ Err r → Denied trees s names
    found_denied fd flags mode w None walked has = absent_denied fd flags mode w walked
    found_denied fd flags mode w (Some found) walked has = there_denied trees s names limits fd flags w found walked has

    pub open_denied : (table : Descriptors) (session : ℕ) (flags : OpenFlags) (mode : Mode) → open_outcome limits (seen limits world) table session s names flags mode ≡ Err r → Denied trees s names
    unfolding open_outcome
    open_denied table session flags mode =
        then trees s names (next_descriptor table session) (λ fd. prefix trees s.cred 1 names >>= (λ w. open_found limits (seen limits world) s fd flags mode names w (found_at trees w))) (λ h. absurd (given_other _ h)) (λ fd some.
        then trees s names (prefix trees s.cred 1 names) (λ w. open_found limits (seen limits world) s fd flags mode names w (found_at trees w)) (λ h. prefix_denied trees s.cred 1 names r h is) (λ w walked.
        found_denied fd flags mode w (found_at trees w) (prefix_ok 1 (walk_of trees s.cred names) w walked) refl))
