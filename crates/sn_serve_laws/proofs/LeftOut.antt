-- A call that would set what is there.
use Rattle.std.proofs.Common.{◌≡◌, ◌+◌, ◌%◌, ◌^◌, ◌<◌, ◌==◌, ◌&&◌, ◌||◌, ℕ, Bool, true, false, cond, not, Option, None, Some, Result, Ok, Err, refl, sym, ap, subst, ◌∙◌, true≢false, arith, eq-eqb, eqb-true}
use Rattle.std.specs.Prelude.{unwrap_or}
use Rattle.std.proofs.lemmas.Bool.{lt-ltb}
use Rattle.std.proofs.lemmas.Nat.{and_block, and_le_r}
use Rattle.sn_acl.specs.Modes.{mode_bits, mode_of, with_mode}
use Rattle.sn_archive_laws.proofs.Modes.{bits_small, small}
use Rattle.sn_fuse_replies.specs.declared.answer.Attributes.{Attributes as Told}
use Rattle.sn_import.specs.declared.object.Rights.{Rights}
use Rattle.sn_import.specs.Calls.{bits_of}
use Rattle.sn_import_laws.proofs.Modes.{asked_bits, bits_argument, own_mode}
use Rattle.sn_limits.specs.declared.kind.Kind.{Kind}
use Rattle.sn_limits.specs.declared.kind.Kind.TheVariants.{Directory, File}
use Rattle.sn_model.specs.declared.argument.ModeBits.{ModeBits}
use Rattle.sn_model.specs.AccessCalls.{by_owner, chmod_outcome, chown_outcome, given_to, id_argument, keeps_set_gid, may_set_gid, mode_bits_argument, ownership_at, to_group, to_owner, with_mode_bits}
use Rattle.sn_model.specs.Calls.{status_of}
use Rattle.sn_model.specs.Outcomes.{does}
use Rattle.sn_model.specs.declared.outcome.Outcome.{Outcome}
use Rattle.sn_model.specs.Tests.{forbidden, live, plain}
use Rattle.sn_model.specs.declared.change.Change.TheVariants.{SetAttributes}
use Rattle.sn_model.specs.declared.change.Ownership.{Ownership}
use Rattle.sn_model.specs.declared.reply.Errno.TheVariants.{Einval}
use Rattle.sn_model.specs.declared.reply.Refusal.{Refusal}
use Rattle.sn_model.specs.declared.reply.Rule.TheVariants as rule
use Rattle.sn_model.specs.declared.session.Session.{Session}
use Rattle.sn_serve_files.specs.Flags.{has}
use Rattle.sn_serve_names.specs.Entries.{attributes_of, bit_if, kind_bits}
use Rattle.sn_serve_setattr.specs.Flags.{has_mode, has_owner, is_live, is_owner, keeps_all, sets_group, sets_user, value_if}
use Rattle.sn_walk.specs.Chains.{◌>>=◌}
use Rattle.sn_walk.specs.Views.{ViewedTrees, is_directory}
use Rattle.sn_walk.specs.declared.walking.Found.{Found}
use Rattle.sn_serve_laws.specs.Laws.{ChmodIsLeftOut, ChownIsLeftOut}

-- ---- what is known

three : (a b c : Bool) → (a && b && c) ≡ true → (a ≡ true) × (b ≡ true) × (c ≡ true)
three true true true h = (refl, refl, refl)
three true true false h = cc
three true false c h = cc
three false b c h = cc

two : (a b : Bool) → (a && b) ≡ true → (a ≡ true) × (b ≡ true)
two true b h = (refl, h)
two false b h = cc

either : (a b : Bool) → (a || b) ≡ true → (a ≡ false → b ≡ true)
either true b h isnt = absurd (true≢false isnt)
either false b h isnt = h

-- S_ISGID is seen in the mode
seen : (kind : Kind) (sticky : Bool) (low : ℕ) → low < 512 → has (kind_bits kind + 1024 + bit_if sticky 512 + low) 1024 ≡ true
seen Directory true low small = eq-eqb _ 1024 (omega (arith, and_le_r low 0, and_block 9 35 2 low 0 (omega arith) (omega arith)))
seen Directory false low small = eq-eqb _ 1024 (omega (arith, and_le_r low 0, and_block 9 34 2 low 0 (omega arith) (omega arith)))
seen File true low small = eq-eqb _ 1024 (omega (arith, and_le_r low 0, and_block 9 67 2 low 0 (omega arith) (omega arith)))
seen File false low small = eq-eqb _ 1024 (omega (arith, and_le_r low 0, and_block 9 66 2 low 0 (omega arith) (omega arith)))

-- the lowest eleven bits
lowest : (kind : Kind) (set_gid sticky : Bool) (low : ℕ) → low < 512 → (kind_bits kind + bit_if set_gid 1024 + bit_if sticky 512 + low) % 2048 ≡ low + bit_if set_gid 1024 + bit_if sticky 512
lowest Directory true true low small = omega arith
lowest Directory true false low small = omega arith
lowest Directory false true low small = omega arith
lowest Directory false false low small = omega arith
lowest File true true low small = omega arith
lowest File true false low small = omega arith
lowest File false true low small = omega arith
lowest File false false low small = omega arith

-- S_ISGID isn't cleared
stays : (set_gid root others : Bool) → (set_gid ≡ true → root ≡ true) → (root ≡ true → others ≡ true) → (set_gid && others) ≡ set_gid
stays false root others is so = refl
stays true root others is so = so (is refl)

-- what a mount tells of a node
abbrev told_of : ℕ → Found → Told
told_of number found = attributes_of number (status_of number found.attributes)

abbrev Kept : Session → ℕ → Found → Type 0
Kept s number found = keeps_all s.cred.uid (told_of number found) ≡ true

-- who asks is its owner, or user 0
owned : (s : Session) (number : ℕ) (found : Found) → Kept s number found → by_owner s.cred 1 found ≡ Ok tt
owned s number found kept =
    let owns : (s.cred.uid == 0 || s.cred.uid == found.attributes.owner) ≡ true = (three _ _ _ kept).1 in
    ap (λ (b : Bool). cond b (Ok tt) (Err (forbidden 1 found.place rule.NotOwner))) owns

-- and is user 0 where S_ISGID is set
by_root : (s : Session) (number : ℕ) (found : Found) → mode_bits (mode_of found.attributes.acl) < 512 → Kept s number found → found.attributes.set_gid ≡ true → (s.cred.uid == 0) ≡ true
by_root s number found low kept set = asked (s.cred.uid == 0) refl
  where
    last : ((s.cred.uid == 0) || not (has (told_of number found).mode 1024)) ≡ true
    last = (three (is_live (told_of number found)) (is_owner s.cred.uid (told_of number found)) ((s.cred.uid == 0) || not (has (told_of number found).mode 1024)) kept).2

    shown : has (told_of number found).mode 1024 ≡ true
    shown =
        ap (λ (b : Bool). has (kind_bits found.attributes.kind + bit_if b 1024 + bit_if found.attributes.sticky 512 + mode_bits (mode_of found.attributes.acl)) 1024) set
        ∙ seen found.attributes.kind found.attributes.sticky (mode_bits (mode_of found.attributes.acl)) low

    asked : (b : Bool) → (s.cred.uid == 0) ≡ b → b ≡ true
    asked true is = refl
    asked false is = absurd (true≢false (sym (either (s.cred.uid == 0) (not (has (told_of number found).mode 1024)) last is) ∙ ap not shown))

keeps_gid : (s : Session) (number : ℕ) (found : Found) (others : Bool) → mode_bits (mode_of found.attributes.acl) < 512 → Kept s number found → ((s.cred.uid == 0) ≡ true → others ≡ true)
    → (found.attributes.set_gid && others) ≡ found.attributes.set_gid
keeps_gid s number found others low kept so = stays found.attributes.set_gid (s.cred.uid == 0) others (by_root s number found low kept) so

-- ---- chmod

rights_of : Found → Rights
rights_of found = record {
  user = found.attributes.owner;
  group = found.attributes.group;
  set_gid = found.attributes.set_gid;
  sticky = found.attributes.sticky;
  access = found.attributes.acl;
  default = None;
}

same_bits : (s : Session) (trees : ViewedTrees) (number : ℕ) (found : Found) → mode_bits (mode_of found.attributes.acl) < 512 → with_mode (mode_of found.attributes.acl) found.attributes.acl ≡ found.attributes.acl
    → Kept s number found → with_mode_bits s.cred found.attributes (asked_bits (rights_of found)) (ownership_at trees found) ≡ ownership_at trees found
unfolding rights_of
same_bits s trees number found low own kept =
    let gid : (found.attributes.set_gid && may_set_gid s.cred found.attributes) ≡ found.attributes.set_gid =
    keeps_gid s number found (may_set_gid s.cred found.attributes) low kept (λ root. some_root (is_directory found.attributes.kind) (s.cred.uid == 0) _ root) in
    λ i. record (ownership_at trees found) { acl = own i; set_gid = gid i }
  where
    some_root : (x y z : Bool) → y ≡ true → (x || y || z) ≡ true
    some_root true y z is = refl
    some_root false y z is = ap (λ (b : Bool). b || z) is

pub chmod_left_out : ChmodIsLeftOut
unfolding chmod_outcome rights_of
chmod_left_out limits trees s names found number there new h has =
    let seen_mode : has_mode s.cred.uid (told_of number found) new ≡ true = subst (λ (t : Told). has_mode s.cred.uid t new ≡ true) h.told has in
    let parts = two _ _ seen_mode in
    let low = bits_small (mode_of found.attributes.acl) (small found.attributes.acl h.valid.numbers) in
    let asked : new.mode % 2048 ≡ bits_of (rights_of found) =
    eqb-true _ _ parts.1 ∙ lowest found.attributes.kind found.attributes.set_gid found.attributes.sticky (mode_bits (mode_of found.attributes.acl)) low in
    let bits : mode_bits_argument (new.mode % 2048) ≡ Ok (asked_bits (rights_of found)) = ap mode_bits_argument asked ∙ bits_argument (rights_of found) h.valid in
    let sets : Ownership → Result Outcome Refusal = λ o. Ok (does limits.inode_charge (SetAttributes number o)) in
    let own = with_mode_bits s.cred found.attributes (asked_bits (rights_of found)) (ownership_at trees found) in
    ap (λ (r : Result ModeBits Refusal). r >>= (λ b. chmod_outcome limits trees s names b)) bits
    ∙ ap (λ (r : Result Found Refusal). r >>= (λ f. live f.object >>= (λ n. by_owner s.cred 1 f >>= (λ _.
    Ok (does limits.inode_charge (SetAttributes n (with_mode_bits s.cred f.attributes (asked_bits (rights_of found)) (ownership_at trees f)))))))) h.walked
    ∙ ap (λ (r : Result ℕ Refusal). r >>= (λ n. by_owner s.cred 1 found >>= (λ _. Ok (does limits.inode_charge (SetAttributes n own))))) h.is_live
    ∙ ap (λ (r : Result (Unit {0}) Refusal). r >>= (λ _. sets own)) (owned s number found parts.0)
    ∙ ap sets (same_bits s trees number found low (own_mode found.attributes.acl h.valid) parts.0)

-- ---- chown

-- a number that isn't given, or is the one that is there
given : (is_set : Bool) (value there : ℕ) → there < 2 ^ 32 → (not is_set || value == there) ≡ true → id_argument (value_if is_set value) ≡ Ok (value_if is_set there)
given false value there small is = refl
given true value there small is =
    ap (λ (n : ℕ). id_argument (Some n)) (eqb-true value there is)
    ∙ ap (λ (b : Bool). cond b (Ok (Some there)) (Err (plain Einval))) (lt-ltb there (2 ^ 32) small)

stands : (is_set : Bool) (there : ℕ) → unwrap_or (value_if is_set there) there ≡ there
stands true there = refl
stands false there = refl

pub chown_left_out : ChownIsLeftOut
unfolding chown_outcome
chown_left_out limits trees s names found number there new h has =
    let seen_owner : has_owner s.cred.uid (told_of number found) new ≡ true = subst (λ (t : Told). has_owner s.cred.uid t new ≡ true) h.told has in
    let parts = three _ _ _ seen_owner in
    let low = bits_small (mode_of found.attributes.acl) (small found.attributes.acl h.valid.numbers) in
    let uid = value_if (sets_user new) found.attributes.owner in
    let gid = value_if (sets_group new) found.attributes.group in
    let users : id_argument (value_if (sets_user new) new.user) ≡ Ok uid = given (sets_user new) new.user found.attributes.owner h.owner parts.1 in
    let groups : id_argument (value_if (sets_group new) new.group) ≡ Ok gid = given (sets_group new) new.group found.attributes.group h.group parts.2 in
    let owner : unwrap_or uid found.attributes.owner ≡ found.attributes.owner = stands (sets_user new) found.attributes.owner in
    let group : unwrap_or gid found.attributes.group ≡ found.attributes.group = stands (sets_group new) found.attributes.group in
    let sets : Ownership → Result Outcome Refusal = λ o. Ok (does limits.inode_charge (SetAttributes number o)) in
    let own = given_to s.cred found.attributes uid gid (ownership_at trees found) in
    let kept : (found.attributes.set_gid && keeps_set_gid s.cred found.attributes) ≡ found.attributes.set_gid =
    keeps_gid s number found (keeps_set_gid s.cred found.attributes) low parts.0 (λ root. last_root (is_directory found.attributes.kind) (s.cred.uid == 0) root) in
    let same : own ≡ ownership_at trees found = λ i. record (ownership_at trees found) { owner = owner i; group = group i; set_gid = kept i } in
    ap (λ (r : Result (Option ℕ) Refusal). r >>= (λ u. id_argument (value_if (sets_group new) new.group) >>= (λ g. chown_outcome limits trees s names u g))) users
    ∙ ap (λ (r : Result (Option ℕ) Refusal). r >>= (λ g. chown_outcome limits trees s names uid g)) groups
    ∙ ap (λ (r : Result Found Refusal). r >>= (λ f. live f.object >>= (λ n. by_owner s.cred 1 f >>= (λ _. to_owner s.cred 1 f uid >>= (λ _. to_group s.cred 1 f gid >>= (λ _.
    Ok (does limits.inode_charge (SetAttributes n (given_to s.cred f.attributes uid gid (ownership_at trees f)))))))))) h.walked
    ∙ ap (λ (r : Result ℕ Refusal). r >>= (λ n. by_owner s.cred 1 found >>= (λ _. to_owner s.cred 1 found uid >>= (λ _. to_group s.cred 1 found gid >>= (λ _. Ok (does limits.inode_charge (SetAttributes n own))))))) h.is_live
    ∙ ap (λ (r : Result (Unit {0}) Refusal). r >>= (λ _. to_owner s.cred 1 found uid >>= (λ _. to_group s.cred 1 found gid >>= (λ _. sets own)))) (owned s number found parts.0)
    ∙ ap (λ (r : Result (Unit {0}) Refusal). r >>= (λ _. to_group s.cred 1 found gid >>= (λ _. sets own)))
    (ap (λ (b : Bool). cond b (Ok tt) (Err (forbidden 1 found.place rule.NotRoot))) (or_later (s.cred.uid == 0) (eq-eqb (unwrap_or uid found.attributes.owner) found.attributes.owner owner)))
    ∙ ap (λ (r : Result (Unit {0}) Refusal). r >>= (λ _. sets own))
    (ap (λ (b : Bool). cond b (Ok tt) (Err (forbidden 1 found.place rule.NotMember))) (or_middle (s.cred.uid == 0) _ _ (eq-eqb (unwrap_or gid found.attributes.group) found.attributes.group group)))
    ∙ ap sets same
  where
    last_root : (x y : Bool) → y ≡ true → (x || y) ≡ true
    last_root true y is = refl
    last_root false y is = is

    or_later : (x : Bool) {y : Bool} → y ≡ true → (x || y) ≡ true
    or_later true is = refl
    or_later false is = is

    or_middle : (x y z : Bool) → y ≡ true → (x || y || z) ≡ true
    or_middle true y z is = refl
    or_middle false y z is = ap (λ (b : Bool). b || z) is
