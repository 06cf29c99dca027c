-- What the calls that set rights have found, and that what they decide can be applied.
use Rattle.std.proofs.Common.{◌≡◌, ℕ, ◌^◌, Bool, true, false, cond, ◌&&◌, nat_lt, List, Option, Some, None, Ok, Err, is_some, refl, sym, ap, subst, ◌∙◌, arith, ◌||◌, ◌==◌, ◌≢◌, ◌<◌, ◌⊎◌, inl, inr, eq-eqb, eqb-true, ltb-true}
use Rattle.std.specs.Prelude.{IfSome, codes, unwrap_or, ◌/◌, ◌%◌}
use Rattle.std.specs.FinMap as map
use Rattle.std.specs.Str.{bytes_eq}
use Rattle.std.proofs.lemmas.Bool.{lt-ltb, ne_eqb}
use Rattle.sn_acl.specs.declared.entries.Entry.{Entry}
use Rattle.sn_acl.specs.Credential.{is_member}
use Rattle.sn_acl.specs.AccessList.{IsValid}
use Rattle.sn_acl.specs.Modes.{with_mode}
use Rattle.sn_acl.specs.Text.{acl_of}
use Rattle.sn_acl.proofs.ModeLemmas.{IsMode, valid-with_mode}
use Rattle.sn_acl.proofs.Shown.{mode_of-with_mode}
use Rattle.sn_acl.proofs.Spelling.{spells}
use Rattle.sn_acl.proofs.Validity.{test-from_valid}
use Rattle.sn_limits.specs.declared.limits.Limits.{Limits}
use Rattle.sn_walk.specs.declared.object.Object.{Object}
use Rattle.sn_limits.specs.declared.kind.Kind.{Kind}
use Rattle.sn_limits.specs.declared.kind.Kind.TheVariants.{File, Directory}
use Rattle.sn_walk.specs.declared.view.Attributes.{Attributes}
use Rattle.sn_walk.specs.declared.walking.Found.{Found}
use Rattle.sn_walk.specs.declared.walking.Walked.{Walked}
use Rattle.sn_walk.specs.declared.walking.Walked.TheVariants.{Root, Name}
use Rattle.sn_walk.specs.Chains.{◌>>=◌}
use Rattle.sn_walk.specs.Objects.{root}
use Rattle.sn_walk.specs.Views.{ViewedTrees, attributes_at, is_directory}
use Rattle.sn_walk.specs.Walks.{found_as, found_at}
use Rattle.sn_walk.proofs.ChainLemmas.{bind_ok}
use Rattle.sn_model.specs.declared.change.Change.{Change}
use Rattle.sn_model.specs.declared.change.Change.TheVariants.{SetAttributes}
use Rattle.sn_model.specs.declared.change.Ownership.{Ownership}
use Rattle.sn_model.specs.declared.reply.Access.{Access}
use Rattle.sn_model.specs.declared.reply.Errno.TheVariants.{Einval}
use Rattle.sn_model.specs.declared.reply.Reply.TheVariants as reply
use Rattle.sn_model.specs.declared.reply.Rule.TheVariants as rule
use Rattle.sn_model.specs.declared.session.Session.{Session}
use Rattle.sn_model.specs.AccessCalls.{AclKind, OfAccess, OfDefault, ModeBits, NewAcl, NewAccess, NewDefault, access_outcome, acl_argument, acl_at, by_owner, chmod_outcome, chown_outcome, default_acl_at, getacl_outcome, given_to, has_acl, id_argument, kind_of, live_if, mode_bits_argument, new_acl, ownership_at, setacl_outcome, to_group, to_owner, with_acl, with_mode_bits}
use Rattle.sn_model.specs.AccessLaws.{GivesTo, Sets, SetsAcl, ShowsMode}
use Rattle.sn_model.specs.Changes.{apply, is_default_acl, is_ownership, node_with, owned, ownership_of, put_node}
use Rattle.sn_model.specs.NameTree.{IsNode}
use Rattle.sn_model.specs.Outcomes.{Outcome, Does, tells, does}
use Rattle.sn_model.specs.Tests.{forbidden, full, granted, live, plain, prefix, there, mode_from_bits}
use Rattle.sn_model.specs.Tree.{Node, Tree}
use Rattle.sn_model.specs.World.{World, trees_of, viewed_trees}
use Rattle.sn_model.specs.Worlds.{IsWorld}
use Rattle.sn_model.proofs.ChainLemmas.{and_both, or_right}
use Rattle.sn_model.proofs.DecisionLemmas.{default_at, live_node, ok, same_ok, seen_node}
use Rattle.sn_model.proofs.PartLemmas.{owned_of}

-- ---- what is found

pub some_found : (f g : Found) → Some f ≡ Some g → f ≡ g
some_found f g e = cc

as_found : (trees : ViewedTrees) (place : ℕ) (o : Object) (a : Option Attributes) (found : Found) → attributes_at trees o ≡ a → found_as place o a ≡ Some found → attributes_at trees found.object ≡ Some found.attributes
as_found trees place o None found is e = cc
as_found trees place o (Some a) found is e = subst (λ (f : Found). attributes_at trees f.object ≡ Some f.attributes) (some_found (record { object = o; place = place; attributes = a }) found e) is

pub found_has : (trees : ViewedTrees) (w : Walked) (found : Found) → found_at trees w ≡ Some found → attributes_at trees found.object ≡ Some found.attributes
found_has trees Root found e = as_found trees 0 root (attributes_at trees root) found refl e
found_has trees (Name directory place None) found e = cc
found_has trees (Name directory place (Some o)) found e = as_found trees _ o (attributes_at trees o) found refl e

pub there_is : (o : Option Found) (found : Found) → there o ≡ Ok found → o ≡ Some found
there_is None found e = cc
there_is (Some f) found e = ap (λ (x : Found). Some x) (same_ok f found e)

pub full_has : (trees : ViewedTrees) (s : Session) (names : List (List ℕ)) (found : Found) → full trees s.cred 1 names ≡ Ok found → attributes_at trees found.object ≡ Some found.attributes
full_has trees s names found e =
    let w = bind_ok (prefix trees s.cred 1 names) (λ w. there (found_at trees w)) found e in
    found_has trees w.0 found (there_is (found_at trees w.0) found w.2)

-- a live node that was found
record IsLive (world : World) (found : Found) (number : ℕ) : Type 0 where
  node : Node
  there : map.get world.live.nodes number ≡ Some node
  kind : found.attributes.kind ≡ node.kind
  owner : found.attributes.owner ≡ node.owner
  group : found.attributes.group ≡ node.group
  had : ownership_at (viewed_trees (trees_of world)) found ≡ ownership_of node

live_found : (world : World) (s : Session) (names : List (List ℕ)) (found : Found) (number : ℕ) → full (viewed_trees (trees_of world)) s.cred 1 names ≡ Ok found → live found.object ≡ Ok number → IsLive world found number
live_found world s names found number e l =
    let trees = viewed_trees (trees_of world) in
    let is = live_node found.object number l in
    let seen = ap (attributes_at trees) (sym is) ∙ full_has trees s names found e in
    let n = seen_node world.live number (map.get world.live.nodes number) found.attributes seen in
    let default = ap (default_acl_at trees) is ∙ default_at world.live number n.0 n.1 in
    record {
      node = n.0;
      there = n.1;
      kind = ap (λ (a : Attributes). a.kind) n.2;
      owner = ap (λ (a : Attributes). a.owner) n.2;
      group = ap (λ (a : Attributes). a.group) n.2;
      had = ap (set_of found.attributes) default ∙ ap (λ (a : Attributes). set_of a n.0.default_acl) n.2;
    }
  where
    set_of : Attributes → Option (List Entry) → Ownership
    set_of a default = record { owner = a.owner; group = a.group; set_gid = a.set_gid; sticky = a.sticky; acl = a.acl; default_acl = default }

-- whoever passes the test of the owner is the owner, or the user 0
owner_is : (world : World) (s : Session) (found : Found) (number : ℕ) (found_live : IsLive world found number) (u : Unit {0}) → by_owner s.cred 1 found ≡ Ok u → (s.cred.uid ≡ 0) ⊎ (s.cred.uid ≡ found_live.node.owner)
owner_is world s found number found_live u e = told (s.cred.uid == 0) (s.cred.uid == found.attributes.owner) refl refl e
  where
    told : (a b : Bool) → (s.cred.uid == 0) ≡ a → (s.cred.uid == found.attributes.owner) ≡ b → cond (a || b) (ok tt) (Err (forbidden 1 found.place rule.NotOwner)) ≡ Ok u → (s.cred.uid ≡ 0) ⊎ (s.cred.uid ≡ found_live.node.owner)
    told true b f g h = inl (eqb-true s.cred.uid 0 f)
    told false true f g h = inr (eqb-true s.cred.uid found.attributes.owner g ∙ found_live.owner)
    told false false f g h = cc h

-- ---- what can be set

default_fits : (limits : Limits) (number : ℕ) (node : Node) → IsNode limits number node → is_default_acl node.kind node.default_acl ≡ true
default_fits limits number node is = told node.kind node.default_acl is.of_file is.default_acl
  where
    told : (kind : Kind) (default : Option (List Entry)) → (kind ≡ File → default ≡ None) → IfSome default IsValid → is_default_acl kind default ≡ true
    told kind None none valid = refl
    told File (Some acl) none valid = let never = none refl in cc
    told Directory (Some acl) none valid = test-from_valid acl valid

owner_fits : (limits : Limits) (number : ℕ) (node : Node) → IsNode limits number node → (nat_lt node.owner (2 ^ 32) && nat_lt node.group (2 ^ 32)) ≡ true
owner_fits limits number node is = and_both _ _ (lt-ltb node.owner (2 ^ 32) is.owner) (lt-ltb node.group (2 ^ 32) is.group)

set_applies : (tree : Tree) (number : ℕ) (node : Node) (o : Ownership) → map.get tree.nodes number ≡ Some node → is_ownership node.kind o ≡ true → is_some (owned tree number o) ≡ true
set_applies tree number node o there fits = ap is_some (owned_of tree number o (put_node tree number (node_with node.kind o node.bytes)) (record { node = node; there = there; fits = fits; gives = refl }))

-- ---- chmod

mode_within : (argument : ℕ) (bits : ModeBits) → mode_bits_argument argument ≡ Ok bits → IsMode bits.mode
mode_within argument bits e = told (nat_lt argument 2048) e
  where
    told : (b : Bool) → cond b (ok (record { mode = mode_from_bits (argument % 512); set_gid = argument / 1024 == 1; sticky = argument / 512 % 2 == 1 })) (Err (plain Einval)) ≡ Ok bits → IsMode bits.mode
    told true f = subst (λ (x : ModeBits). IsMode x.mode) (same_ok (record { mode = mode_from_bits (argument % 512); set_gid = argument / 1024 == 1; sticky = argument / 512 % 2 == 1 }) bits f) (record { owner = omega arith; group = omega arith; other = omega arith })
    told false f = cc

-- S_ISGID is as asked where one of three tests passes
as_asked : (asked may : Bool) → may ≡ true → (asked && may) ≡ asked
as_asked true may e = e
as_asked false may e = refl

not_asked : (asked may : Bool) → may ≡ false → (asked && may) ≡ false
not_asked true may e = e
not_asked false may e = refl

second : (a b c : Bool) → b ≡ true → (a || b || c) ≡ true
second true b c e = refl
second false b c e = ap (λ t. t || c) e

third : (a b c : Bool) → c ≡ true → (a || b || c) ≡ true
third true b c e = refl
third false true c e = refl
third false false c e = e

none_of : (a b c : Bool) → a ≡ false → b ≡ false → c ≡ false → (a || b || c) ≡ false
none_of a b c e f g = rw (e, f, g) refl

module _ (limits : Limits) (world : World) (s : Session) (bits : ModeBits) (found : Found) (number : ℕ) (whole : IsWorld limits world) (mode : IsMode bits.mode) (found_live : IsLive world found number) (u : Unit {0}) (owns : by_owner s.cred 1 found ≡ Ok u) where
  given : Ownership
  given = with_mode_bits s.cred found.attributes bits (ownership_of found_live.node)

  abbrev member : Bool
  member = is_member s.cred found.attributes.group

  chmod_node : IsNode limits number found_live.node
  chmod_node = whole.live.nodes.nodes number found_live.node found_live.there

  chmod_sets : (o : Outcome) → o ≡ does limits.inode_charge (SetAttributes number (with_mode_bits s.cred found.attributes bits (ownership_at (viewed_trees (trees_of world)) found))) → Sets limits world s o (ShowsMode s bits)
  unfolding given
  chmod_sets o is = record {
    number = number;
    node = found_live.node;
    there = found_live.there;
    new = given;
    change = ap (λ (x : Outcome). x.change) (is ∙ ap (λ (x : Ownership). does limits.inode_charge (SetAttributes number (with_mode_bits s.cred found.attributes bits x))) found_live.had);
    by_owner = owner_is world s found number found_live u owns;
    follows = record {
      owner = refl;
      group = refl;
      mode = mode_of-with_mode bits.mode found_live.node.acl chmod_node.acl;
      default_acl = refl;
      sticky = refl;
      of_directory = λ e. as_asked bits.set_gid _ (ap (λ (k : Kind). is_directory k || s.cred.uid == 0 || member) (found_live.kind ∙ e));
      of_root = λ e. as_asked bits.set_gid _ (second (is_directory found.attributes.kind) (s.cred.uid == 0) member (eq-eqb s.cred.uid 0 e));
      of_member = λ e. as_asked bits.set_gid _ (third (is_directory found.attributes.kind) (s.cred.uid == 0) member (ap (is_member s.cred) found_live.group ∙ e));
      of_others = λ file other outside. not_asked bits.set_gid _
          (none_of (is_directory found.attributes.kind) (s.cred.uid == 0) member
          (ap is_directory (found_live.kind ∙ file)) (ne_eqb s.cred.uid 0 other) (ap (is_member s.cred) found_live.group ∙ outside));
    };
    applies = set_applies world.live number found_live.node given found_live.there
        (and_both _ _ (and_both _ _ (owner_fits limits number found_live.node chmod_node) (test-from_valid (with_mode bits.mode found_live.node.acl) (valid-with_mode bits.mode found_live.node.acl mode chmod_node.acl))) (default_fits limits number found_live.node chmod_node));
  }

pub chmod_is : (limits : Limits) (world : World) (s : Session) (names : List (List ℕ)) (argument : ℕ) (bits : ModeBits) (o : Outcome) → IsWorld limits world
    → mode_bits_argument argument ≡ Ok bits → chmod_outcome limits (viewed_trees (trees_of world)) s names bits ≡ Ok o → Sets limits world s o (ShowsMode s bits)
unfolding chmod_outcome
chmod_is limits world s names argument bits o whole a e =
    let trees = viewed_trees (trees_of world) in
    let last = λ (f : Found) (n : ℕ). ok (does limits.inode_charge (SetAttributes n (with_mode_bits s.cred f.attributes bits (ownership_at (viewed_trees (trees_of world)) f)))) in
    let f = bind_ok (full trees s.cred 1 names) (λ f. live f.object >>= (λ n. by_owner s.cred 1 f >>= (λ _. last f n))) o e in
    let n = bind_ok (live f.0.object) (λ n. by_owner s.cred 1 f.0 >>= (λ _. last f.0 n)) o f.2 in
    let u = bind_ok (by_owner s.cred 1 f.0) (λ _. last f.0 n.0) o n.2 in
    chmod_sets limits world s bits f.0 n.0 whole (mode_within argument bits a) (live_found world s names f.0 n.0 f.1 n.1) u.0 u.1 o (sym (same_ok _ o u.2))

-- ---- chown

-- a number that passes has 32 bits
abbrev IsNumber : Option ℕ → Type 0
IsNumber id = IfSome id (λ n. n < 2 ^ 32)

id_within : (argument id : Option ℕ) → id_argument argument ≡ Ok id → IsNumber id
id_within None id e = subst IsNumber (same_ok None id e) tt
id_within (Some n) id e = told (nat_lt n (2 ^ 32)) refl e
  where
    told : (b : Bool) → nat_lt n (2 ^ 32) ≡ b → cond b (ok (Some n)) (Err (plain Einval)) ≡ Ok id → IsNumber id
    told true t f = subst IsNumber (same_ok (Some n) id f) (ltb-true n (2 ^ 32) t)
    told false t f = cc

id_fits : (id : Option ℕ) (old : ℕ) → IsNumber id → old < 2 ^ 32 → nat_lt (unwrap_or id old) (2 ^ 32) ≡ true
id_fits None old h k = lt-ltb old (2 ^ 32) k
id_fits (Some n) old h k = lt-ltb n (2 ^ 32) h

neither : (a b : Bool) → a ≡ false → b ≡ false → (a || b) ≡ false
neither a b e f = rw (e, f) refl

-- whoever isn't the user 0 leaves the owner, and the group or a group of its own
owner_kept : (s : Session) (found : Found) (uid : Option ℕ) (u : Unit {0}) → to_owner s.cred 1 found uid ≡ Ok u → s.cred.uid ≢ 0 → unwrap_or uid found.attributes.owner ≡ found.attributes.owner
owner_kept s found uid u e other = told (s.cred.uid == 0) (unwrap_or uid found.attributes.owner == found.attributes.owner) refl refl e
  where
    told : (a b : Bool) → (s.cred.uid == 0) ≡ a → (unwrap_or uid found.attributes.owner == found.attributes.owner) ≡ b → cond (a || b) (ok tt) (Err (forbidden 1 found.place rule.NotRoot)) ≡ Ok u → unwrap_or uid found.attributes.owner ≡ found.attributes.owner
    told true b f g h = absurd (other (eqb-true s.cred.uid 0 f))
    told false true f g h = eqb-true (unwrap_or uid found.attributes.owner) found.attributes.owner g
    told false false f g h = cc h

group_kept : (s : Session) (found : Found) (gid : Option ℕ) (u : Unit {0}) → to_group s.cred 1 found gid ≡ Ok u → s.cred.uid ≢ 0
    → (unwrap_or gid found.attributes.group ≡ found.attributes.group) ⊎ (is_member s.cred (unwrap_or gid found.attributes.group) ≡ true)
group_kept s found gid u e other = told (s.cred.uid == 0) (unwrap_or gid found.attributes.group == found.attributes.group) (is_member s.cred (unwrap_or gid found.attributes.group)) refl refl refl e
  where
    told : (a b d : Bool) → (s.cred.uid == 0) ≡ a → (unwrap_or gid found.attributes.group == found.attributes.group) ≡ b → is_member s.cred (unwrap_or gid found.attributes.group) ≡ d
        → cond (a || b || d) (ok tt) (Err (forbidden 1 found.place rule.NotMember)) ≡ Ok u → (unwrap_or gid found.attributes.group ≡ found.attributes.group) ⊎ (is_member s.cred (unwrap_or gid found.attributes.group) ≡ true)
    told true b d f g m h = absurd (other (eqb-true s.cred.uid 0 f))
    told false true d f g m h = inl (eqb-true (unwrap_or gid found.attributes.group) found.attributes.group g)
    told false false true f g m h = inr m
    told false false false f g m h = cc h

-- what chown has found, and its outcome
record HasGiven (limits : Limits) (trees : ViewedTrees) (s : Session) (names : List (List ℕ)) (uid gid : Option ℕ) (o : Outcome) : Type 0 where
  found : Found
  number : ℕ
  leads : full trees s.cred 1 names ≡ Ok found
  in_live : live found.object ≡ Ok number
  owns : (u : Unit {0}) × (by_owner s.cred 1 found ≡ Ok u)
  keeps : (u : Unit {0}) × (to_owner s.cred 1 found uid ≡ Ok u)
  joins : (u : Unit {0}) × (to_group s.cred 1 found gid ≡ Ok u)
  is : o ≡ does limits.inode_charge (SetAttributes number (given_to s.cred found.attributes uid gid (ownership_at trees found)))

has_given : (limits : Limits) (trees : ViewedTrees) (s : Session) (names : List (List ℕ)) (uid gid : Option ℕ) (o : Outcome) → chown_outcome limits trees s names uid gid ≡ Ok o → HasGiven limits trees s names uid gid o
unfolding chown_outcome
has_given limits trees s names uid gid o e =
    let last = λ (f : Found) (n : ℕ). ok (does limits.inode_charge (SetAttributes n (given_to s.cred f.attributes uid gid (ownership_at trees f)))) in
    let f = bind_ok (full trees s.cred 1 names) (λ f. live f.object >>= (λ n. by_owner s.cred 1 f >>= (λ _. to_owner s.cred 1 f uid >>= (λ _. to_group s.cred 1 f gid >>= (λ _. last f n))))) o e in
    let n = bind_ok (live f.0.object) (λ n. by_owner s.cred 1 f.0 >>= (λ _. to_owner s.cred 1 f.0 uid >>= (λ _. to_group s.cred 1 f.0 gid >>= (λ _. last f.0 n)))) o f.2 in
    let u = bind_ok (by_owner s.cred 1 f.0) (λ _. to_owner s.cred 1 f.0 uid >>= (λ _. to_group s.cred 1 f.0 gid >>= (λ _. last f.0 n.0))) o n.2 in
    let v = bind_ok (to_owner s.cred 1 f.0 uid) (λ _. to_group s.cred 1 f.0 gid >>= (λ _. last f.0 n.0)) o u.2 in
    let w = bind_ok (to_group s.cred 1 f.0 gid) (λ _. last f.0 n.0) o v.2 in
    record { found = f.0; number = n.0; leads = f.1; in_live = n.1; owns = (u.0, u.1); keeps = (v.0, v.1); joins = (w.0, w.1); is = sym (same_ok _ o w.2) }

module _ (limits : Limits) (world : World) (s : Session) (names : List (List ℕ)) (uid gid : Option ℕ) (o : Outcome) (whole : IsWorld limits world) (user : IsNumber uid) (member : IsNumber gid) (p : HasGiven limits (viewed_trees (trees_of world)) s names uid gid o) where
  given_node : IsLive world p.found p.number
  given_node = live_found world s names p.found p.number p.leads p.in_live

  given_away : Ownership
  given_away = given_to s.cred p.found.attributes uid gid (ownership_of given_node.node)

  kept_node : IsNode limits p.number given_node.node
  kept_node = whole.live.nodes.nodes p.number given_node.node given_node.there

  gives : GivesTo s uid gid given_node.node given_away
  unfolding given_away
  gives = record {
    owner = refl;
    group = refl;
    acl = refl;
    default_acl = refl;
    sticky = refl;
    of_directory = λ e. as_asked given_node.node.set_gid _ (ap (λ (k : Kind). is_directory k || s.cred.uid == 0) (given_node.kind ∙ e));
    of_root = λ e. as_asked given_node.node.set_gid _ (or_right (is_directory p.found.attributes.kind) (s.cred.uid == 0) (eq-eqb s.cred.uid 0 e));
    of_file = λ file other. not_asked given_node.node.set_gid _ (neither (is_directory p.found.attributes.kind) (s.cred.uid == 0) (ap is_directory (given_node.kind ∙ file)) (ne_eqb s.cred.uid 0 other));
    same_owner = λ other. subst (λ (n : ℕ). unwrap_or uid n ≡ n) given_node.owner (owner_kept s p.found uid p.keeps.0 p.keeps.1 other);
    own_group = λ other. subst (λ (n : ℕ). (unwrap_or gid n ≡ n) ⊎ (is_member s.cred (unwrap_or gid n) ≡ true)) given_node.group (group_kept s p.found gid p.joins.0 p.joins.1 other);
  }

  given_applies : is_some (owned world.live p.number given_away) ≡ true
  unfolding given_away
  given_applies = set_applies world.live p.number given_node.node given_away given_node.there
      (and_both _ _
      (and_both _ _ (and_both _ _ (id_fits uid given_node.node.owner user kept_node.owner) (id_fits gid given_node.node.group member kept_node.group)) (test-from_valid given_node.node.acl kept_node.acl))
      (default_fits limits p.number given_node.node kept_node))

  chown_sets : Sets limits world s o (GivesTo s uid gid)
  unfolding given_away
  chown_sets = record {
    number = p.number;
    node = given_node.node;
    there = given_node.there;
    by_owner = owner_is world s p.found p.number given_node p.owns.0 p.owns.1;
    new = given_away;
    change = ap (λ (x : Outcome). x.change) (p.is ∙ ap (λ (x : Ownership). does limits.inode_charge (SetAttributes p.number (given_to s.cred p.found.attributes uid gid x))) given_node.had);
    follows = gives;
    applies = given_applies;
  }

pub chown_is : (limits : Limits) (world : World) (s : Session) (names : List (List ℕ)) (user uid member gid : Option ℕ) (o : Outcome) → IsWorld limits world
    → id_argument user ≡ Ok uid → id_argument member ≡ Ok gid → chown_outcome limits (viewed_trees (trees_of world)) s names uid gid ≡ Ok o → Sets limits world s o (GivesTo s uid gid)
chown_is limits world s names user uid member gid o whole a b e =
    chown_sets limits world s names uid gid o whole (id_within user uid a) (id_within member gid b) (has_given limits (viewed_trees (trees_of world)) s names uid gid o e)

-- ---- setacl

-- an argument that passes is valid, and of its kind
IsNew : NewAcl → Type 0
IsNew (NewAccess acl) = IsValid acl
IsNew (NewDefault acl) = IfSome acl IsValid

some_acl : (read : Option (List Entry)) (kind : AclKind) (acl : NewAcl) → ((es : List Entry) → read ≡ Some es → IsValid es) → new_acl kind read ≡ Ok acl → IsNew acl
unfolding IsNew
some_acl None kind acl valid e = cc
some_acl (Some es) OfAccess acl valid e = subst IsNew (same_ok (NewAccess es) acl e) (valid es refl)
some_acl (Some es) OfDefault acl valid e = subst IsNew (same_ok (NewDefault (Some es)) acl e) (valid es refl)

argument_valid : (kind : AclKind) (word : List ℕ) (acl : NewAcl) → acl_argument kind word ≡ Ok acl → IsNew acl
unfolding IsNew
argument_valid OfAccess word acl e = some_acl (acl_of word) OfAccess acl (λ es is. (spells word es is).0) e
argument_valid OfDefault word acl e = told (bytes_eq word (codes "-")) e
  where
    told : (b : Bool) → cond b (ok (NewDefault None)) (new_acl OfDefault (acl_of word)) ≡ Ok acl → IsNew acl
    told true f = subst IsNew (same_ok (NewDefault None) acl f) tt
    told false f = some_acl (acl_of word) OfDefault acl (λ es is. (spells word es is).0) f

-- a default ACL is a directory's
of_directory : (a : Attributes) (u : Unit {0}) → has_acl OfDefault a ≡ Ok u → is_directory a.kind ≡ true
of_directory a u e = told (is_directory a.kind) e
  where
    told : (b : Bool) → cond b (ok tt) (Err (plain Einval)) ≡ Ok u → b ≡ true
    told true f = refl
    told false f = cc

default_new : (kind : Kind) (acl : Option (List Entry)) → is_directory kind ≡ true → IfSome acl IsValid → is_default_acl kind acl ≡ true
default_new kind None is valid = refl
default_new kind (Some es) is valid = and_both _ _ is (test-from_valid es valid)

acl_fits : (limits : Limits) (number : ℕ) (node : Node) (acl : NewAcl) → IsNode limits number node → IsNew acl → (kind_of acl ≡ OfDefault → is_directory node.kind ≡ true) → is_ownership node.kind (with_acl acl (ownership_of node)) ≡ true
unfolding IsNew
acl_fits limits number node (NewAccess acl) is valid directory = and_both _ _ (and_both _ _ (owner_fits limits number node is) (test-from_valid acl valid)) (default_fits limits number node is)
acl_fits limits number node (NewDefault acl) is valid directory = and_both _ _ (and_both _ _ (owner_fits limits number node is) (test-from_valid node.acl is.acl)) (default_new node.kind acl (directory refl) valid)

acl_set : (acl : NewAcl) (node : Node) → SetsAcl acl node (with_acl acl (ownership_of node))
acl_set (NewAccess acl) node = record { owner = refl; group = refl; which = (refl, refl); set_gid = refl; sticky = refl }
acl_set (NewDefault acl) node = record { owner = refl; group = refl; which = (refl, refl); set_gid = refl; sticky = refl }

setacl_sets : (limits : Limits) (world : World) (s : Session) (found : Found) (number : ℕ) (acl : NewAcl) (o : Outcome) (u v : Unit {0}) → IsWorld limits world → IsNew acl → IsLive world found number → has_acl (kind_of acl) found.attributes ≡ Ok u → by_owner s.cred 1 found ≡ Ok v
    → o ≡ does limits.inode_charge (SetAttributes number (with_acl acl (ownership_at (viewed_trees (trees_of world)) found))) → Sets limits world s o (SetsAcl acl)
setacl_sets limits world s found number acl o u v whole valid found_live has owns is =
    let node = whole.live.nodes.nodes number found_live.node found_live.there in
    record {
      number = number;
      node = found_live.node;
      there = found_live.there;
      new = with_acl acl (ownership_of found_live.node);
      change = ap (λ (x : Outcome). x.change) (is ∙ ap (λ (x : Ownership). does limits.inode_charge (SetAttributes number (with_acl acl x))) found_live.had);
      by_owner = owner_is world s found number found_live v owns;
      follows = acl_set acl found_live.node;
      applies = set_applies world.live number found_live.node (with_acl acl (ownership_of found_live.node)) found_live.there
          (acl_fits limits number found_live.node acl node valid (λ default.
          subst (λ (k : Kind). is_directory k ≡ true) found_live.kind (of_directory found.attributes u (ap (λ (k : AclKind). has_acl k found.attributes) (sym default) ∙ has))));
    }

pub setacl_is : (limits : Limits) (world : World) (s : Session) (names : List (List ℕ)) (kind : AclKind) (argument : List ℕ) (acl : NewAcl) (o : Outcome) → IsWorld limits world
    → acl_argument kind argument ≡ Ok acl → setacl_outcome limits (viewed_trees (trees_of world)) s names acl ≡ Ok o → Sets limits world s o (SetsAcl acl)
unfolding setacl_outcome
setacl_is limits world s names kind argument acl o whole a e =
    let trees = viewed_trees (trees_of world) in
    let last = λ (f : Found) (n : ℕ). ok (does limits.inode_charge (SetAttributes n (with_acl acl (ownership_at (viewed_trees (trees_of world)) f)))) in
    let f = bind_ok (full trees s.cred 1 names) (λ f. has_acl (kind_of acl) f.attributes >>= (λ _. live f.object >>= (λ n. by_owner s.cred 1 f >>= (λ _. last f n)))) o e in
    let h = bind_ok (has_acl (kind_of acl) f.0.attributes) (λ _. live f.0.object >>= (λ n. by_owner s.cred 1 f.0 >>= (λ _. last f.0 n))) o f.2 in
    let n = bind_ok (live f.0.object) (λ n. by_owner s.cred 1 f.0 >>= (λ _. last f.0 n)) o h.2 in
    let u = bind_ok (by_owner s.cred 1 f.0) (λ _. last f.0 n.0) o n.2 in
    setacl_sets limits world s f.0 n.0 acl o h.0 u.0 whole (argument_valid kind argument acl a) (live_found world s names f.0 n.0 f.1 n.1) h.1 u.1 (sym (same_ok _ o u.2))

-- ---- the outcomes of the calls

-- attributes that are set, whatever they are
abbrev pub SetsSome : Limits → Outcome → Type 0
SetsSome limits o = (number : ℕ) × (new : Ownership) × (o ≡ does limits.inode_charge (SetAttributes number new))

-- what is set so can be set
pub can_be_set : (limits : Limits) (world : World) (s : Session) (o : Outcome) (Follows : Node → Ownership → Type 0) (is : SetsSome limits o) → Sets limits world s o Follows → is_some (owned world.live is.0 is.1) ≡ true
can_be_set limits world s o Follows is h =
    let change : Does (SetAttributes h.number h.new) ≡ Does (SetAttributes is.0 is.1) = sym h.change ∙ ap (λ (x : Outcome). x.change) is.2 in
    let same : SetAttributes h.number h.new ≡ SetAttributes is.0 is.1 = cc change in
    subst (λ (c : Change). is_some (apply limits c world.live) ≡ true) same h.applies

pub chmod_some : (limits : Limits) (trees : ViewedTrees) (s : Session) (names : List (List ℕ)) (bits : ModeBits) (o : Outcome) → chmod_outcome limits trees s names bits ≡ Ok o → SetsSome limits o
unfolding chmod_outcome
chmod_some limits trees s names bits o e =
    let last = λ (f : Found) (n : ℕ). ok (does limits.inode_charge (SetAttributes n (with_mode_bits s.cred f.attributes bits (ownership_at trees f)))) in
    let f = bind_ok (full trees s.cred 1 names) (λ f. live f.object >>= (λ n. by_owner s.cred 1 f >>= (λ _. last f n))) o e in
    let n = bind_ok (live f.0.object) (λ n. by_owner s.cred 1 f.0 >>= (λ _. last f.0 n)) o f.2 in
    let u = bind_ok (by_owner s.cred 1 f.0) (λ _. last f.0 n.0) o n.2 in
    (n.0, with_mode_bits s.cred f.0.attributes bits (ownership_at trees f.0), sym (same_ok _ o u.2))

pub chown_some : (limits : Limits) (trees : ViewedTrees) (s : Session) (names : List (List ℕ)) (uid gid : Option ℕ) (o : Outcome) → chown_outcome limits trees s names uid gid ≡ Ok o → SetsSome limits o
chown_some limits trees s names uid gid o e =
    let p = has_given limits trees s names uid gid o e in
    (p.number, given_to s.cred p.found.attributes uid gid (ownership_at trees p.found), p.is)

pub setacl_some : (limits : Limits) (trees : ViewedTrees) (s : Session) (names : List (List ℕ)) (acl : NewAcl) (o : Outcome) → setacl_outcome limits trees s names acl ≡ Ok o → SetsSome limits o
unfolding setacl_outcome
setacl_some limits trees s names acl o e =
    let last = λ (f : Found) (n : ℕ). ok (does limits.inode_charge (SetAttributes n (with_acl acl (ownership_at trees f)))) in
    let f = bind_ok (full trees s.cred 1 names) (λ f. has_acl (kind_of acl) f.attributes >>= (λ _. live f.object >>= (λ n. by_owner s.cred 1 f >>= (λ _. last f n)))) o e in
    let h = bind_ok (has_acl (kind_of acl) f.0.attributes) (λ _. live f.0.object >>= (λ n. by_owner s.cred 1 f.0 >>= (λ _. last f.0 n))) o f.2 in
    let n = bind_ok (live f.0.object) (λ n. by_owner s.cred 1 f.0 >>= (λ _. last f.0 n)) o h.2 in
    let u = bind_ok (by_owner s.cred 1 f.0) (λ _. last f.0 n.0) o n.2 in
    (n.0, with_acl acl (ownership_at trees f.0), sym (same_ok _ o u.2))

pub access_tells : (trees : ViewedTrees) (s : Session) (names : List (List ℕ)) (want : Access) (o : Outcome) → access_outcome trees s names want ≡ Ok o → o ≡ tells reply.Done
unfolding access_outcome
access_tells trees s names want o e =
    let x = bind_ok (full trees s.cred 1 names) (λ x. live_if want.write x.object >>= (λ _. granted s.cred 1 x.place want (Some x.attributes) >>= (λ _. ok (tells reply.Done)))) o e in
    let l = bind_ok (live_if want.write x.0.object) (λ _. granted s.cred 1 x.0.place want (Some x.0.attributes) >>= (λ _. ok (tells reply.Done))) o x.2 in
    let g = bind_ok (granted s.cred 1 x.0.place want (Some x.0.attributes)) (λ _. ok (tells reply.Done)) o l.2 in
    sym (same_ok _ o g.2)

pub getacl_tells : (trees : ViewedTrees) (s : Session) (names : List (List ℕ)) (kind : AclKind) (o : Outcome) → getacl_outcome trees s names kind ≡ Ok o → (acl : Option (List Entry)) × (o ≡ tells (reply.Acl acl))
unfolding getacl_outcome
getacl_tells trees s names kind o e =
    let x = bind_ok (full trees s.cred 1 names) (λ x. has_acl kind x.attributes >>= (λ _. ok (tells (reply.Acl (acl_at trees kind x))))) o e in
    let h = bind_ok (has_acl kind x.0.attributes) (λ _. ok (tells (reply.Acl (acl_at trees kind x.0)))) o x.2 in
    (acl_at trees kind x.0, sym (same_ok _ o h.2))
