-- The calls that set owner, group, S bits and ACLs of what a path leads to, by the user 0.
use Rattle.std.proofs.Common.{◌≡◌, ℕ, ◌^◌, ◌&&◌, ◌||◌, ◌==◌, Bool, true, false, cond, List, Option, Some, None, Result, Ok, Err, refl, sym, ap, subst, ◌∙◌, eq-eqb}
use Rattle.std.specs.Prelude.{nat_lt}
use Rattle.std.specs.FinMap as map
use Rattle.std.specs.Cmp.{nat_cmp_total}
use Rattle.std.proofs.lemmas.Map.Lookups.{exact_unsigned}
use Rattle.sn_acl.specs.declared.entries.Entry.{Entry}
use Rattle.sn_acl.specs.Credential.{is_member}
use Rattle.sn_acl.specs.Modes.{with_mode}
use Rattle.sn_limits.specs.declared.limits.Limits.{Limits}
use Rattle.sn_walk.specs.declared.object.Home.TheVariants.{Live}
use Rattle.sn_walk.specs.declared.object.Object.{Object}
use Rattle.sn_walk.specs.declared.object.Object.TheVariants as object
use Rattle.sn_walk.specs.declared.view.Attributes.{Attributes}
use Rattle.sn_walk.specs.declared.walking.Found.{Found}
use Rattle.sn_walk.specs.Chains.{◌>>=◌}
use Rattle.sn_walk.specs.Objects.{root}
use Rattle.sn_walk.specs.Views.{ViewedTrees, attributes_at, is_directory}
use Rattle.sn_walk.proofs.ChainLemmas.{bind_ok}
use Rattle.sn_model.specs.declared.call.Call.TheVariants as call
use Rattle.sn_model.specs.declared.change.Change.TheVariants.{SetAttributes}
use Rattle.sn_model.specs.declared.change.Ownership.{Ownership}
use Rattle.sn_model.specs.declared.reply.Errno.TheVariants.{Einval}
use Rattle.sn_model.specs.declared.reply.Refusal.{Refusal}
use Rattle.sn_model.specs.declared.reply.Reply.{Reply}
use Rattle.sn_model.specs.declared.session.Session.{Session}
use Rattle.sn_model.specs.declared.argument.AclKind.{AclKind}
use Rattle.sn_model.specs.declared.argument.ModeBits.{ModeBits}
use Rattle.sn_model.specs.declared.argument.NewAcl.{NewAcl}
use Rattle.sn_model.specs.AccessCalls.{acl_argument, by_owner, chmod_outcome, chown_outcome, default_acl_at, given_to, has_acl, id_argument, kind_of, may_set_gid, mode_bits_argument, ownership_at, setacl_outcome, to_group, to_owner, with_acl, with_mode_bits}
use Rattle.sn_model.specs.Calls.{Ready, outcome_of, ready}
use Rattle.sn_model.specs.Changes.{node_with, ownership_of, put_node}
use Rattle.sn_model.specs.Denials.{led_to}
use Rattle.sn_model.specs.declared.outcome.Outcome.{Outcome}
use Rattle.sn_model.specs.Outcomes.{does}
use Rattle.sn_model.specs.Steps.{Comes, with_live}
use Rattle.sn_model.specs.Tests.{full, live, logged_in, path_argument, plain}
use Rattle.sn_model.specs.Tree.{Node}
use Rattle.sn_model.specs.World.{World, trees_of, viewed_trees}
use Rattle.sn_model.specs.Worlds.{IsWorld}
use Rattle.sn_model.proofs.AccessCallLemmas.{full_has}
use Rattle.sn_model.proofs.AccessDenialLemmas.{full_led}
use Rattle.sn_model.proofs.DecisionLemmas.{called, default_at, live_node, ok, same_ok, seen_node}
use Rattle.sn_model.proofs.LoseLemmas.{done_loss, none_dropped}
use Rattle.sn_model.proofs.MapLemmas.{get_inserted, get_other}
use Rattle.sn_model.proofs.PartLemmas.{owned_is}
use Rattle.sn_import_laws.specs.Runs.{IsRoots}
use Rattle.sn_import_laws.specs.Trees.{IsAt, IsTurned}
use Rattle.sn_import_laws.proofs.Steps.{IsDone, led_same}

-- ---- what such a call decides

-- what the node's attributes become
abbrev pub Setter : Type 0
Setter = Attributes → Ownership → Ownership

pub record SetsAt (limits : Limits) (trees : ViewedTrees) (s : Session) (names : List (List ℕ)) (f : Setter) (o : Outcome) : Type 0 where
  pub found : Found
  pub number : ℕ
  pub leads : full trees s.cred 1 names ≡ Ok found
  pub in_live : live found.object ≡ Ok number
  pub is : o ≡ does limits.inode_charge (SetAttributes number (f found.attributes (ownership_at trees found)))

chmod_at : (limits : Limits) (trees : ViewedTrees) (s : Session) (names : List (List ℕ)) (bits : ModeBits) (o : Outcome) → chmod_outcome limits trees s names bits ≡ Ok o
    → SetsAt limits trees s names (λ a own. with_mode_bits s.cred a bits own) o
unfolding chmod_outcome
chmod_at limits trees s names bits o e =
    let last = λ (f : Found) (n : ℕ). ok (does limits.inode_charge (SetAttributes n (with_mode_bits s.cred f.attributes bits (ownership_at trees f)))) in
    let f = bind_ok (full trees s.cred 1 names) (λ f. live f.object >>= (λ n. by_owner s.cred 1 f >>= (λ _. last f n))) o e in
    let n = bind_ok (live f.0.object) (λ n. by_owner s.cred 1 f.0 >>= (λ _. last f.0 n)) o f.2 in
    let u = bind_ok (by_owner s.cred 1 f.0) (λ _. last f.0 n.0) o n.2 in
    record { found = f.0; number = n.0; leads = f.1; in_live = n.1; is = sym (same_ok _ o u.2) }

chown_at : (limits : Limits) (trees : ViewedTrees) (s : Session) (names : List (List ℕ)) (uid gid : Option ℕ) (o : Outcome) → chown_outcome limits trees s names uid gid ≡ Ok o
    → SetsAt limits trees s names (λ a own. given_to s.cred a uid gid own) o
unfolding chown_outcome
chown_at limits trees s names uid gid o e =
    let last = λ (f : Found) (n : ℕ). ok (does limits.inode_charge (SetAttributes n (given_to s.cred f.attributes uid gid (ownership_at trees f)))) in
    let f = bind_ok (full trees s.cred 1 names) (λ f. live f.object >>= (λ n. by_owner s.cred 1 f >>= (λ _. to_owner s.cred 1 f uid >>= (λ _. to_group s.cred 1 f gid >>= (λ _. last f n))))) o e in
    let n = bind_ok (live f.0.object) (λ n. by_owner s.cred 1 f.0 >>= (λ _. to_owner s.cred 1 f.0 uid >>= (λ _. to_group s.cred 1 f.0 gid >>= (λ _. last f.0 n)))) o f.2 in
    let u = bind_ok (by_owner s.cred 1 f.0) (λ _. to_owner s.cred 1 f.0 uid >>= (λ _. to_group s.cred 1 f.0 gid >>= (λ _. last f.0 n.0))) o n.2 in
    let v = bind_ok (to_owner s.cred 1 f.0 uid) (λ _. to_group s.cred 1 f.0 gid >>= (λ _. last f.0 n.0)) o u.2 in
    let w = bind_ok (to_group s.cred 1 f.0 gid) (λ _. last f.0 n.0) o v.2 in
    record { found = f.0; number = n.0; leads = f.1; in_live = n.1; is = sym (same_ok _ o w.2) }

setacl_at : (limits : Limits) (trees : ViewedTrees) (s : Session) (names : List (List ℕ)) (acl : NewAcl) (o : Outcome) → setacl_outcome limits trees s names acl ≡ Ok o
    → SetsAt limits trees s names (λ a own. with_acl acl own) o
unfolding setacl_outcome
setacl_at limits trees s names acl o e =
    let last = λ (f : Found) (n : ℕ). ok (does limits.inode_charge (SetAttributes n (with_acl acl (ownership_at trees f)))) in
    let f = bind_ok (full trees s.cred 1 names) (λ f. has_acl (kind_of acl) f.attributes >>= (λ _. live f.object >>= (λ n. by_owner s.cred 1 f >>= (λ _. last f n)))) o e in
    let h = bind_ok (has_acl (kind_of acl) f.0.attributes) (λ _. live f.0.object >>= (λ n. by_owner s.cred 1 f.0 >>= (λ _. last f.0 n))) o f.2 in
    let n = bind_ok (live f.0.object) (λ n. by_owner s.cred 1 f.0 >>= (λ _. last f.0 n)) o h.2 in
    let u = bind_ok (by_owner s.cred 1 f.0) (λ _. last f.0 n.0) o n.2 in
    record { found = f.0; number = n.0; leads = f.1; in_live = n.1; is = sym (same_ok _ o u.2) }

-- ---- what it leaves

-- the node of a number is another, and all else is as it was
pub record IsPut (old new : World) (path : List ℕ) (becomes : Node → Node) : Type 0 where
  pub number : ℕ
  pub node : Node
  pub at : IsAt old path number node
  pub whole : new ≡ with_live old (put_node old.live number (becomes node))

abbrev owning_node : (Ownership → Ownership) → Node → Node
owning_node effect node = node_with node.kind (effect (ownership_of node)) node.bytes

pub put : (limits : Limits) (old new : World) (path : List ℕ) (names : List (List ℕ)) (s : Session) (f : Setter) (effect : Ownership → Ownership) (o : Outcome) → IsWorld limits old → path_argument path ≡ Ok names
    → SetsAt limits (viewed_trees (trees_of old)) s names f o → ((a : Attributes) (own : Ownership) → f a own ≡ effect own) → Comes limits old 0 o new → IsPut old new path (owning_node effect)
put limits old new path names s f effect o whole spelled p same comes =
    let trees = viewed_trees (trees_of old) in
    let own = f p.found.attributes (ownership_at trees p.found) in
    let does_it = subst (λ (x : Outcome). Comes limits old 0 x new) p.is comes in
    let is = live_node p.found.object p.number p.in_live in
    let seen = ap (attributes_at trees) (sym is) ∙ full_has trees s names p.found p.leads in
    let n = seen_node old.live p.number (map.get old.live.nodes p.number) p.found.attributes seen in
    let default = ap (default_acl_at trees) is ∙ default_at old.live p.number n.0 n.1 in
    let had : ownership_at trees p.found ≡ ownership_of n.0 = ap (set_of p.found.attributes) default ∙ ap (λ (a : Attributes). set_of a n.0.default_acl) n.2 in
    let own_is : own ≡ effect (ownership_of n.0) = same p.found.attributes (ownership_at trees p.found) ∙ ap effect had in
    let w = owned_is old.live p.number own does_it.tree does_it.applied in
    let one : w.node ≡ n.0 = some_one w.node n.0 (sym w.there ∙ n.1) in
    let tree : does_it.tree ≡ put_node old.live p.number (owning_node effect n.0) =
    sym w.gives ∙ ap (λ (m : Node). put_node old.live p.number (node_with m.kind own m.bytes)) one ∙ ap (λ (x : Ownership). put_node old.live p.number (node_with n.0.kind x n.0.bytes)) own_is in
    let loss = done_loss limits old does_it.tree whole (SetAttributes p.number own) tt does_it.applied in
    let kept = none_dropped limits (with_live old does_it.tree) (λ m e. never m (loss m e)) in
    record {
      number = p.number;
      node = n.0;
      at = record { names = names; spelled = spelled; led = (full_led trees s.cred names p.found p.leads).1 ∙ ap (λ (x : Object). Some x) is; there = n.1 };
      whole = does_it.world ∙ kept ∙ ap (with_live old) tree;
    }
  where
    set_of : Attributes → Option (List Entry) → Ownership
    set_of a default = record { owner = a.owner; group = a.group; set_gid = a.set_gid; sticky = a.sticky; acl = a.acl; default_acl = default }

    some_one : (x y : Node) → Some x ≡ Some y → x ≡ y
    some_one x y e = cc

    nothing : Option ℕ
    nothing = None

    never : (m : ℕ) → nothing ≡ Some m → ⊥
    never m e = cc

-- ---- the three calls

abbrev pub ready_ok : Ready → Result Ready Refusal
ready_ok r = Ok r

pub goes_on : (limits : Limits) (world : World) (r q : Ready) (o : Outcome) → ready_ok r ≡ Ok q → outcome_of limits world q ≡ Ok o → outcome_of limits world r ≡ Ok o
goes_on limits world r q o same e = subst (λ (x : Ready). outcome_of limits world x ≡ Ok o) (sym (same_ok r q same)) e

abbrev chmods : Session → List (List ℕ) → ModeBits → Ready
chmods s names bits = λ limits w. chmod_outcome limits (viewed_trees (trees_of w)) s names bits

abbrev chowns : Session → List (List ℕ) → Option ℕ → Option ℕ → Ready
chowns s names uid gid = λ limits w. chown_outcome limits (viewed_trees (trees_of w)) s names uid gid

abbrev setacls : Session → List (List ℕ) → NewAcl → Ready
setacls s names acl = λ limits w. setacl_outcome limits (viewed_trees (trees_of w)) s names acl

is_root : (world : World) (s : Session) → IsRoots world → logged_in world 0 ≡ Ok s → s.cred.uid ≡ 0
is_root world s roots called_by =
    let same : roots.session ≡ s = same_ok roots.session s (sym roots.seated ∙ called_by) in
    ap (λ (x : Session). x.cred.uid) (sym same) ∙ roots.root

id_same : (number : ℕ) (id : Option ℕ) → id_argument (Some number) ≡ Ok id → id ≡ Some number
id_same number id e = told (nat_lt number (2 ^ 32)) e
  where
    told : (b : Bool) → cond b (ok (Some number)) (Err (plain Einval)) ≡ Ok id → id ≡ Some number
    told true f = sym (same_ok (Some number) id f)
    told false f = cc

or_last : (a b : Bool) → b ≡ true → (a || b) ≡ true
or_last true b e = refl
or_last false b e = e

or_second : (a b c : Bool) → b ≡ true → (a || b || c) ≡ true
or_second true b c e = refl
or_second false b c e = ap (λ (t : Bool). t || c) e

and_true : (a b : Bool) → b ≡ true → (a && b) ≡ a
and_true true b e = e
and_true false b e = refl

pub chown_put : (limits : Limits) (old new : World) (path : List ℕ) (user group : ℕ) (reply : Reply) → IsWorld limits old → IsRoots old → IsDone limits old 0 (call.Chown path (Some user) (Some group)) reply new
    → IsPut old new path (λ node. record node { owner = user; group = group })
chown_put limits old new path user group reply whole roots d =
    let o = d.outcome in
    let trees = viewed_trees (trees_of old) in
    let r = bind_ok (ready old 0 (call.Chown path (Some user) (Some group))) (outcome_of limits old) o d.decided in
    let k = called old 0 path (λ s names. id_argument (Some user) >>= (λ owner. id_argument (Some group) >>= (λ member. ready_ok (chowns s names owner member)))) r.0 r.1 in
    let a = bind_ok (id_argument (Some user)) (λ owner. id_argument (Some group) >>= (λ member. ready_ok (chowns k.caller k.names owner member))) r.0 k.passed in
    let b = bind_ok (id_argument (Some group)) (λ member. ready_ok (chowns k.caller k.names a.0 member)) r.0 a.2 in
    let e = goes_on limits old (chowns k.caller k.names a.0 b.0) r.0 o b.2 r.2 in
    let zero = is_root old k.caller roots k.called_by in
    put limits old new path k.names k.caller (λ x own. given_to k.caller.cred x a.0 b.0 own) (λ own. record own { owner = user; group = group }) o whole k.read
    (chown_at limits trees k.caller k.names a.0 b.0 o e)
    (λ x own.
    ap (λ (id : Option ℕ). given_to k.caller.cred x id b.0 own) (id_same user a.0 a.1) ∙ ap (λ (id : Option ℕ). given_to k.caller.cred x (Some user) id own) (id_same group b.0 b.1)
    ∙ ap (λ (t : Bool). set_with own user group t) (and_true own.set_gid (is_directory x.kind || k.caller.cred.uid == 0) (or_last (is_directory x.kind) (k.caller.cred.uid == 0) (eq-eqb k.caller.cred.uid 0 zero))))
    d.comes
  where
    set_with : Ownership → ℕ → ℕ → Bool → Ownership
    set_with own u g t = record own { owner = u; group = g; set_gid = t }

pub setacl_put : (limits : Limits) (old new : World) (path : List ℕ) (kind : AclKind) (text : List ℕ) (acl : NewAcl) (reply : Reply) → IsWorld limits old → acl_argument kind text ≡ Ok acl
    → IsDone limits old 0 (call.SetAcl path kind text) reply new → IsPut old new path (λ node. node_with node.kind (with_acl acl (ownership_of node)) node.bytes)
setacl_put limits old new path kind text acl reply whole argument d =
    let o = d.outcome in
    let trees = viewed_trees (trees_of old) in
    let r = bind_ok (ready old 0 (call.SetAcl path kind text)) (outcome_of limits old) o d.decided in
    let k = called old 0 path (λ s names. acl_argument kind text >>= (λ new_one. ready_ok (setacls s names new_one))) r.0 r.1 in
    let a = bind_ok (acl_argument kind text) (λ new_one. ready_ok (setacls k.caller k.names new_one)) r.0 k.passed in
    let e = goes_on limits old (setacls k.caller k.names a.0) r.0 o a.2 r.2 in
    let same : a.0 ≡ acl = same_ok a.0 acl (sym a.1 ∙ argument) in
    put limits old new path k.names k.caller (λ x own. with_acl a.0 own) (with_acl acl) o whole k.read
    (setacl_at limits trees k.caller k.names a.0 o e)
    (λ x own. ap (λ (n : NewAcl). with_acl n own) same)
    d.comes

pub chmod_put : (limits : Limits) (old new : World) (path : List ℕ) (argument : ℕ) (bits : ModeBits) (reply : Reply) → IsWorld limits old → IsRoots old → mode_bits_argument argument ≡ Ok bits
    → IsDone limits old 0 (call.Chmod path argument) reply new → IsPut old new path (λ node. record node { acl = with_mode bits.mode node.acl; set_gid = bits.set_gid; sticky = bits.sticky })
chmod_put limits old new path argument bits reply whole roots is d =
    let o = d.outcome in
    let trees = viewed_trees (trees_of old) in
    let r = bind_ok (ready old 0 (call.Chmod path argument)) (outcome_of limits old) o d.decided in
    let k = called old 0 path (λ s names. mode_bits_argument argument >>= (λ asked. ready_ok (chmods s names asked))) r.0 r.1 in
    let a = bind_ok (mode_bits_argument argument) (λ asked. ready_ok (chmods k.caller k.names asked)) r.0 k.passed in
    let e = goes_on limits old (chmods k.caller k.names a.0) r.0 o a.2 r.2 in
    let same : a.0 ≡ bits = same_ok a.0 bits (sym a.1 ∙ is) in
    let zero = is_root old k.caller roots k.called_by in
    put limits old new path k.names k.caller (λ x own. with_mode_bits k.caller.cred x a.0 own) (set_bits bits bits.set_gid) o whole k.read
    (chmod_at limits trees k.caller k.names a.0 o e)
    (λ x own. ap (λ (m : ModeBits). with_mode_bits k.caller.cred x m own) same
    ∙ ap (λ (t : Bool). set_bits bits t own)
    (and_true bits.set_gid (may_set_gid k.caller.cred x) (or_second (is_directory x.kind) (k.caller.cred.uid == 0) (is_member k.caller.cred x.group) (eq-eqb k.caller.cred.uid 0 zero))))
    d.comes
  where
    set_bits : ModeBits → Bool → Ownership → Ownership
    set_bits asked t own = record own { acl = with_mode asked.mode own.acl; set_gid = t; sticky = asked.sticky }

-- ---- one after the other

pub turned : (old new : World) (path : List ℕ) (becomes : Node → Node) → IsPut old new path becomes → IsTurned old new path becomes
turned old new path becomes p =
    let x = becomes p.node in
    record {
      number = p.number;
      node = p.node;
      at = p.at;
      turns = record {
        made = ap (λ (w : World). map.get w.live.nodes p.number) p.whole ∙ get_inserted nat_cmp_total old.live.nodes p.number x;
        nodes = λ other apart. ap (λ (w : World). map.get w.live.nodes other) p.whole ∙ get_other nat_cmp_total exact_unsigned old.live.nodes p.number x other apart;
        links = ap (λ (w : World). w.live.links) p.whole;
      };
      frozen = ap (λ (w : World). w.frozen) p.whole;
      sessions = ap (λ (w : World). w.sessions) p.whole;
      descriptors = ap (λ (w : World). w.descriptors) p.whole;
    }

abbrev some_object : ℕ → Option Object
some_object n = Some (object.Node Live n)

-- a node that was turned is turned again
pub turned_again : (old middle new : World) (path : List ℕ) (f g : Node → Node) → IsTurned old middle path f → IsTurned middle new path g → IsTurned old new path (λ node. g (f node))
turned_again old middle new path f g a b =
    let names : a.at.names ≡ b.at.names = same_ok a.at.names b.at.names (sym a.at.spelled ∙ b.at.spelled) in
    let led : led_to (viewed_trees (trees_of middle)) root b.at.names ≡ Some (object.Node Live a.number) =
    led_same old middle root b.at.names a.turns.links a.frozen ∙ ap (led_to (viewed_trees (trees_of old)) root) (sym names) ∙ a.at.led in
    let number : b.number ≡ a.number = one_number b.number a.number (sym b.at.led ∙ led) in
    let there : map.get middle.live.nodes a.number ≡ Some b.node = ap (map.get middle.live.nodes) (sym number) ∙ b.at.there in
    let node : b.node ≡ f a.node = one_node b.node (f a.node) (sym there ∙ a.turns.made) in
    record {
      number = a.number;
      node = a.node;
      at = a.at;
      turns = record {
        made = ap (map.get new.live.nodes) (sym number) ∙ b.turns.made ∙ ap (λ (x : Node). Some (g x)) node;
        nodes = λ other apart. b.turns.nodes other (λ is. apart (is ∙ number)) ∙ a.turns.nodes other apart;
        links = b.turns.links ∙ a.turns.links;
      };
      frozen = b.frozen ∙ a.frozen;
      sessions = b.sessions ∙ a.sessions;
      descriptors = b.descriptors ∙ a.descriptors;
    }
  where
    one_number : (n m : ℕ) → some_object n ≡ some_object m → n ≡ m
    one_number n m e = let same : object.Node Live n ≡ object.Node Live m = cc in cc same

    one_node : (x y : Node) → Some x ≡ Some y → x ≡ y
    one_node x y e = cc

-- the same, but for how the node is said
pub turned_as : (old new : World) (path : List ℕ) (f g : Node → Node) → ((node : Node) → f node ≡ g node) → IsTurned old new path f → IsTurned old new path g
turned_as old new path f g same a = record {
  number = a.number;
  node = a.node;
  at = a.at;
  turns = record { made = a.turns.made ∙ ap (λ (x : Node). Some x) (same a.node); nodes = a.turns.nodes; links = a.turns.links };
  frozen = a.frozen;
  sessions = a.sessions;
  descriptors = a.descriptors;
}
