-- What a call that makes a node has found.
use Rattle.std.proofs.Common.{◌≡◌, ℕ, ◌+◌, ◌*◌, Bool, true, false, cond, List, [], ◌∷◌, Option, Some, None, Result, Ok, Err, is_none, nat_le, refl, sym, ap, subst, ◌∙◌}
use Rattle.std.specs.Prelude.{IsSomeAnd}
use Rattle.std.specs.Option.{option_map, option_and_then}
use Rattle.std.specs.FinMap as map
use Rattle.sn_acl.specs.Credential.{Credential}
use Rattle.sn_acl.specs.declared.entries.Entry.{Entry}
use Rattle.sn_acl.specs.declared.modes.Mode.{Mode}
use Rattle.sn_acl.specs.Access.{denial_of}
use Rattle.sn_limits.specs.declared.kind.Kind.TheVariants.{Directory}
use Rattle.sn_walk.specs.declared.view.Attributes.{Attributes}
use Rattle.sn_walk.specs.declared.object.Home.TheVariants.{Live, Frozen}
use Rattle.sn_walk.specs.declared.object.Object.{Object}
use Rattle.sn_walk.specs.declared.object.Object.TheVariants as object
use Rattle.sn_walk.specs.declared.walking.Found.{Found}
use Rattle.sn_walk.specs.Objects.{number_of}
use Rattle.sn_walk.specs.declared.walking.WalkRefusal.{WalkRefusal}
use Rattle.sn_walk.specs.declared.walking.Walked.{Walked}
use Rattle.sn_walk.specs.declared.walking.Walked.TheVariants.{Root, Name}
use Rattle.sn_walk.specs.Paths.{last_after}
use Rattle.sn_walk.specs.Views.{attributes_at, child_of, is_hidden_name}
use Rattle.sn_walk.specs.Walks.{EndsAt, walk_of}
use Rattle.sn_walk.proofs.ChainLemmas.{bind_ok}
use Rattle.sn_walk.proofs.WalkLemmas.{ends_at}
use Rattle.sn_model.specs.declared.reply.Access.{Access}
use Rattle.sn_model.specs.declared.reply.Errno.TheVariants.{Elimit}
use Rattle.sn_model.specs.declared.reply.Refusal.{Refusal}
use Rattle.sn_model.specs.declared.reply.FileStatus.{FileStatus}
use Rattle.sn_model.specs.declared.session.Session.{Session}
use Rattle.sn_model.specs.Tree.{Tree, Node, attributes_of, link_to, names_in, least_unused, viewed}
use Rattle.sn_model.specs.World.{World, trees_of, viewed_trees}
use Rattle.sn_walk.specs.Chains.{◌>>=◌}
use Rattle.sn_model.specs.Tests.{plain, logged_in, path_argument, prefix, walked, there, not_present, vacant, live, rights_of, unless_denied, granted, write, writable_parent, has_room, full}
use Rattle.sn_model.specs.declared.reply.Reply.TheVariants as reply
use Rattle.sn_limits.specs.declared.limits.Limits.{Limits}
use Rattle.sn_model.specs.Outcomes.{Outcome, tells, makes}
use Rattle.sn_model.specs.FileCalls.{first_ownership}
use Rattle.sn_model.specs.Calls.{seen, mkdir_outcome, stat_outcome, status_of, last_name}

abbrev pub ok : {A : Type 0} → A → Result A Refusal
ok x = Ok x

pub same_ok : {A : Type 0} (x y : A) → ok x ≡ Ok y → x ≡ y
same_ok x y e = cc

pub walked_ok : (path : ℕ) (r : Result Walked WalkRefusal) (w : Walked) → walked path r ≡ Ok w → r ≡ Ok w
walked_ok path (Ok v) w e = ap (λ (x : Walked). Ok x) (same_ok v w e)
walked_ok path (Err r) w e = cc

pub live_node : (o : Object) (d : ℕ) → live o ≡ Ok d → o ≡ object.Node Live d
live_node (object.Node Live n) d e = ap (λ (k : ℕ). object.Node Live k) (same_ok n d e)
live_node (object.Node (Frozen s) n) d e = cc
live_node object.Snapshots d e = cc

pub hidden_apart : (b : Bool) (o : Option ℕ) → cond b (Some object.Snapshots) (option_map (object.Node Live) o) ≡ None → (b ≡ false) × (o ≡ None)
hidden_apart true o e = cc
hidden_apart false None e = (refl, refl)
hidden_apart false (Some n) e = cc

vacant_is : (at directory : Object) (place end : ℕ) (o : Option Object) → vacant at place o ≡ Ok (directory, end) → (at ≡ directory) × (o ≡ None)
vacant_is at directory place end None e =
    let same : (at, place) ≡ (directory, end) = same_ok (at, place) (directory, end) e in
    (ap (λ (p : Object × ℕ). p.0) same, refl)
vacant_is at directory place end (Some x) e = cc

-- a name that isn't there yet is the last of the path, and hides nothing
pub record IsNew (tree : Tree) (names : List (List ℕ)) (directory : ℕ) : Type 0 where
  pub first : List ℕ
  pub more : List (List ℕ)
  pub some_names : names ≡ first ∷ more
  pub absent : map.get tree.links (link_to directory (last_name names)) ≡ None
  pub seen : is_hidden_name directory (last_name names) ≡ false

pub new_name : (world : World) (names : List (List ℕ)) (w : Walked) (v : Object × ℕ) (directory : ℕ) → EndsAt (viewed_trees (trees_of world)) names w → not_present w ≡ Ok v → live v.0 ≡ Ok directory → IsNew world.live names directory
new_name world names Root v directory ends e l = cc
new_name world [] (Name at place o) v directory ends e l = cc
new_name world (name ∷ names) (Name at place o) v directory ends e l =
    let is = vacant_is at v.0 place v.1 o e in
    let node : at ≡ object.Node Live directory = is.0 ∙ live_node v.0 directory l in
    let none : child_of (viewed_trees (trees_of world)) (object.Node Live directory) (last_after name names) ≡ None = ap (λ (x : Object). child_of (viewed_trees (trees_of world)) x (last_after name names)) (sym node) ∙ sym ends.1 ∙ is.1 in
    let h = hidden_apart (is_hidden_name directory (last_after name names)) _ none in
    record { first = name; more = names; some_names = refl; absent = h.1; seen = h.0 }

pub kind_is : (world : World) (names : List (List ℕ)) (w : Walked) (v : Object × ℕ) (directory : ℕ) → EndsAt (viewed_trees (trees_of world)) names w → not_present w ≡ Ok v → live v.0 ≡ Ok directory → IsSomeAnd (attributes_at (viewed_trees (trees_of world)) (object.Node Live directory)) (λ a. a.kind ≡ Directory)
kind_is world names Root v directory ends e l = cc
kind_is world [] (Name at place o) v directory ends e l = cc
kind_is world (name ∷ names) (Name at place o) v directory ends e l =
    let is = vacant_is at v.0 place v.1 o e in
    subst (λ (x : Object). IsSomeAnd (attributes_at (viewed_trees (trees_of world)) x) (λ a. a.kind ≡ Directory)) (is.0 ∙ live_node v.0 directory l) ends.2

-- an access is granted to what is there
granted_is : (cred : Credential) (path place : ℕ) (want : Access) (o : Option Attributes) (a : Attributes) → granted cred path place want o ≡ Ok a → o ≡ Some a
granted_is cred path place want None a e = cc
granted_is cred path place want (Some x) a e =
    let p = bind_ok (unless_denied path place want (denial_of cred x.owner x.group x.acl (rights_of want))) (λ _. ok x) a e in
    ap (λ (y : Attributes). Some y) (same_ok x a p.2)

pub seen_node : (tree : Tree) (number : ℕ) (o : Option Node) (a : Attributes) → option_map (attributes_of tree number) o ≡ Some a → (x : Node) × (o ≡ Some x) × (a ≡ attributes_of tree number x)
seen_node tree number None a e = cc
seen_node tree number (Some x) a e =
    let same : attributes_of tree number x ≡ a = cc in
    (x, refl, sym same)

pub room_is : (limits : Limits) (tree : Tree) (directory : ℕ) (u : Unit {0}) → has_room limits tree directory ≡ Ok u → (is_none (least_unused limits tree) ≡ false) × (nat_le limits.names (names_in tree directory) ≡ false)
room_is limits tree directory u e = told (is_none (least_unused limits tree)) (nat_le limits.names (names_in tree directory)) e
  where
    told : (a b : Bool) → cond a (Err (plain Elimit)) (cond b (Err (plain Elimit)) (ok tt)) ≡ Ok u → (a ≡ false) × (b ≡ false)
    told true b f = cc
    told false true f = cc
    told false false f = (refl, refl)

-- a name that isn't there yet, in a directory that may get it, and a number for it
pub record HasPlace (limits : Limits) (tree : Tree) (names : List (List ℕ)) (directory : ℕ) : Type 0 where
  pub new : IsNew tree names directory
  pub parent : Node
  pub there : map.get tree.nodes directory ≡ Some parent
  pub kind : parent.kind ≡ Directory
  pub number : is_none (least_unused limits tree) ≡ false
  pub room : nat_le limits.names (names_in tree directory) ≡ false

-- what mkdir has found, and its outcome
pub record Made (limits : Limits) (tree : Tree) (s : Session) (names : List (List ℕ)) (mode : Mode) (o : Outcome) : Type 0 where
  pub directory : ℕ
  pub at : HasPlace limits tree names directory
  pub made : o ≡ makes (2 * limits.inode_charge + limits.block_charge) (link_to directory (last_name names)) Directory (first_ownership Directory s mode (attributes_of tree directory at.parent) at.parent.default_acl)

pub default_at : (tree : Tree) (directory : ℕ) (parent : Node) → map.get tree.nodes directory ≡ Some parent → (viewed tree).default_acl directory ≡ parent.default_acl
default_at tree directory parent e = ap (option_and_then (λ (node : Node). node.default_acl)) e

abbrev mkdir_last : Limits → World → Session → List (List ℕ) → Mode → ℕ → Attributes → Result Outcome Refusal
mkdir_last limits world s names mode directory parent = Ok (makes (2 * limits.inode_charge + limits.block_charge) (link_to directory (last_name names)) Directory (first_ownership Directory s mode parent ((viewed world.live).default_acl directory)))

made_as : (limits : Limits) (world : World) (s : Session) (names : List (List ℕ)) (mode : Mode) (directory : ℕ) (p : Attributes) (parent : Node) (o : Outcome) → mkdir_last limits world s names mode directory p ≡ Ok o → p ≡ attributes_of world.live directory parent → map.get world.live.nodes directory ≡ Some parent
    → o ≡ makes (2 * limits.inode_charge + limits.block_charge) (link_to directory (last_name names)) Directory (first_ownership Directory s mode (attributes_of world.live directory parent) parent.default_acl)
made_as limits world s names mode directory p parent o e seen there =
    let made = λ (a : Attributes) (d : Option (List Entry)). makes (2 * limits.inode_charge + limits.block_charge) (link_to directory (last_name names)) Directory (first_ownership Directory s mode a d) in
    sym (same_ok _ o e) ∙ ap (λ (a : Attributes). made a ((viewed world.live).default_acl directory)) seen ∙ ap (made (attributes_of world.live directory parent)) (default_at world.live directory parent there)

-- an access that is asked of a live directory is granted by its node
pub granted_at : (world : World) (s : Session) (place : ℕ) (at : Object) (directory : ℕ) (a : Attributes) → at ≡ object.Node Live directory → writable_parent (viewed_trees (trees_of world)) s.cred 1 place at ≡ Ok a → (viewed world.live).node directory ≡ Some a
granted_at world s place at directory a is e = granted_is s.cred 1 place write ((viewed world.live).node directory) a (ap (λ (x : Object). writable_parent (viewed_trees (trees_of world)) s.cred 1 place x) (sym is) ∙ e)

pub mkdir_is : (limits : Limits) (world : World) (s : Session) (names : List (List ℕ)) (mode : Mode) (o : Outcome) → mkdir_outcome limits (seen limits world) s names mode ≡ Ok o → Made limits world.live s names mode o
unfolding mkdir_outcome
mkdir_is limits world s names mode o e =
    let w = bind_ok (prefix (viewed_trees (trees_of world)) s.cred 1 names) (λ w. not_present w >>= (λ v. live v.0 >>= (λ d. writable_parent (viewed_trees (trees_of world)) s.cred 1 v.1 v.0 >>= (λ p. has_room limits world.live d >>= (λ _. mkdir_last limits world s names mode d p))))) o e in
    let v = bind_ok (not_present w.0) (λ v. live v.0 >>= (λ d. writable_parent (viewed_trees (trees_of world)) s.cred 1 v.1 v.0 >>= (λ p. has_room limits world.live d >>= (λ _. mkdir_last limits world s names mode d p)))) o w.2 in
    let d = bind_ok (live v.0.0) (λ d. writable_parent (viewed_trees (trees_of world)) s.cred 1 v.0.1 v.0.0 >>= (λ p. has_room limits world.live d >>= (λ _. mkdir_last limits world s names mode d p))) o v.2 in
    let p = bind_ok (writable_parent (viewed_trees (trees_of world)) s.cred 1 v.0.1 v.0.0) (λ p. has_room limits world.live d.0 >>= (λ _. mkdir_last limits world s names mode d.0 p)) o d.2 in
    let r = bind_ok (has_room limits world.live d.0) (λ _. mkdir_last limits world s names mode d.0 p.0) o p.2 in
    let ends = ends_at (viewed_trees (trees_of world)) s.cred names w.0 (walked_ok 1 (walk_of (viewed_trees (trees_of world)) s.cred names) w.0 w.1) in
    let x = seen_node world.live d.0 (map.get world.live.nodes d.0) p.0 (granted_at world s v.0.1 v.0.0 d.0 p.0 (live_node v.0.0 d.0 d.1) p.1) in
    record {
      directory = d.0;
      at = record {
        new = new_name world names w.0 v.0 d.0 ends v.1 d.1;
        parent = x.0;
        there = x.1;
        kind = subst (λ (o : Option Node). IsSomeAnd (option_map (attributes_of world.live d.0) o) (λ a. a.kind ≡ Directory)) {y = Some x.0} x.1 (kind_is world names w.0 v.0 d.0 ends v.1 d.1);
        number = (room_is limits world.live d.0 r.0 r.1).0;
        room = (room_is limits world.live d.0 r.0 r.1).1;
      };
      made = made_as limits world s names mode d.0 p.0 x.0 o r.2 x.2 x.1;
    }

pub stat_is : (world : World) (s : Session) (names : List (List ℕ)) (o : Outcome) → stat_outcome (viewed_trees (trees_of world)) s names ≡ Ok o → (answer : FileStatus) × (o ≡ tells (reply.Status answer))
unfolding stat_outcome
stat_is world s names o e =
    let x = bind_ok (full (viewed_trees (trees_of world)) s.cred 1 names) (λ (x : Found). ok (tells (reply.Status (status_of (number_of x.object) x.attributes)))) o e in
    (status_of (number_of x.0.object) x.0.attributes, sym (same_ok _ o x.2))

-- a call of a session that is logged in, whose first argument is a path
pub record IsCalled {A : Type 0} (world : World) (session : ℕ) (path : List ℕ) (more : Session → List (List ℕ) → Result A Refusal) (x : A) : Type 0 where
  pub caller : Session
  pub names : List (List ℕ)
  pub called_by : logged_in world session ≡ Ok caller
  pub read : path_argument path ≡ Ok names
  pub passed : more caller names ≡ Ok x

pub called : {A : Type 0} (world : World) (session : ℕ) (path : List ℕ) (more : Session → List (List ℕ) → Result A Refusal) (x : A) → (logged_in world session >>= (λ s. path_argument path >>= (λ names. more s names))) ≡ Ok x → IsCalled world session path more x
called world session path more x e =
    let p = bind_ok (logged_in world session) (λ s. path_argument path >>= (λ names. more s names)) x e in
    let q = bind_ok (path_argument path) (λ names. more p.0 names) x p.2 in
    record { caller = p.0; names = q.0; called_by = p.1; read = q.1; passed = q.2 }
