-- What is read below a snapshot is of its own tree alone.
use Rattle.std.proofs.Common.{◌≡◌, ℕ, ◌+◌, ◌&&◌, Bool, true, false, cond, List, [], ◌∷◌, Option, None, Some, Result, Ok, Err, is_some, refl, sym, ap, ◌∙◌}
use Rattle.std.specs.FinMap as map
use Rattle.std.specs.Option.{option_and_then, option_map}
use Rattle.sn_acl.specs.declared.modes.Mode.{Mode}
use Rattle.sn_acl.specs.Credential.{Credential}
use Rattle.sn_limits.specs.declared.limits.Limits.{Limits}
use Rattle.sn_limits.specs.SnapshotName.{is_snapshot_name}
use Rattle.sn_walk.specs.declared.object.Home.TheVariants.{Frozen}
use Rattle.sn_walk.specs.declared.object.Object.{Object}
use Rattle.sn_walk.specs.declared.object.Object.TheVariants.{Node, Snapshots}
use Rattle.sn_walk.specs.declared.view.Attributes.{Attributes}
use Rattle.sn_walk.specs.declared.walking.Found.{Found}
use Rattle.sn_walk.specs.declared.walking.WalkRefusal.{WalkRefusal}
use Rattle.sn_walk.specs.declared.walking.Walked.{Walked}
use Rattle.sn_walk.specs.declared.walking.Walked.TheVariants.{Name}
use Rattle.sn_walk.specs.Chains.{◌>>=◌}
use Rattle.sn_walk.specs.Objects.{number_of, root}
use Rattle.sn_walk.specs.Views.{ViewedTree, ViewedTrees, attributes_at, hidden_attributes}
use Rattle.sn_walk.specs.Walks.{admitted, found_as, found_at, present, walk_from, walk_of}
use Rattle.sn_model.specs.declared.argument.AclKind.{AclKind}
use Rattle.sn_model.specs.declared.argument.AclKind.TheVariants as kind
use Rattle.sn_model.specs.declared.argument.OpenFlags.{OpenFlags}
use Rattle.sn_model.specs.declared.outcome.Outcome.{Outcome}
use Rattle.sn_model.specs.declared.reply.Access.{Access}
use Rattle.sn_model.specs.declared.reply.Errno.TheVariants.{Enoent}
use Rattle.sn_model.specs.declared.reply.Refusal.{Refusal}
use Rattle.sn_model.specs.declared.reply.Reply.TheVariants.{Acl, Done, Names, Status}
use Rattle.sn_model.specs.declared.session.Session.{Session}
use Rattle.sn_model.specs.AccessCalls.{access_outcome, acl_at, getacl_outcome, has_acl, live_if}
use Rattle.sn_model.specs.Calls.{stat_outcome, status_of}
use Rattle.sn_model.specs.FileCalls.{bytes_of, open_absent, open_as, open_bytes, open_found, open_in}
use Rattle.sn_model.specs.NameCalls.{is_listable, read, readdir_outcome}
use Rattle.sn_model.specs.Outcomes.{tells}
use Rattle.sn_model.specs.Seen.{listed, names_if, parent_of, seen}
use Rattle.sn_model.specs.Tests.{full, granted, plain, prefix, there, walked}
use Rattle.sn_model.specs.Tree.{Tree}
use Rattle.sn_model.specs.World.{Descriptor, Trees, World, tree_in, trees_of, viewed_if, viewed_trees}
use Rattle.sn_snapshot_laws.specs.Reading.{MaySearch, SnapshotsReadAlike, below}
use Rattle.sn_snapshot_laws.specs.Staying.{HasTree}

together : {A B C E : Type 0} (r : Result A E) (f : A → Result B E) (g : B → Result C E) → ((r >>= f) >>= g) ≡ (r >>= (λ (x : A). f x >>= g))
together (Ok x) f g = refl
together (Err e) f g = refl

-- ---- two views that show the same tree under a name

module _ {B : Type 0} (name : List ℕ) (a b : ViewedTrees) (same : a.tree (Frozen name) ≡ b.tree (Frozen name)) (cred : Credential) (path : ℕ) (f g : Walked → Option Found → Result B Refusal)
    (alike : (w : Walked) (place n : ℕ) (at : Option Attributes) → f w (found_as place (Node (Frozen name) n) at) ≡ g w (found_as place (Node (Frozen name) n) at)) where
  -- what is done with a walk's result
  abbrev after_a : Result Walked WalkRefusal → Result B Refusal
  after_a r = walked path r >>= (λ w. f w (found_at a w))

  abbrev after_b : Result Walked WalkRefusal → Result B Refusal
  after_b r = walked path r >>= (λ w. g w (found_at b w))

  -- what a name of a directory of this tree denotes
  abbrev passed_by : ViewedTree → ℕ → ℕ → List ℕ → Result (Option Object) WalkRefusal
  passed_by t place n word = admitted cred place (t.node n) >>= (λ _. Ok (option_map (Node (Frozen name)) (t.link n word)))

  last_alike : (place n m : ℕ) → after_a (Ok (Name (Node (Frozen name) n) place (Some (Node (Frozen name) m)))) ≡ after_b (Ok (Name (Node (Frozen name) n) place (Some (Node (Frozen name) m))))
  last_alike place n m =
      let w = Name (Node (Frozen name) n) place (Some (Node (Frozen name) m)) in
      alike w (place + 1) m ((a.tree (Frozen name)).node m)
      ∙ ap (λ (t : ViewedTree). g w (found_as (place + 1) (Node (Frozen name) m) (t.node m))) same

  -- the last name of a path
  ends_alike : (r : Result (Unit {0}) WalkRefusal) (place n : ℕ) (child : Option ℕ) → after_a ((r >>= (λ _. Ok (option_map (Node (Frozen name)) child))) >>= (λ object. Ok (Name (Node (Frozen name) n) place object))) ≡ after_b ((r >>= (λ _. Ok (option_map (Node (Frozen name)) child))) >>= (λ object. Ok (Name (Node (Frozen name) n) place object)))
  ends_alike (Ok u) place n None = alike (Name (Node (Frozen name) n) place None) 0 0 None
  ends_alike (Ok u) place n (Some m) = last_alike place n m
  ends_alike (Err e) place n child = refl

  -- a name before the last
  goes_alike : (x y : Object → Result Walked WalkRefusal) → ((m : ℕ) → after_a (x (Node (Frozen name) m)) ≡ after_b (y (Node (Frozen name) m))) → (r : Result (Unit {0}) WalkRefusal) (place : ℕ) (child : Option ℕ) → after_a ((r >>= (λ _. Ok (option_map (Node (Frozen name)) child))) >>= (λ object. present place object >>= x)) ≡ after_b ((r >>= (λ _. Ok (option_map (Node (Frozen name)) child))) >>= (λ object. present place object >>= y))
  goes_alike x y on (Ok u) place None = refl
  goes_alike x y on (Ok u) place (Some m) = on m
  goes_alike x y on (Err e) place child = refl

  walks_alike : (names : List (List ℕ)) (place n : ℕ) (word : List ℕ) → after_a (walk_from a cred place (Node (Frozen name) n) word names) ≡ after_b (walk_from b cred place (Node (Frozen name) n) word names)
  unfolding walk_from
  walks_alike [] place n word =
      ends_alike (admitted cred place ((a.tree (Frozen name)).node n)) place n ((a.tree (Frozen name)).link n word)
      ∙ ap (λ (t : ViewedTree). after_b (passed_by t place n word >>= (λ object. Ok (Name (Node (Frozen name) n) place object)))) same
  walks_alike (next ∷ names) place n word =
      goes_alike (λ object. walk_from a cred (place + 1) object next names) (λ object. walk_from b cred (place + 1) object next names) (λ m. walks_alike names (place + 1) m next) (admitted cred place ((a.tree (Frozen name)).node n)) place ((a.tree (Frozen name)).link n word)
      ∙ ap (λ (t : ViewedTree). after_b (passed_by t place n word >>= (λ child. present place child >>= (λ object. walk_from b cred (place + 1) object next names)))) same

  -- ---- from the directory of snapshots on

  module _ (has : a.has_snapshot name ≡ b.has_snapshot name) where
    abbrev hidden : Result (Unit {0}) WalkRefusal
    hidden = admitted cred 1 (Some hidden_attributes)

    abbrev shown : Bool → Bool
    shown h = is_snapshot_name name && h

    root_alike : (r : Result (Unit {0}) WalkRefusal) (c : Bool) → after_a ((r >>= (λ _. Ok (cond c (Some (Node (Frozen name) 2)) None))) >>= (λ object. Ok (Name Snapshots 1 object))) ≡ after_b ((r >>= (λ _. Ok (cond c (Some (Node (Frozen name) 2)) None))) >>= (λ object. Ok (Name Snapshots 1 object)))
    root_alike (Ok u) true =
        alike (Name Snapshots 1 (Some (Node (Frozen name) 2))) 2 2 ((a.tree (Frozen name)).node 2)
        ∙ ap (λ (t : ViewedTree). g (Name Snapshots 1 (Some (Node (Frozen name) 2))) (found_as 2 (Node (Frozen name) 2) (t.node 2))) same
    root_alike (Ok u) false = alike (Name Snapshots 1 None) 0 0 None
    root_alike (Err e) c = refl

    into_alike : (x y : Object → Result Walked WalkRefusal) → after_a (x (Node (Frozen name) 2)) ≡ after_b (y (Node (Frozen name) 2)) → (r : Result (Unit {0}) WalkRefusal) (c : Bool) → after_a ((r >>= (λ _. Ok (cond c (Some (Node (Frozen name) 2)) None))) >>= (λ object. present 1 object >>= x)) ≡ after_b ((r >>= (λ _. Ok (cond c (Some (Node (Frozen name) 2)) None))) >>= (λ object. present 1 object >>= y))
    into_alike x y on (Ok u) true = on
    into_alike x y on (Ok u) false = refl
    into_alike x y on (Err e) c = refl

    enters_alike : (names : List (List ℕ)) → after_a (walk_from a cred 1 Snapshots name names) ≡ after_b (walk_from b cred 1 Snapshots name names)
    unfolding walk_from
    enters_alike [] =
        root_alike hidden (shown (a.has_snapshot name))
        ∙ ap (λ (h : Bool). after_b ((hidden >>= (λ _. Ok (cond (shown h) (Some (Node (Frozen name) 2)) None))) >>= (λ object. Ok (Name Snapshots 1 object)))) has
    enters_alike (next ∷ names) =
        into_alike (λ object. walk_from a cred 2 object next names) (λ object. walk_from b cred 2 object next names) (walks_alike names 2 2 next) hidden (shown (a.has_snapshot name))
        ∙ ap (λ (h : Bool). after_b ((hidden >>= (λ _. Ok (cond (shown h) (Some (Node (Frozen name) 2)) None))) >>= (λ child. present 1 child >>= (λ object. walk_from b cred 2 object next names)))) has

    paths_alike : (names : List (List ℕ)) → admitted cred 0 (attributes_at a root) ≡ Ok tt → admitted cred 0 (attributes_at b root) ≡ Ok tt → after_a (walk_of a cred (below name names)) ≡ after_b (walk_of b cred (below name names))
    unfolding walk_from
    paths_alike names may can =
        ap (λ (r : Result (Unit {0}) WalkRefusal). after_a ((r >>= (λ _. Ok (Some Snapshots))) >>= (λ child. present 0 child >>= (λ object. walk_from a cred 1 object name names)))) may
        ∙ enters_alike names
        ∙ sym (ap (λ (r : Result (Unit {0}) WalkRefusal). after_b ((r >>= (λ _. Ok (Some Snapshots))) >>= (λ child. present 0 child >>= (λ object. walk_from b cred 1 object name names)))) can)

-- ---- two worlds that have the same tree of a snapshot

module _ (limits : Limits) (name : List ℕ) (tree : Tree) (before now : World) (s : Session) (names : List (List ℕ)) (had : HasTree name tree before) (has : HasTree name tree now) (may : MaySearch before s.cred) (can : MaySearch now s.cred) where
  abbrev past : ViewedTrees
  past = viewed_trees (trees_of before)

  abbrev today : ViewedTrees
  today = viewed_trees (trees_of now)

  same_tree : map.get before.frozen name ≡ map.get now.frozen name
  same_tree = had ∙ sym has

  abbrev path : List (List ℕ)
  path = below name names

  led : {B : Type 0} (f g : Walked → Option Found → Result B Refusal) → ((w : Walked) (place n : ℕ) (at : Option Attributes) → f w (found_as place (Node (Frozen name) n) at) ≡ g w (found_as place (Node (Frozen name) n) at)) → (prefix past s.cred 1 path >>= (λ w. f w (found_at past w))) ≡ (prefix today s.cred 1 path >>= (λ w. g w (found_at today w)))
  led f g alike = paths_alike name past today (ap viewed_if same_tree) s.cred 1 f g alike (ap is_some same_tree) names may can

  abbrev found : ℕ → ℕ → Attributes → Found
  found place n at = record { object = Node (Frozen name) n; place = place; attributes = at }

  fully : {B : Type 0} (f g : Found → Result B Refusal) → ((place n : ℕ) (at : Attributes) → f (found place n at) ≡ g (found place n at)) → (full past s.cred 1 path >>= f) ≡ (full today s.cred 1 path >>= g)
  fully f g alike =
      together (prefix past s.cred 1 path) (λ w. there (found_at past w)) f
      ∙ led (λ w x. there x >>= f) (λ w x. there x >>= g) each
      ∙ sym (together (prefix today s.cred 1 path) (λ w. there (found_at today w)) g)
    where
      each : (w : Walked) (place n : ℕ) (at : Option Attributes) → (there (found_as place (Node (Frozen name) n) at) >>= f) ≡ (there (found_as place (Node (Frozen name) n) at) >>= g)
      each w place n None = refl
      each w place n (Some at) = alike place n at

  stat_alike : stat_outcome past s path ≡ stat_outcome today s path
  unfolding stat_outcome
  stat_alike = fully (λ x. Ok (tells (Status (status_of (number_of x.object) x.attributes)))) (λ x. Ok (tells (Status (status_of (number_of x.object) x.attributes)))) (λ place n at. refl)

  access_alike : (want : Access) → access_outcome past s path want ≡ access_outcome today s path want
  unfolding access_outcome
  access_alike want = fully asked asked (λ place n at. refl)
    where
      asked : Found → Result Outcome Refusal
      asked x = live_if want.write x.object >>= (λ _. granted s.cred 1 x.place want (Some x.attributes) >>= (λ _. Ok (tells Done)))

  getacl_alike : (k : AclKind) → getacl_outcome past s path k ≡ getacl_outcome today s path k
  unfolding getacl_outcome
  getacl_alike k = fully (asked past) (asked today) (each k)
    where
      asked : ViewedTrees → Found → Result Outcome Refusal
      asked v x = has_acl k x.attributes >>= (λ _. Ok (tells (Acl (acl_at v k x))))

      each : (k : AclKind) (place n : ℕ) (at : Attributes) → (has_acl k at >>= (λ _. Ok (tells (Acl (acl_at past k (found place n at)))))) ≡ (has_acl k at >>= (λ _. Ok (tells (Acl (acl_at today k (found place n at))))))
      each kind.Access place n at = refl
      each kind.Default place n at = ap (λ (t : Option Tree). has_acl kind.Default at >>= (λ _. Ok (tells (Acl ((viewed_if t).default_acl n))))) same_tree

  readdir_alike : readdir_outcome (seen limits before) s path ≡ readdir_outcome (seen limits now) s path
  unfolding readdir_outcome
  readdir_alike = fully (asked (trees_of before)) (asked (trees_of now)) each
    where
      asked : Trees → Found → Result Outcome Refusal
      asked t x = is_listable x >>= (λ _. granted s.cred 1 x.place read (Some x.attributes) >>= (λ _. Ok (tells (Names (listed t x.object)))))

      each : (place n : ℕ) (at : Attributes) → asked (trees_of before) (found place n at) ≡ asked (trees_of now) (found place n at)
      each place n at = ap (λ (t : Option Tree). is_listable (found place n at) >>= (λ _. granted s.cred 1 place read (Some at) >>= (λ _. Ok (tells (Names (names_if t n)))))) same_tree

  open_alike : (fd : ℕ) (flags : OpenFlags) (mode : Mode) → flags.create ≡ false → open_as limits (seen limits before) s fd path flags mode ≡ open_as limits (seen limits now) s fd path flags mode
  unfolding open_absent
  open_alike fd flags mode finds = led (open_found limits (seen limits before) s fd flags mode path) (open_found limits (seen limits now) s fd flags mode path) each
    where
      gone : (w : World) (x : Walked) → open_absent limits (seen limits w) s fd flags mode path x ≡ Err (plain Enoent)
      gone w x = ap (λ (c : Bool). cond c (Ok tt) (Err (plain Enoent)) >>= (λ _. parent_of Enoent x >>= (λ at. open_in limits (seen limits w) s fd flags mode path at.0 at.1))) finds

      each : (w : Walked) (place n : ℕ) (at : Option Attributes) → open_found limits (seen limits before) s fd flags mode path w (found_as place (Node (Frozen name) n) at) ≡ open_found limits (seen limits now) s fd flags mode path w (found_as place (Node (Frozen name) n) at)
      each w place n None = gone before w ∙ sym (gone now w)
      each w place n (Some at) = refl

  bytes_alike : (d : Descriptor) → d.home ≡ Frozen name → open_bytes before d ≡ open_bytes now d
  bytes_alike d is =
      ap (λ (t : Option Tree). bytes_of (option_and_then (λ (t : Tree). map.get t.nodes d.number) t))
      (ap (tree_in (trees_of before)) is ∙ same_tree ∙ sym (ap (tree_in (trees_of now)) is))

pub reads_alike : SnapshotsReadAlike
reads_alike limits name tree before now s names had has may can = record {
  stat = stat_alike limits name tree before now s names had has may can;
  access = access_alike limits name tree before now s names had has may can;
  getacl = getacl_alike limits name tree before now s names had has may can;
  readdir = readdir_alike limits name tree before now s names had has may can;
  opens = open_alike limits name tree before now s names had has may can;
  bytes = bytes_alike limits name tree before now s names had has may can;
}
