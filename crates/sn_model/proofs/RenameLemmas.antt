-- What a rename has found, and that what it decides can be applied.
use Rattle.std.proofs.Common.{◌≡◌, ◌≢◌, ◌⊎◌, inl, inr, ℕ, ◌+◌, ◌*◌, ◌≤◌, ◌<◌, ◌&&◌, ◌||◌, ◌==◌, not, Bool, true, false, cond, nat_le, List, [], ◌∷◌, Option, Some, None, Ok, is_some, refl, sym, ap, subst, ◌∙◌, arith, eq-eqb, eqb-true}
use Rattle.std.specs.Prelude.{IsSomeAnd, codes}
use Rattle.std.specs.Option.{option_map}
use Rattle.std.specs.Cmp.{nat_cmp_total}
use Rattle.std.specs.Cmp.Lexicographic.{pointwise}
use Rattle.std.specs.FinMap as map
use Rattle.std.proofs.lemmas.Bool.{lt-ltb, leb-false, true≢false, false_from_ne_true}
use Rattle.std.proofs.lemmas.Map.Lookups.{exact_unsigned}
use Rattle.sn_acl.specs.Credential.{Credential}
use Rattle.sn_limits.specs.declared.kind.Kind.{Kind}
use Rattle.sn_limits.specs.declared.kind.Kind.TheVariants.{File, Directory}
use Rattle.sn_limits.specs.declared.limits.Limits.{Limits}
use Rattle.sn_limits.specs.Names.{is_name}
use Rattle.sn_walk.specs.declared.object.Home.TheVariants.{Live}
use Rattle.sn_walk.specs.declared.object.Object.{Object}
use Rattle.sn_walk.specs.declared.object.Object.TheVariants as object
use Rattle.sn_walk.specs.declared.view.Attributes.{Attributes}
use Rattle.sn_walk.specs.declared.walking.Found.{Found}
use Rattle.sn_walk.specs.declared.walking.Walked.{Walked}
use Rattle.sn_walk.specs.declared.walking.Walked.TheVariants.{Root, Name}
use Rattle.sn_walk.specs.Chains.{◌>>=◌}
use Rattle.sn_walk.specs.Objects.{is_in_tree_of, number_of, root}
use Rattle.sn_walk.specs.Paths.{last_after}
use Rattle.sn_walk.specs.Views.{ViewedTrees, attributes_at, child_of, is_directory, is_hidden_name}
use Rattle.sn_walk.specs.Walks.{found_as, found_at, found_last, passed, present, walk_from, walk_of}
use Rattle.sn_walk.proofs.ChainLemmas.{bind_ok}
use Rattle.sn_walk.proofs.WalkLemmas.{ends_at}
use Rattle.sn_model.specs.declared.change.Change.TheVariants.{Rename}
use Rattle.sn_model.specs.declared.link.Link.{Link}
use Rattle.sn_model.specs.declared.moving.Moving.{Moving}
use Rattle.sn_model.specs.declared.reply.Errno.TheVariants.{Ebusy, Einval}
use Rattle.sn_model.specs.declared.reply.Reply.TheVariants as reply
use Rattle.sn_model.specs.declared.session.Session.{Session}
use Rattle.sn_model.specs.Changes.{is_at_or_below, is_new_name, renamed, replaced, same_kind, put_link, same_number, take_link, take_node}
use Rattle.sn_model.specs.NameCalls.{alike, empty_if, gives_way, is_fixed, is_one, movable, moved_outcome, moving_of, not_below, rename_outcome, room_to_move}
use Rattle.sn_model.specs.Denials.{led_to}
use Rattle.sn_model.specs.NameTree.{HasKind, IsHierarchy, IsTree}
use Rattle.sn_model.specs.Outcomes.{Outcome, does, tells}
use Rattle.sn_model.specs.Seen.{has_room_for_name, is_below, last_name, parent_of, seen}
use Rattle.sn_model.specs.Tests.{live, one_tree, plain, prefix, sticky, there, writable_parent}
use Rattle.sn_model.specs.Tree.{Node, Tree, attributes_of, link_to, names_for, names_in}
use Rattle.sn_model.specs.World.{World, trees_of, viewed_trees}
use Rattle.sn_model.proofs.AccessCallLemmas.{found_has, there_is}
use Rattle.sn_model.proofs.ChainLemmas.{and_both}
use Rattle.sn_model.proofs.DecisionLemmas.{live_node, ok, same_ok, walked_ok}
use Rattle.sn_model.proofs.AccessDenialLemmas.{found_led}
use Rattle.sn_model.proofs.DenialLemmas.{passed_ok, present_ok}
use Rattle.sn_model.proofs.KeepLemmas.{IsCleared, replaced_clears}
use Rattle.sn_model.proofs.LinkLemmas.{exact_links, links_total}
use Rattle.sn_model.proofs.MapLemmas.{get_inserted, get_left, get_other, get_removed, get_was}
use Rattle.sn_model.proofs.MoveLemmas.{is_kind, some_node}
use Rattle.sn_model.proofs.NameLemmas.{names_for_less, names_in_fewer, names_in_less, names_for_fewer, no_names_for, not_in}
use Rattle.sn_model.proofs.PartLemmas.{is_directory_at, renamed_of, replaced_of, unlinked_of}
use Rattle.sn_model.proofs.NameCallLemmas.{IsNamed, child_live, cond_false, cond_true, live_is, named_at, passed_kind, same_live}
use Rattle.sn_model.proofs.NameChains as chains

-- ---- what the names lead to

-- what has a name of the live tree
abbrev pub HasTarget : Tree → Option ℕ → Option Found → Type 0
HasTarget tree None target = target ≡ None
HasTarget tree (Some k) target = (x : Node) × (f : Found) × (target ≡ Some f) × (f.object ≡ object.Node Live k) × (map.get tree.nodes k ≡ Some x) × (f.attributes ≡ attributes_of tree k x)

-- a name that something may be moved to
pub record IsPlace (world : World) (others : List (List ℕ)) (target : Option Found) (new : ℕ) : Type 0 where
  pub first : List ℕ
  pub more : List (List ℕ)
  pub some_names : others ≡ first ∷ more
  pub parent : HasKind world.live new Directory
  pub seen : is_hidden_name new (last_name others) ≡ false
  pub has : HasTarget world.live (map.get world.live.links (link_to new (last_name others))) target

module _ (world : World) (cred : Credential) where
  abbrev trees : ViewedTrees
  trees = viewed_trees (trees_of world)

  -- a name leads to it, where it is a live node
  abbrev IsLinked : Object → Type 0
  IsLinked o = (d : ℕ) → o ≡ object.Node Live d → (link : Link) × (map.get world.live.links link ≡ Some d)

  linked_on : (place : ℕ) (start : Object) (name : List ℕ) (names : List (List ℕ)) (at : Object) (end : ℕ) (o : Option Object) → (names ≡ [] → IsLinked start) → walk_from trees cred place start name names ≡ Ok (Name at end o) → IsLinked at
  unfolding walk_from
  linked_on place start name [] at end o linked e =
      let b = bind_ok (passed trees cred place start name) (λ object. Ok (Name start place object)) (Name at end o) e in
      let same : Name start place b.0 ≡ Name at end o = cc (b.2) in
      let here : start ≡ at = cc same in
      subst IsLinked here (linked refl)
  linked_on place start name (next ∷ names) at end o linked e =
      let b = bind_ok (passed trees cred place start name) (λ child. present place child >>= (λ object. walk_from trees cred (place + 1) object next names)) (Name at end o) e in
      let p = bind_ok (present place b.0) (λ object. walk_from trees cred (place + 1) object next names) (Name at end o) b.2 in
      let child = passed_ok trees cred place start name b.0 b.1 ∙ present_ok trees cred place b.0 p.0 p.1 in
      linked_on (place + 1) p.0 next names at end o (λ _ d is. let c = child_live world start name d (child ∙ ap (λ (x : Object). Some x) is) in (link_to c.0 name, c.2)) p.2

  -- no name but `/.snapshot` is that of the hidden directory
  seen_name : (others : List (List ℕ)) (at : Object) (end new : ℕ) (o : Option Object) → IsHierarchy world.live → is_fixed others ≡ false → walk_of trees cred others ≡ Ok (Name at end o) → at ≡ object.Node Live new → is_hidden_name new (last_name others) ≡ false
  unfolding walk_from
  seen_name [] at end new o h fixed e is = cc e
  seen_name (name ∷ []) at end new o h fixed e is =
      let b = bind_ok (passed trees cred 0 root name) (λ object. Ok (Name root 0 object)) (Name at end o) e in
      let same : Name root 0 b.0 ≡ Name at end o = cc (b.2) in
      let here : root ≡ at = cc same in
      ap (λ (x : Object). is_hidden_name (number_of x) name) (sym (here ∙ is)) ∙ fixed
  seen_name (name ∷ next ∷ names) at end new o h fixed e is =
      let l = linked_on 0 root name (next ∷ names) at end o (λ none. cc none) e new is in
      ap (λ b. b && pointwise ◌==◌ (last_after next names) (codes ".snapshot")) (false_from_ne_true (new == 2) (λ t. h.unnamed l.0 (l.1 ∙ ap (λ (j : ℕ). Some j) (eqb-true new 2 t))))

  target_is : (place : ℕ) (named : Option ℕ) → ((k : ℕ) → named ≡ Some k → is_some (map.get world.live.nodes k) ≡ true) → HasTarget world.live named (found_last trees place (option_map (object.Node Live) named))
  target_is place None leads = refl
  target_is place (Some k) leads = told (map.get world.live.nodes k) refl (leads k refl)
    where
      told : (x : Option Node) → map.get world.live.nodes k ≡ x → is_some (map.get world.live.nodes k) ≡ true → HasTarget world.live (Some k) (found_last trees place (Some (object.Node Live k)))
      told None e some = absurd (true≢false (sym some ∙ ap is_some e))
      told (Some x) e some =
          let a = attributes_of world.live k x in
          (x, record { object = object.Node Live k; place = place; attributes = a }, ap (λ (y : Option Node). found_as place (object.Node Live k) (option_map (attributes_of world.live k) y)) e, refl, e, refl)

  shown_child : (b : Bool) (x : Option Object) → b ≡ false → cond b (Some object.Snapshots) x ≡ x
  shown_child true x e = cc e
  shown_child false x e = refl

  placed : (others : List (List ℕ)) (w : Walked) (to : Object × ℕ) (new : ℕ) → IsHierarchy world.live → is_fixed others ≡ false → walk_of trees cred others ≡ Ok w → parent_of Ebusy w ≡ Ok to → to.0 ≡ object.Node Live new → IsPlace world others (found_at trees w) new
  placed others Root to new h fixed e f is = cc f
  placed [] (Name at end o) to new h fixed e f is = cc e
  placed (name ∷ names) (Name at end o) to new h fixed e f is =
      let ends = ends_at trees cred (name ∷ names) (Name at end o) e in
      let same = same_ok (at, end) to f in
      let node : at ≡ object.Node Live new = ap (λ (p : Object × ℕ). p.0) same ∙ is in
      let shown = seen_name (name ∷ names) at end new o h fixed e node in
      let last = last_after name names in
      let child : o ≡ option_map (object.Node Live) (map.get world.live.links (link_to new last)) = ends.1 ∙ ap (λ (x : Object). child_of trees x last) node ∙ shown_child (is_hidden_name new last) _ shown in
      record {
        first = name;
        more = names;
        some_names = refl;
        parent = passed_kind world new (subst (λ (x : Object). IsSomeAnd (attributes_at trees x) (λ a. a.kind ≡ Directory)) node ends.2);
        seen = shown;
        has = subst (λ (x : Option Object). HasTarget world.live (map.get world.live.links (link_to new last)) (found_last trees (end + 1) x)) (sym child) (target_is (end + 1) (map.get world.live.links (link_to new last)) (λ k g. h.leads (link_to new last) k g));
      }

-- what a rename looks up
pub record IsMoving (world : World) (names others : List (List ℕ)) (m : Moving) : Type 0 where
  pub number : ℕ
  pub from : IsNamed world names (m.old_directory, m.old_place) number
  pub node : Node
  pub there : map.get world.live.nodes number ≡ Some node
  pub is_number : number_of m.found.object ≡ number
  pub kind : m.found.attributes.kind ≡ node.kind
  pub new : ℕ
  pub is_new : m.new_directory ≡ object.Node Live new
  pub place : IsPlace world others m.target new
  pub led : led_to (viewed_trees (trees_of world)) root names ≡ Some (object.Node Live number)
  pub led_new : (f : Found) → m.target ≡ Some f → led_to (viewed_trees (trees_of world)) root others ≡ Some f.object

pub moving_is : (world : World) (cred : Credential) (names others : List (List ℕ)) (m : Moving) → IsHierarchy world.live → is_fixed others ≡ false → moving_of (viewed_trees (trees_of world)) cred names others ≡ Ok m → IsMoving world names others m
unfolding moving_of
moving_is world cred names others m h fixed e =
    let seen = viewed_trees (trees_of world) in
    let w = bind_ok (prefix seen cred 1 names) (chains.moving_there seen cred others) m e in
    let x = bind_ok (there (found_at seen w.0)) (chains.moving_at seen cred others w.0) m w.2 in
    let at = bind_ok (parent_of Ebusy w.0) (chains.moving_walk seen cred others x.0) m x.2 in
    let other = bind_ok (prefix seen cred 2 others) (chains.moving_to seen cred others x.0 at.0) m at.2 in
    let to = bind_ok (parent_of Ebusy other.0) (chains.moving_tree seen cred others x.0 at.0 other.0) m other.2 in
    let t = bind_ok (one_tree at.0.0 to.0.0) (λ _. chains.moving_live seen cred others x.0 at.0 other.0 to.0) m to.2 in
    let n = bind_ok (live x.0.object) (λ _. chains.moving_end seen cred others x.0 at.0 other.0 to.0) m t.2 in
    let found = there_is (found_at seen w.0) x.0 x.1 in
    let ends = ends_at seen cred names w.0 (walked_ok 1 (walk_of seen cred names) w.0 w.1) in
    let from = named_at world names w.0 at.0 x.0 n.0 ends at.1 found n.1 in
    let node = live_is world x.0 n.0 (found_has seen w.0 x.0 found) n.1 in
    let d = same_live from.directory to.0.0 (ap (λ (y : Object). is_in_tree_of y to.0.0) (sym from.is_at) ∙ cond_true (is_in_tree_of at.0.0 to.0.0) _ t.0 t.1) in
    subst (IsMoving world names others) (same_ok _ m n.2) (record {
      number = n.0;
      from = from;
      node = node.0;
      there = node.1;
      is_number = ap number_of (live_node x.0.object n.0 n.1);
      kind = ap (λ (a : Attributes). a.kind) node.2;
      new = d.0;
      is_new = d.1;
      place = placed world cred others other.0 to.0 d.0 h fixed (walked_ok 2 (walk_of seen cred others) other.0 other.1) to.1 d.1;
      led = (found_led seen cred names w.0 x.0 (walked_ok 1 (walk_of seen cred names) w.0 w.1) found).1 ∙ ap (λ (y : Object). Some y) (live_node x.0.object n.0 n.1);
      led_new = λ f g. (found_led seen cred others other.0 f (walked_ok 2 (walk_of seen cred others) other.0 other.1) g).1;
    })

-- ---- what is moved

-- what has the new name can give way
abbrev pub CanGive : Tree → Node → Option ℕ → Type 0
CanGive tree node None = Unit {0}
CanGive tree node (Some k) = (x : Node) × (map.get tree.nodes k ≡ Some x) × (same_kind node.kind x.kind ≡ true) × (is_directory x.kind ≡ true → (names_in tree k == 0) ≡ true)

abbrev pub HasRoomTo : Limits → Tree → Link → Link → Option ℕ → Type 0
HasRoomTo limits tree old new named = ((is_some named || old.directory == new.directory) ≡ true) ⊎ (nat_le limits.names (names_in tree new.directory) ≡ false)

-- a name exchanged for another
pub record Exchanged (tree : Tree) (old new : Link) (number : ℕ) (after : Tree) : Type 0 where
  pub gone : map.get after.links old ≡ None
  pub moved : map.get after.links new ≡ Some number
  pub names : (other : Link) → other ≢ old → other ≢ new → map.get after.links other ≡ map.get tree.links other
  pub nodes : (other : ℕ) → map.get tree.links new ≢ Some other → map.get after.nodes other ≡ map.get tree.nodes other

module _ (limits : Limits) (tree : Tree) (old new : Link) (number : ℕ) (node : Node) (some_links : 0 < limits.links) (whole : IsTree limits tree) (named : map.get tree.links old ≡ Some number) (there : map.get tree.nodes number ≡ Some node) (parent : HasKind tree new.directory Directory) (apart : same_number number (map.get tree.links new) ≡ false) where
  abbrev two : old ≢ new
  two same = true≢false (sym (ap (same_number number) (ap (map.get tree.links) (sym same) ∙ named) ∙ eq-eqb number number refl) ∙ apart)

  -- the tree without what had the new name
  record Cleared (after : Tree) : Type 0 where
    is : replaced tree new node (map.get tree.links new) ≡ Some after
    nodes : map.get after.nodes new.directory ≡ map.get tree.nodes new.directory
    others : (m : ℕ) → map.get tree.links new ≢ Some m → map.get after.nodes m ≡ map.get tree.nodes m
    names : names_in (take_link after old) new.directory < limits.names
    links : names_for after number ≤ names_for tree number

  at_most : names_in tree new.directory ≤ limits.names
  at_most = whole.few.names new.directory

  clears : (o : Option ℕ) → map.get tree.links new ≡ o → CanGive tree node o → HasRoomTo limits tree old new o → (after : Tree) × Cleared after
  clears None e gives (inl h) = (
    tree,
    record {
      is = ap (replaced tree new node) e;
      nodes = refl;
      others = λ m apart_from. refl;
      names = (let less = names_in_less tree old number named new.directory (eqb-true old.directory new.directory h) in omega (arith, less, at_most));
      links = omega arith;
    },
  )
  clears None e gives (inr h) = (
    tree,
    record {
      is = ap (replaced tree new node) e;
      nodes = refl;
      others = λ m apart_from. refl;
      names = (let room = leb-false limits.names (names_in tree new.directory) h in let fewer = names_in_fewer tree old new.directory in omega (arith, room, fewer));
      links = omega arith;
    },
  )
  clears (Some k) e gives room = told (is_directory gives.0.kind) refl
    where
      few : names_in (take_link (take_link tree new) old) new.directory < limits.names
      few = let fewer = names_in_fewer (take_link tree new) old new.directory in let less = names_in_less tree new k e new.directory refl in omega (arith, fewer, less, at_most)

      told : (b : Bool) → is_directory gives.0.kind ≡ b → (after : Tree) × Cleared after
      told true kind =
          let none = gives.3 kind in (
            take_node (take_link tree new) k,
            record {
              is = ap (replaced tree new node) e ∙ replaced_of tree new node k _ (record { node = gives.0; there = gives.1; alike = gives.2; gone = unlinked_of tree new k gives.0 _ (inl (record { kind = kind; empty = none; gives = refl })) });
              nodes = get_left nat_cmp_total exact_unsigned tree.nodes k new.directory (not_in tree k (eqb-true (names_in tree k) 0 none) new k e);
              others = λ m apart_from. get_left nat_cmp_total exact_unsigned tree.nodes k m (λ q. apart_from (e ∙ ap (λ (j : ℕ). Some j) (sym q)));
              names = few;
              links = names_for_fewer tree new number;
            },
          )
      told false kind = (
        take_link tree new,
        record {
          is = ap (replaced tree new node) e ∙ replaced_of tree new node k _ (record { node = gives.0; there = gives.1; alike = gives.2; gone = unlinked_of tree new k gives.0 _ (inr (record { kind = kind; gives = refl })) });
          nodes = refl;
          others = λ m apart_from. refl;
          names = few;
          links = names_for_fewer tree new number;
        },
      )

  -- without its old name it may get another one
  links_left : (after : Tree) → Cleared after → names_for (take_link after old) number < limits.links
  links_left after c = told node.kind refl (replaced_clears tree new node (map.get tree.links new) after refl c.is)
    where
      told : (k : Kind) → node.kind ≡ k → IsCleared tree after new → names_for (take_link after old) number < limits.links
      told File kind clear =
          let less = names_for_less after old number (clear.stays old two ∙ named) in
          omega (arith, less, c.links, whole.few.links number (is_kind tree number node File there kind))
      told Directory kind clear =
          let none = no_names_for (take_link after old) number (λ l g. let w = get_was links_total exact_links after.links old l number g in w.0 (whole.hierarchy.once l old number (is_kind tree number node Directory there kind) (clear.was l number w.1) named)) in
          omega (arith, none, some_links)

  pub renames : is_new_name tree new number node ≡ true → CanGive tree node (map.get tree.links new) → HasRoomTo limits tree old new (map.get tree.links new) → (after : Tree) × (renamed limits tree old new ≡ Some after) × Exchanged tree old new number after
  renames name gives room =
      let c = clears (map.get tree.links new) refl gives room in
      let d = some_node (map.get tree.nodes new.directory) Directory parent in
      let at = λ (t : Tree) (e : map.get t.nodes new.directory ≡ map.get tree.nodes new.directory). is_directory_at t new.directory d.0 (e ∙ d.1) (ap is_directory d.2) in
      let clear = replaced_clears tree new node (map.get tree.links new) c.0 refl c.1.is in
      let left = map.remove c.0.links old in
      let gives = renamed_of limits tree old new (put_link (take_link c.0 old) new number) (record {
        number = number;
        node = node;
        named = named;
        there = there;
        done = inr (
          apart,
          record {
            directory = d.0;
            parent = at tree refl;
            name = name;
            cleared = c.0;
            cleared_is = c.1.is;
            room = record { directory = d.0; parent = at (take_link c.0 old) c.1.nodes; names = lt-ltb _ limits.names c.1.names; links = lt-ltb _ limits.links (links_left c.0 c.1) };
            gives = refl;
          },
        );
      }) in
      let exchanged : Exchanged tree old new number (put_link (take_link c.0 old) new number) = record {
        gone = get_other links_total exact_links left new number old two ∙ get_removed links_total c.0.links old;
        moved = get_inserted links_total left new number;
        names = λ other p q. get_other links_total exact_links left new number other q ∙ get_left links_total exact_links c.0.links old other p ∙ clear.stays other q;
        nodes = c.1.others;
      } in
      (put_link (take_link c.0 old) new number, gives, exchanged)

-- ---- the call

-- a rename that moves a name
pub record IsRenaming (limits : Limits) (world : World) (s : Session) (names others : List (List ℕ)) (o : Outcome) : Type 0 where
  pub moving : Moving
  pub fixed : is_fixed others ≡ false
  pub looked : moving_of (viewed_trees (trees_of world)) s.cred names others ≡ Ok moving
  pub apart : is_one moving.found moving.target ≡ false
  pub moved : moved_outcome limits (seen limits world) s names others moving ≡ Ok o

-- a rename of two names of one thing
pub record IsOne (world : World) (s : Session) (names others : List (List ℕ)) : Type 0 where
  pub moving : Moving
  pub fixed : is_fixed others ≡ false
  pub looked : moving_of (viewed_trees (trees_of world)) s.cred names others ≡ Ok moving
  pub one : is_one moving.found moving.target ≡ true

pub rename_is : (limits : Limits) (world : World) (s : Session) (names others : List (List ℕ)) (o : Outcome) → rename_outcome limits (seen limits world) s names others ≡ Ok o → ((o ≡ tells reply.Done) × IsOne world s names others) ⊎ IsRenaming limits world s names others o
unfolding rename_outcome
rename_is limits world s names others o e =
    let all = seen limits world in
    let a = bind_ok (movable names) (λ _. chains.rename_new limits all s names others) o e in
    let b = bind_ok (movable others) (λ _. chains.rename_looked limits all s names others) o a.2 in
    let m = bind_ok (moving_of all.trees s.cred names others) (chains.rename_one limits all s names others) o b.2 in
    told m.0 m.1 (cond_false (is_fixed others) (plain Ebusy) b.0 b.1) (is_one m.0.found m.0.target) refl m.2
  where
    told : (m : Moving) → moving_of (viewed_trees (trees_of world)) s.cred names others ≡ Ok m → is_fixed others ≡ false → (b : Bool) → is_one m.found m.target ≡ b → cond b (ok (tells reply.Done)) (moved_outcome limits (seen limits world) s names others m) ≡ Ok o
        → ((o ≡ tells reply.Done) × IsOne world s names others) ⊎ IsRenaming limits world s names others o
    told m looked fixed true one f = inl (sym (same_ok _ o f), record { moving = m; fixed = fixed; looked = looked; one = one })
    told m looked fixed false one f = inr (record { moving = m; fixed = fixed; looked = looked; apart = one; moved = f })

-- the tests that a name which is moved has passed
pub record HasPassed (limits : Limits) (world : World) (s : Session) (names others : List (List ℕ)) (m : Moving) (o : Outcome) : Type 0 where
  pub below : (is_directory m.found.attributes.kind && is_below world.live (number_of m.found.object) (number_of m.new_directory)) ≡ false
  pub parent : Attributes
  pub answer : Unit {0}
  pub way : gives_way (seen limits world) s.cred parent m.found m.target ≡ Ok answer
  pub other : Unit {0}
  pub room : room_to_move (seen limits world) m ≡ Ok other
  pub made : o ≡ does (5 * limits.inode_charge + 2 * limits.block_charge) (Rename (number_of m.old_directory) (last_name names) (number_of m.new_directory) (last_name others))

pub has_passed : (limits : Limits) (world : World) (s : Session) (names others : List (List ℕ)) (m : Moving) (o : Outcome) → moved_outcome limits (seen limits world) s names others m ≡ Ok o → HasPassed limits world s names others m o
unfolding moved_outcome
has_passed limits world s names others m o e =
    let all = seen limits world in
    let b = bind_ok (not_below all m) (λ _. chains.moved_old limits all s names others m) o e in
    let p = bind_ok (writable_parent all.trees s.cred 1 m.old_place m.old_directory) (chains.moved_new limits all s names others m) o b.2 in
    let q = bind_ok (writable_parent all.trees s.cred 2 m.new_place m.new_directory) (chains.moved_sticky limits all s names others m p.0) o p.2 in
    let t = bind_ok (sticky s.cred 1 p.0 m.found) (λ _. chains.moved_way limits all s names others m q.0) o q.2 in
    let g = bind_ok (gives_way all s.cred q.0 m.found m.target) (λ _. chains.moved_room limits all s names others m) o t.2 in
    let r = bind_ok (room_to_move all m) (λ _. chains.moved_end limits all s names others m) o g.2 in
    record {
      below = cond_false (is_directory m.found.attributes.kind && is_below world.live (number_of m.found.object) (number_of m.new_directory)) (plain Einval) b.0 b.1;
      parent = q.0;
      answer = g.0;
      way = g.1;
      other = r.0;
      room = r.1;
      made = sym (same_ok _ o r.2);
    }

apart_is : (tree : Tree) (found : Found) (number : ℕ) (named : Option ℕ) (target : Option Found) → HasTarget tree named target → is_one found target ≡ false → number_of found.object ≡ number → same_number number named ≡ false
apart_is tree found number None target h e is = refl
apart_is tree found number (Some k) target h e is = ap (λ n. n == k) (sym is) ∙ ap (λ j. number_of found.object == j) (sym (ap number_of h.3)) ∙ ap (is_one found) (sym h.2) ∙ e

target_some : (tree : Tree) (named : Option ℕ) (target : Option Found) → HasTarget tree named target → is_some named ≡ is_some target
target_some tree None target h = ap is_some (sym h)
target_some tree (Some k) target h = ap is_some (sym h.2)

alike_is : (a b : Kind) (u : Unit {0}) → alike a b ≡ Ok u → same_kind a b ≡ true
alike_is File File u e = refl
alike_is Directory Directory u e = refl
alike_is File Directory u e = cc e
alike_is Directory File u e = cc e

empty_is : (a b : Bool) (u : Unit {0}) → empty_if a b ≡ Ok u → a ≡ true → b ≡ true
empty_is false b u e h = cc h
empty_is true true u e h = refl
empty_is true false u e h = cc e

gives_is : (limits : Limits) (world : World) (cred : Credential) (parent : Attributes) (found : Found) (node : Node) (named : Option ℕ) (target : Option Found) (u : Unit {0}) → found.attributes.kind ≡ node.kind → HasTarget world.live named target → gives_way (seen limits world) cred parent found target ≡ Ok u → CanGive world.live node named
gives_is limits world cred parent found node None target u kind h e = tt
gives_is limits world cred parent found node (Some k) target u kind h e =
    let f = h.1 in
    let is_kind_of : f.attributes.kind ≡ h.0.kind = ap (λ (a : Attributes). a.kind) h.5 in
    let last = λ (_ : Unit {0}). empty_if (is_directory f.attributes.kind) (names_in world.live (number_of f.object) == 0) in
    let t = bind_ok (sticky cred 2 parent f) (λ _. alike found.attributes.kind f.attributes.kind >>= last) u (ap (gives_way (seen limits world) cred parent found) (sym h.2) ∙ e) in
    let a = bind_ok (alike found.attributes.kind f.attributes.kind) last u t.2 in
    let kinds = ap (λ (k : Kind). same_kind k h.0.kind) (sym kind) ∙ ap (same_kind found.attributes.kind) (sym is_kind_of) ∙ alike_is found.attributes.kind f.attributes.kind a.0 a.1 in
    (h.0, h.4, kinds, λ d. ap (λ (n : ℕ). names_in world.live n == 0) (sym (ap number_of h.3)) ∙ empty_is (is_directory f.attributes.kind) (names_in world.live (number_of f.object) == 0) u a.2 (ap is_directory is_kind_of ∙ d))

room_is : (limits : Limits) (world : World) (m : Moving) (old new : Link) (named : Option ℕ) (u : Unit {0}) → number_of m.old_directory ≡ old.directory → number_of m.new_directory ≡ new.directory → HasTarget world.live named m.target → room_to_move (seen limits world) m ≡ Ok u → HasRoomTo limits world.live old new named
room_is limits world m old new named u from to h e = told (is_some m.target || number_of m.old_directory == number_of m.new_directory) refl e
  where
    told : (b : Bool) → (is_some m.target || number_of m.old_directory == number_of m.new_directory) ≡ b → cond b (ok tt) (has_room_for_name limits world.live (number_of m.new_directory)) ≡ Ok u → HasRoomTo limits world.live old new named
    told true t f = inl (ap (λ s. s || old.directory == new.directory) (target_some world.live named m.target h) ∙ ap (λ n. is_some m.target || n == new.directory) (sym from) ∙ ap (λ n. is_some m.target || number_of m.old_directory == n) (sym to) ∙ t)
    told false t f = inr (ap (λ n. nat_le limits.names (names_in world.live n)) (sym to) ∙ cond_false (nat_le limits.names (names_in world.live (number_of m.new_directory))) _ u f)

-- what is moved, and the tree that it gives
pub record HasMoved (limits : Limits) (world : World) (names others : List (List ℕ)) (m : Moving) : Type 0 where
  pub is : IsMoving world names others m
  pub after : Tree
  pub gives : renamed limits world.live (link_to is.from.directory (last_name names)) (link_to is.new (last_name others)) ≡ Some after
  pub exchanged : Exchanged world.live (link_to is.from.directory (last_name names)) (link_to is.new (last_name others)) is.number after

pub rename_gives : (limits : Limits) (world : World) (s : Session) (names others : List (List ℕ)) (o : Outcome) → 0 < limits.links → IsTree limits world.live → (p : IsRenaming limits world s names others o) → ((first : List ℕ) (more : List (List ℕ)) → others ≡ first ∷ more → is_name (last_name others) ≡ true)
    → HasMoved limits world names others p.moving
rename_gives limits world s names others o some_links whole p name =
    let m = p.moving in
    let tree = world.live in
    let is = moving_is world s.cred names others m whole.hierarchy p.fixed p.looked in
    let t = has_passed limits world s names others m o p.moved in
    let old = link_to is.from.directory (last_name names) in
    let new = link_to is.new (last_name others) in
    let from = ap number_of is.from.is_at in
    let to = ap number_of is.is_new in
    let parent = some_node (map.get tree.nodes is.new) Directory is.place.parent in
    let at = ap is_some (is_directory_at tree is.new parent.0 parent.1 (ap is_directory parent.2)) in
    let below = ap (λ b. is_directory is.node.kind && (b && is_at_or_below tree is.number is.new)) (sym at) ∙ ap (λ k. is_directory k && is_below tree is.number is.new) (sym is.kind) ∙ ap (λ n. is_directory m.found.attributes.kind && is_below tree n is.new) (sym is.is_number) ∙ ap (λ d. is_directory m.found.attributes.kind && is_below tree (number_of m.found.object) d) (sym to) ∙ t.below in
    let shown = and_both _ _ (and_both _ _ (name is.place.first is.place.more is.place.some_names) (ap not is.place.seen)) (ap not below) in
    let done = renames limits tree old new is.number is.node some_links whole is.from.named is.there is.place.parent (apart_is tree m.found is.number (map.get tree.links new) m.target is.place.has p.apart is.is_number) shown
    (gives_is limits world s.cred t.parent m.found is.node (map.get tree.links new) m.target t.answer is.kind is.place.has t.way)
    (room_is limits world m old new (map.get tree.links new) t.other from to is.place.has t.room) in
    record { is = is; after = done.0; gives = done.1; exchanged = done.2 }

pub rename_applies : (limits : Limits) (world : World) (s : Session) (names others : List (List ℕ)) (o : Outcome) → 0 < limits.links → IsTree limits world.live → (p : IsRenaming limits world s names others o) → ((first : List ℕ) (more : List (List ℕ)) → others ≡ first ∷ more → is_name (last_name others) ≡ true)
    → is_some (renamed limits world.live (link_to (number_of p.moving.old_directory) (last_name names)) (link_to (number_of p.moving.new_directory) (last_name others))) ≡ true
rename_applies limits world s names others o some_links whole p name =
    let m = p.moving in
    let h = rename_gives limits world s names others o some_links whole p name in
    ap (λ d. is_some (renamed limits world.live (link_to d (last_name names)) (link_to (number_of m.new_directory) (last_name others)))) (ap number_of h.is.from.is_at)
    ∙ ap (λ d. is_some (renamed limits world.live (link_to h.is.from.directory (last_name names)) (link_to d (last_name others)))) (ap number_of h.is.is_new)
    ∙ ap is_some h.gives
