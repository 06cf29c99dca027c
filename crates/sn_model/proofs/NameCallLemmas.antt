-- What the calls on names have found, and that what they decide can be applied.
use Rattle.std.proofs.Common.{◌≡◌, inl, ℕ, ◌+◌, ◌*◌, ◌==◌, not, Bool, true, false, cond, nat_le, nat_lt, List, [], ◌∷◌, Option, Some, None, Ok, Err, is_some, is_none, refl, sym, ap, ◌∙◌}
use Rattle.std.specs.Prelude.{IsSomeAnd}
use Rattle.std.specs.Option.{option_map}
use Rattle.std.specs.FinMap as map
use Rattle.std.proofs.lemmas.Bool.{lt-ltb, leb-false}
use Rattle.sn_limits.specs.declared.kind.Kind.{Kind}
use Rattle.sn_limits.specs.declared.kind.Kind.TheVariants.{File, Directory}
use Rattle.sn_limits.specs.declared.limits.Limits.{Limits}
use Rattle.sn_limits.specs.Names.{is_name}
use Rattle.sn_walk.specs.declared.object.Home.TheVariants.{Live, Frozen}
use Rattle.sn_walk.specs.declared.object.Object.{Object}
use Rattle.sn_walk.specs.declared.object.Object.TheVariants as object
use Rattle.sn_walk.specs.declared.view.Attributes.{Attributes}
use Rattle.sn_walk.specs.declared.walking.Found.{Found}
use Rattle.sn_walk.specs.declared.walking.Walked.{Walked}
use Rattle.sn_walk.specs.declared.walking.Walked.TheVariants.{Root, Name}
use Rattle.sn_walk.specs.Objects.{is_in_tree_of, number_of}
use Rattle.sn_walk.specs.Paths.{last_after}
use Rattle.sn_walk.specs.Views.{ViewedTrees, attributes_at, child_of, is_directory, is_hidden_name, is_snapshot}
use Rattle.sn_walk.specs.Walks.{EndsAt, found_as, found_at, walk_of}
use Rattle.sn_walk.proofs.ChainLemmas.{bind_ok}
use Rattle.sn_walk.proofs.WalkLemmas.{ends_at}
use Rattle.sn_model.specs.declared.change.Change.TheVariants.{AddLink, Remove}
use Rattle.sn_model.specs.declared.reply.Errno.TheVariants.{Ebusy, Enotempty}
use Rattle.sn_model.specs.declared.reply.Refusal.{Refusal}
use Rattle.sn_model.specs.declared.reply.Reply.TheVariants as reply
use Rattle.sn_model.specs.declared.session.Session.{Session}
use Rattle.sn_model.specs.Changes.{is_file, linked, put_link, removed}
use Rattle.sn_model.specs.FileCalls.{no_directory}
use Rattle.sn_model.specs.NameCalls.{empty, home_of, is_listable, link_outcome, may_link, read, readdir_outcome, rmdir_outcome}
use Rattle.sn_model.specs.NameTree.{HasKind}
use Rattle.sn_model.specs.Outcomes.{Outcome, does, tells}
use Rattle.sn_model.specs.Seen.{last_name, listed, parent_of, seen}
use Rattle.sn_model.specs.Tests.{full, granted, live, not_present, one_tree, plain, prefix, sticky, there, writable_parent}
use Rattle.sn_model.specs.Tree.{Node, Tree, attributes_of, link_count, link_to, names_for, names_in}
use Rattle.sn_model.specs.World.{World, trees_of, viewed_trees}
use Rattle.sn_model.proofs.AccessCallLemmas.{found_has, full_has, some_found, there_is}
use Rattle.sn_model.proofs.ChainLemmas.{and_both}
use Rattle.sn_model.proofs.DecisionLemmas.{IsNew, kind_is, live_node, new_name, ok, same_ok, seen_node, walked_ok}
use Rattle.sn_model.proofs.MoveLemmas.{some_node}
use Rattle.sn_model.proofs.PartLemmas.{is_directory_at, is_file_at, linked_of, removed_of, unlinked_of}
use Rattle.sn_model.proofs.NameChains as chains

-- ---- what a path leads to in the live tree

-- a test that passed
pub cond_true : (b : Bool) (f : Refusal) (u : Unit {0}) → cond b (ok tt) (Err f) ≡ Ok u → b ≡ true
cond_true true f u e = refl
cond_true false f u e = cc e

pub cond_false : (b : Bool) (f : Refusal) (u : Unit {0}) → cond b (Err f) (ok tt) ≡ Ok u → b ≡ false
cond_false true f u e = cc e
cond_false false f u e = refl

as_object : (place : ℕ) (o : Object) (a : Option Attributes) (found : Found) → found_as place o a ≡ Some found → o ≡ found.object
as_object place o None found e = cc e
as_object place o (Some a) found e = ap (λ (f : Found). f.object) (some_found (record { object = o; place = place; attributes = a }) found e)

-- what is in the tree of a live node is live
pub same_live : (n : ℕ) (o : Object) → is_in_tree_of (object.Node Live n) o ≡ true → (d : ℕ) × (o ≡ object.Node Live d)
same_live n (object.Node Live d) e = (d, refl)
same_live n (object.Node (Frozen s) d) e = cc e
same_live n object.Snapshots e = cc e

module _ (world : World) where
  abbrev trees : ViewedTrees
  trees = viewed_trees (trees_of world)

  -- a live node has its name in a live directory
  pub child_live : (directory : Object) (name : List ℕ) (n : ℕ) → child_of trees directory name ≡ Some (object.Node Live n) → (d : ℕ) × (directory ≡ object.Node Live d) × (map.get world.live.links (link_to d name) ≡ Some n)
  child_live (object.Node Live d) name n e = told (is_hidden_name d name) (map.get world.live.links (link_to d name)) refl e
    where
      told : (b : Bool) (o : Option ℕ) → map.get world.live.links (link_to d name) ≡ o → cond b (Some object.Snapshots) (option_map (object.Node Live) o) ≡ Some (object.Node Live n) → (c : ℕ) × (object.Node Live d ≡ object.Node Live c) × (map.get world.live.links (link_to c name) ≡ Some n)
      told true o is f = cc f
      told false None is f = cc f
      told false (Some k) is f = let same : k ≡ n = cc f in (d, refl, is ∙ ap (λ (j : ℕ). Some j) same)
  child_live (object.Node (Frozen s) d) name n e = told ((trees.tree (Frozen s)).link d name) e
    where
      told : (o : Option ℕ) → option_map (object.Node (Frozen s)) o ≡ Some (object.Node Live n) → (c : ℕ) × (object.Node (Frozen s) d ≡ object.Node Live c) × (map.get world.live.links (link_to c name) ≡ Some n)
      told None f = cc f
      told (Some k) f = cc f
  child_live object.Snapshots name n e = told (is_snapshot trees name) e
    where
      told : (b : Bool) → cond b (Some (object.Node (Frozen name) 2)) None ≡ Some (object.Node Live n) → (c : ℕ) × (object.Snapshots ≡ object.Node Live c) × (map.get world.live.links (link_to c name) ≡ Some n)
      told true f = cc f
      told false f = cc f

  -- the name of a live node that a path leads to
  pub record IsNamed (names : List (List ℕ)) (at : Object × ℕ) (number : ℕ) : Type 0 where
    pub directory : ℕ
    pub is_at : at.0 ≡ object.Node Live directory
    pub named : map.get world.live.links (link_to directory (last_name names)) ≡ Some number

  pub named_at : (names : List (List ℕ)) (w : Walked) (at : Object × ℕ) (found : Found) (n : ℕ) → EndsAt trees names w → parent_of Ebusy w ≡ Ok at → found_at trees w ≡ Some found → live found.object ≡ Ok n → IsNamed names at n
  named_at names Root at found n ends e f l = cc e
  named_at [] (Name directory place o) at found n ends e f l = cc ends
  named_at (name ∷ names) (Name directory place None) at found n ends e f l = cc f
  named_at (name ∷ names) (Name directory place (Some o)) at found n ends e f l =
      let same = same_ok (directory, place) at e in
      let is : o ≡ object.Node Live n = as_object (place + 1) o (attributes_at trees o) found f ∙ live_node found.object n l in
      let c = child_live directory (last_after name names) n (sym ends.1 ∙ ap (λ (x : Object). Some x) is) in
      record { directory = c.0; is_at = ap (λ (p : Object × ℕ). p.0) (sym same) ∙ c.1; named = c.2 }

  pub live_is : (found : Found) (n : ℕ) → attributes_at trees found.object ≡ Some found.attributes → live found.object ≡ Ok n → (x : Node) × (map.get world.live.nodes n ≡ Some x) × (found.attributes ≡ attributes_of world.live n x)
  live_is found n has l = seen_node world.live n (map.get world.live.nodes n) found.attributes (ap (attributes_at trees) (sym (live_node found.object n l)) ∙ has)

  -- a live directory that a walk has passed
  pub passed_kind : (d : ℕ) → IsSomeAnd (attributes_at trees (object.Node Live d)) (λ a. a.kind ≡ Directory) → HasKind world.live d Directory
  passed_kind d h = told (map.get world.live.nodes d) h
    where
      told : (o : Option Node) → IsSomeAnd (option_map (attributes_of world.live d) o) (λ a. a.kind ≡ Directory) → IsSomeAnd o (λ x. x.kind ≡ Directory)
      told None k = k
      told (Some x) k = k

-- ---- rmdir

pub record Removes (limits : Limits) (tree : Tree) (names : List (List ℕ)) (o : Outcome) : Type 0 where
  pub directory : ℕ
  pub number : ℕ
  pub node : Node
  pub named : map.get tree.links (link_to directory (last_name names)) ≡ Some number
  pub there : map.get tree.nodes number ≡ Some node
  pub kind : is_directory node.kind ≡ true
  pub empty : (names_in tree number == 0) ≡ true
  pub made : o ≡ does (2 * limits.inode_charge + limits.block_charge) (Remove directory (last_name names))

pub rmdir_is : (limits : Limits) (world : World) (s : Session) (names : List (List ℕ)) (o : Outcome) → rmdir_outcome limits (seen limits world) s names ≡ Ok o → Removes limits world.live names o
unfolding rmdir_outcome
rmdir_is limits world s names o e =
    let all = seen limits world in
    let w = bind_ok (prefix all.trees s.cred 1 names) (chains.rmdir_at limits all s names) o e in
    let at = bind_ok (parent_of Ebusy w.0) (chains.rmdir_there limits all s names w.0) o w.2 in
    let x = bind_ok (there (found_at all.trees w.0)) (chains.rmdir_kind limits all s names at.0) o at.2 in
    let k = bind_ok (is_listable x.0) (λ _. chains.rmdir_live limits all s names at.0 x.0) o x.2 in
    let n = bind_ok (live x.0.object) (chains.rmdir_parent limits all s names at.0 x.0) o k.2 in
    let p = bind_ok (writable_parent all.trees s.cred 1 at.0.1 at.0.0) (chains.rmdir_sticky limits all s names at.0 x.0 n.0) o n.2 in
    let t = bind_ok (sticky s.cred 1 p.0 x.0) (λ _. chains.rmdir_empty limits all s names at.0 n.0) o p.2 in
    let m = bind_ok (empty (names_in world.live n.0 == 0)) (λ _. chains.rmdir_end limits all s names at.0) o t.2 in
    let found = there_is (found_at all.trees w.0) x.0 x.1 in
    let ends = ends_at all.trees s.cred names w.0 (walked_ok 1 (walk_of all.trees s.cred names) w.0 w.1) in
    let is = named_at world names w.0 at.0 x.0 n.0 ends at.1 found n.1 in
    let node = live_is world x.0 n.0 (found_has all.trees w.0 x.0 found) n.1 in
    record {
      directory = is.directory;
      number = n.0;
      node = node.0;
      named = is.named;
      there = node.1;
      kind = ap (λ (a : Attributes). is_directory a.kind) (sym node.2) ∙ cond_true (is_directory x.0.attributes.kind) _ k.0 k.1;
      empty = cond_true (names_in world.live n.0 == 0) (plain Enotempty) m.0 m.1;
      made = sym (same_ok _ o m.2) ∙ ap (λ (d : Object). does (2 * limits.inode_charge + limits.block_charge) (Remove (number_of d) (last_name names))) is.is_at;
    }

pub rmdir_applies : (limits : Limits) (tree : Tree) (names : List (List ℕ)) (o : Outcome) (p : Removes limits tree names o) → is_some (removed tree (link_to p.directory (last_name names))) ≡ true
rmdir_applies limits tree names o p =
    let link = link_to p.directory (last_name names) in
    ap is_some (removed_of tree link _ (record { number = p.number; node = p.node; named = p.named; there = p.there; gone = unlinked_of tree link p.number p.node _ (inl (record { kind = p.kind; empty = p.empty; gives = refl })) }))

-- ---- link

pub record Links (limits : Limits) (tree : Tree) (others : List (List ℕ)) (o : Outcome) : Type 0 where
  pub directory : ℕ
  pub new : IsNew tree others directory
  pub parent : HasKind tree directory Directory
  pub number : ℕ
  pub node : Node
  pub there : map.get tree.nodes number ≡ Some node
  pub kind : is_directory node.kind ≡ false
  pub links : nat_lt (link_count node.kind (names_for tree number)) limits.links ≡ true
  pub room : nat_le limits.names (names_in tree directory) ≡ false
  pub made : o ≡ does (2 * limits.inode_charge + limits.block_charge) (AddLink directory (last_name others) number)

-- the directory of what isn't there
home_at : (w : Walked) (at : Object × ℕ) → not_present w ≡ Ok at → home_of w ≡ at.0
home_at Root at e = cc e
home_at (Name directory place (Some o)) at e = cc e
home_at (Name directory place None) at e = ap (λ (p : Object × ℕ). p.0) (same_ok (directory, place) at e)

pub link_is : (limits : Limits) (world : World) (s : Session) (names others : List (List ℕ)) (o : Outcome) → link_outcome limits (seen limits world) s names others ≡ Ok o → Links limits world.live others o
unfolding link_outcome
link_is limits world s names others o e =
    let all = seen limits world in
    let x = bind_ok (full all.trees s.cred 1 names) (chains.link_kind limits all s others) o e in
    let k = bind_ok (no_directory x.0) (λ _. chains.link_walk limits all s others x.0) o x.2 in
    let w = bind_ok (prefix all.trees s.cred 2 others) (chains.link_tree limits all s others x.0) o k.2 in
    let t = bind_ok (one_tree x.0.object (home_of w.0)) (λ _. chains.link_live limits all s others x.0 w.0) o w.2 in
    let n = bind_ok (live x.0.object) (chains.link_new limits all s others x.0 w.0) o t.2 in
    let at = bind_ok (not_present w.0) (chains.link_parent limits all s others x.0 n.0) o n.2 in
    let p = bind_ok (writable_parent all.trees s.cred 2 at.0.1 at.0.0) (λ _. chains.link_count limits all s others x.0 n.0 at.0) o at.2 in
    let c = bind_ok (may_link limits x.0) (λ _. chains.link_room limits all s others at.0 n.0) o p.2 in
    let r = bind_ok (all.names.room (number_of at.0.0)) (λ _. chains.link_end limits all s others at.0 n.0) o c.2 in
    let ends = ends_at all.trees s.cred others w.0 (walked_ok 2 (walk_of all.trees s.cred others) w.0 w.1) in
    let joined = ap (λ (d : Object). is_in_tree_of d at.0.0) (sym (live_node x.0.object n.0 n.1)) ∙ ap (is_in_tree_of x.0.object) (sym (home_at w.0 at.0 at.1)) ∙ cond_true (is_in_tree_of x.0.object (home_of w.0)) _ t.0 t.1 in
    let d = same_live n.0 at.0.0 joined in
    let here : live at.0.0 ≡ Ok d.0 = ap live d.1 in
    let node = live_is world x.0 n.0 (full_has all.trees s names x.0 x.1) n.1 in
    record {
      directory = d.0;
      new = new_name world others w.0 at.0 d.0 ends at.1 here;
      parent = passed_kind world d.0 (kind_is world others w.0 at.0 d.0 ends at.1 here);
      number = n.0;
      node = node.0;
      there = node.1;
      kind = ap (λ (a : Attributes). is_directory a.kind) (sym node.2) ∙ cond_false (is_directory x.0.attributes.kind) _ k.0 k.1;
      links = ap (λ (a : Attributes). nat_lt a.links limits.links) (sym node.2) ∙ cond_true (nat_lt x.0.attributes.links limits.links) _ c.0 c.1;
      room = ap (λ (y : Object). nat_le limits.names (names_in world.live (number_of y))) (sym d.1) ∙ cond_false (nat_le limits.names (names_in world.live (number_of at.0.0))) _ r.0 r.1;
      made = sym (same_ok _ o r.2) ∙ ap (λ (y : Object). does (2 * limits.inode_charge + limits.block_charge) (AddLink (number_of y) (last_name others) n.0)) d.1;
    }

pub link_gives : (limits : Limits) (tree : Tree) (others : List (List ℕ)) (o : Outcome) (p : Links limits tree others o) → is_name (last_name others) ≡ true → linked limits tree (link_to p.directory (last_name others)) p.number ≡ Some (put_link tree (link_to p.directory (last_name others)) p.number)
link_gives limits tree others o p name =
    let link = link_to p.directory (last_name others) in
    let parent = some_node (map.get tree.nodes p.directory) Directory p.parent in
    linked_of limits tree link p.number _ (record {
      node = p.node;
      file = is_file_at tree p.number p.node p.there (file p.node.kind p.kind);
      vacant = and_both _ _ (and_both _ _ name (ap not p.new.seen)) (ap is_none p.new.absent);
      room = record {
        directory = parent.0;
        parent = is_directory_at tree p.directory parent.0 parent.1 (ap is_directory parent.2);
        names = lt-ltb (names_in tree p.directory) limits.names (leb-false limits.names (names_in tree p.directory) p.room);
        links = few p.node.kind p.kind p.links;
      };
      gives = refl;
    })
  where
    file : (k : Kind) → is_directory k ≡ false → is_file k ≡ true
    file File e = refl
    file Directory e = cc e

    few : (k : Kind) → is_directory k ≡ false → nat_lt (link_count k (names_for tree p.number)) limits.links ≡ true → nat_lt (names_for tree p.number) limits.links ≡ true
    few File e h = h
    few Directory e h = cc e

pub link_applies : (limits : Limits) (tree : Tree) (others : List (List ℕ)) (o : Outcome) (p : Links limits tree others o) → is_name (last_name others) ≡ true → is_some (linked limits tree (link_to p.directory (last_name others)) p.number) ≡ true
link_applies limits tree others o p name = ap is_some (link_gives limits tree others o p name)

-- ---- readdir

pub readdir_tells : (limits : Limits) (world : World) (s : Session) (names : List (List ℕ)) (o : Outcome) → readdir_outcome (seen limits world) s names ≡ Ok o → (told : List (List ℕ)) × (o ≡ tells (reply.Names told))
unfolding readdir_outcome
readdir_tells limits world s names o e =
    let all = seen limits world in
    let x = bind_ok (full all.trees s.cred 1 names) (chains.readdir_kind all s) o e in
    let k = bind_ok (is_listable x.0) (λ _. chains.readdir_read all s x.0) o x.2 in
    let g = bind_ok (granted s.cred 1 x.0.place read (Some x.0.attributes)) (λ _. chains.readdir_end all s x.0) o k.2 in
    (listed (trees_of world) x.0.object, sym (same_ok _ o g.2))
