-- The outcomes of the calls on files by their names.
use Rattle.std.proofs.Common.{◌≡◌, ℕ, ◌+◌, ◌*◌, ◌&&◌, ◌||◌, ◌<◌, Bool, true, false, cond, not, List, [], ◌∷◌, Option, Some, None, Result, Ok, Err, is_some, refl, sym, ap, subst, ◌∙◌, inr, arith, true≢false}
use Rattle.std.specs.Prelude.{IsSomeAnd, ok_or}
use Rattle.std.specs.FinMap as map
use Rattle.std.specs.Option.{option_map}
use Rattle.std.proofs.lemmas.Bool.{le-leb}
use Rattle.sn_acl.specs.declared.entries.Entry.{Entry}
use Rattle.sn_acl.specs.declared.modes.Mode.{Mode}
use Rattle.sn_limits.specs.declared.kind.Kind.{Kind}
use Rattle.sn_limits.specs.declared.kind.Kind.TheVariants.{File, Directory}
use Rattle.sn_limits.specs.declared.limits.Limits.{Limits}
use Rattle.sn_walk.specs.declared.object.Home.{Home}
use Rattle.sn_walk.specs.declared.object.Home.TheVariants.{Live, Frozen}
use Rattle.sn_walk.specs.declared.object.Object.{Object}
use Rattle.sn_walk.specs.declared.object.Object.TheVariants as object
use Rattle.sn_walk.specs.declared.view.Attributes.{Attributes}
use Rattle.sn_walk.specs.declared.walking.Found.{Found}
use Rattle.sn_walk.specs.declared.walking.Walked.{Walked}
use Rattle.sn_walk.specs.declared.walking.Walked.TheVariants.{Root, Name}
use Rattle.sn_walk.specs.Chains.{◌>>=◌}
use Rattle.sn_walk.specs.Objects.{number_of}
use Rattle.sn_walk.specs.Paths.{last_after}
use Rattle.sn_walk.specs.Views.{ViewedTrees, attributes_at, child_of, is_directory, is_hidden_name, is_snapshot}
use Rattle.sn_walk.specs.Walks.{EndsAt, found_as, found_at, found_last, walk_of}
use Rattle.sn_walk.proofs.ChainLemmas.{bind_ok}
use Rattle.sn_walk.proofs.WalkLemmas.{ends_at}
use Rattle.sn_model.specs.declared.call.Call.{Call}
use Rattle.sn_model.specs.declared.call.Call.TheVariants as call
use Rattle.sn_model.specs.declared.change.Change.TheVariants.{Remove}
use Rattle.sn_model.specs.declared.reply.Errno.{Errno}
use Rattle.sn_model.specs.declared.reply.Errno.TheVariants.{Einval, Eisdir, Enoent, Eperm, Emfile}
use Rattle.sn_model.specs.declared.reply.Refusal.{Refusal}
use Rattle.sn_model.specs.declared.reply.Reply.TheVariants as reply
use Rattle.sn_model.specs.declared.session.Session.{Session}
use Rattle.sn_model.specs.AccessCalls.{live_if}
use Rattle.sn_model.specs.Calls.{seen}
use Rattle.sn_model.specs.Changes.{cut, is_file, made, removed, take_link}
use Rattle.sn_model.specs.Charges.{charge_for}
use Rattle.sn_model.specs.Descriptors.{next_descriptor}
use Rattle.sn_model.specs.FileCalls.{OpenFlags, access_of, are_flags, creating, file, file_of, first_ownership, flags_argument, no_directory, not_exclusive, open_absent, open_found, open_outcome, open_there, opens_new, opens_there, unlink_outcome}
use Rattle.sn_model.specs.NameTree.{HasKind}
use Rattle.sn_model.specs.Outcomes.{Outcome, Opens, does}
use Rattle.sn_model.specs.Seen.{last_name, parent_of}
use Rattle.sn_model.specs.Steps.{IsNumber}
use Rattle.sn_model.specs.Tests.{granted, has_room, live, logged_in, plain, prefix, sticky, there, writable_parent}
use Rattle.sn_model.specs.Tree.{Node, Tree, attributes_of, link_to, viewed}
use Rattle.sn_model.specs.World.{World, tree_in, trees_of, viewed_if, viewed_trees}
use Rattle.sn_model.specs.Worlds.{IsWorld}
use Rattle.sn_model.proofs.AccessCallLemmas.{found_has, there_is}
use Rattle.sn_model.proofs.DecisionLemmas.{HasPlace, default_at, granted_at, live_node, ok, room_is, same_ok, seen_node, walked_ok}
use Rattle.sn_model.proofs.MoveLemmas.{is_kind, some_node}
use Rattle.sn_model.proofs.ChargeLemmas.{remove_pays}
use Rattle.sn_model.proofs.OutcomeLemmas.{IsDecided, IsOpening, done, turned}
use Rattle.sn_model.proofs.PartLemmas.{cut_of, is_file_at, removed_of, unlinked_of}
use Rattle.sn_model.proofs.SearchLemmas.{is_found}
use Rattle.sn_model.proofs.SeatLemmas.{seat_of}

-- ---- what a walk found

-- a live node's name is in a directory of the live tree
pub record IsNamed (tree : Tree) (at : Object) (name : List ℕ) (number : ℕ) : Type 0 where
  pub directory : ℕ
  pub is : at ≡ object.Node Live directory
  pub named : map.get tree.links (link_to directory name) ≡ Some number

some_number : (home : Home) (o : Option ℕ) (number : ℕ) → option_map (object.Node home) o ≡ Some (object.Node Live number) → (home ≡ Live) × (o ≡ Some number)
some_number home None number e = cc
some_number home (Some n) number e = let same : object.Node home n ≡ object.Node Live number = cc in (cc same, ap (λ (k : ℕ). Some k) (cc same))

pub child_live : (world : World) (at : Object) (name : List ℕ) (number : ℕ) → child_of (viewed_trees (trees_of world)) at name ≡ Some (object.Node Live number) → IsNamed world.live at name number
child_live world (object.Node Live d) name number e = told (is_hidden_name d name) e
  where
    told : (b : Bool) → cond b (Some object.Snapshots) (option_map (object.Node Live) (map.get world.live.links (link_to d name))) ≡ Some (object.Node Live number) → IsNamed world.live (object.Node Live d) name number
    told true f = cc
    told false f = record { directory = d; is = refl; named = (some_number Live (map.get world.live.links (link_to d name)) number f).1 }
child_live world (object.Node (Frozen s) d) name number e = let never : Frozen s ≡ Live = (some_number (Frozen s) _ number e).0 in cc
child_live world object.Snapshots name number e = told (is_snapshot (viewed_trees (trees_of world)) name) e
  where
    told : (b : Bool) → cond b (Some (object.Node (Frozen name) 2)) None ≡ Some (object.Node Live number) → IsNamed world.live object.Snapshots name number
    told true f = cc
    told false f = cc

object_is : (place : ℕ) (o : Object) (a : Option Attributes) (found : Found) → found_as place o a ≡ Some found → found.object ≡ o
object_is place o None found e = cc
object_is place o (Some a) found e = let same : record { object = o; place = place; attributes = a } ≡ found = cc in ap (λ (f : Found). f.object) (sym same)

abbrev pub parent_at : Object → ℕ → Result (Object × ℕ) Refusal
parent_at directory place = Ok (directory, place)

-- what a path's last name denotes, where it is a live node
pub named_at : (world : World) (names : List (List ℕ)) (w : Walked) (without : Errno) (at : Object × ℕ) (found : Found) (number : ℕ) → EndsAt (viewed_trees (trees_of world)) names w → parent_of without w ≡ Ok at → found_at (viewed_trees (trees_of world)) w ≡ Some found → found.object ≡ object.Node Live number → IsNamed world.live at.0 (last_name names) number
named_at world names Root without at found number ends p f is = cc
named_at world [] (Name directory place o) without at found number ends p f is = cc
named_at world (name ∷ more) (Name directory place None) without at found number ends p f is = cc
named_at world (name ∷ more) (Name directory place (Some o)) without at found number ends p f is =
    let trees = viewed_trees (trees_of world) in
    let same : (directory, place) ≡ at = same_ok (directory, place) at p in
    let child : child_of trees directory (last_after name more) ≡ Some (object.Node Live number) = sym ends.1 ∙ ap (λ (x : Object). Some x) (sym (object_is (place + 1) o (attributes_at trees o) found f) ∙ is) in
    subst (λ (x : Object). IsNamed world.live x (last_after name more) number) (ap (λ (x : Object × ℕ). x.0) same) (child_live world directory (last_after name more) number child)

other_kind : (k : Kind) → is_directory k ≡ false → k ≡ File
other_kind File e = refl
other_kind Directory e = cc

-- a file that was found is there
file_seen : (tree : Tree) (number : ℕ) (a : Attributes) → option_map (attributes_of tree number) (map.get tree.nodes number) ≡ Some a → is_directory a.kind ≡ false → HasKind tree number File
file_seen tree number a e k = let x = seen_node tree number (map.get tree.nodes number) a e in is_kind tree number x.0 File x.1 (ap (λ (b : Attributes). b.kind) (sym x.2) ∙ other_kind a.kind k)

seen_file : (world : World) (home : Home) (number : ℕ) (a : Attributes) → attributes_at (viewed_trees (trees_of world)) (object.Node home number) ≡ Some a → is_directory a.kind ≡ false → IsSomeAnd (tree_in (trees_of world) home) (λ tree. HasKind tree number File)
seen_file world Live number a e k = file_seen world.live number a e k
seen_file world (Frozen s) number a e k = told (map.get world.frozen s) e
  where
    told : (o : Option Tree) → (viewed_if o).node number ≡ Some a → IsSomeAnd o (λ tree. HasKind tree number File)
    told None f = cc
    told (Some tree) f = file_seen tree number a f k

-- ---- unlink

none_directory : (found : Found) (u : Unit {0}) → no_directory found ≡ Ok u → is_directory found.attributes.kind ≡ false
none_directory found u e = told (is_directory found.attributes.kind) e
  where
    told : (b : Bool) → cond b (Err (plain Eperm)) (ok tt) ≡ Ok u → b ≡ false
    told true f = cc
    told false f = refl

module _ (limits : Limits) (world : World) (session : ℕ) (s : Session) (names : List (List ℕ)) where
  abbrev trees : ViewedTrees
  trees = viewed_trees (trees_of world)

  abbrev Decides : Call → Outcome → Type 0
  Decides c o = IsDecided limits world session c o

  -- the name of a live file can be taken
  name_goes : (at : Object) (found : Found) (number : ℕ) → IsNamed world.live at (last_name names) number → attributes_at trees (object.Node Live number) ≡ Some found.attributes → is_directory found.attributes.kind ≡ false → is_some (removed world.live (link_to (number_of at) (last_name names))) ≡ true
  name_goes at found number n a k =
      let x = seen_node world.live number (map.get world.live.nodes number) found.attributes a in
      let link = link_to n.directory (last_name names) in
      let kind : is_directory x.0.kind ≡ false = ap (λ (b : Attributes). is_directory b.kind) (sym x.2) ∙ k in
      ap (λ (o : Object). is_some (removed world.live (link_to (number_of o) (last_name names)))) n.is
      ∙ ap is_some (removed_of world.live link (take_link world.live link) (record { number = number; node = x.0; named = n.named; there = x.1; gone = unlinked_of world.live link number x.0 _ (inr (record { kind = kind; gives = refl })) }))

  name_pays : (at : Object) (found : Found) (number : ℕ) → IsNamed world.live at (last_name names) number → attributes_at trees (object.Node Live number) ≡ Some found.attributes → is_directory found.attributes.kind ≡ false → 3 * limits.inode_charge + limits.block_charge ≡ charge_for limits world.live (Remove (number_of at) (last_name names))
  name_pays at found number n a k =
      let x = seen_node world.live number (map.get world.live.nodes number) found.attributes a in
      let kind : is_directory x.0.kind ≡ false = ap (λ (b : Attributes). is_directory b.kind) (sym x.2) ∙ k in
      remove_pays limits world.live n.directory (last_name names) number x.0 false n.named x.1 kind
      ∙ ap (λ (o : Object). charge_for limits world.live (Remove (number_of o) (last_name names))) (sym n.is)

  pub unlink_is : (path : List ℕ) (o : Outcome) → unlink_outcome limits trees s names ≡ Ok o → Decides (call.Unlink path) o
  unfolding unlink_outcome
  unlink_is path o e =
      let last = λ (at : Object × ℕ). ok (does (3 * limits.inode_charge + limits.block_charge) (Remove (number_of at.0) (last_name names))) in
      let behind = λ (w : Walked) (f : Found). parent_of Eperm w >>= (λ at. writable_parent trees s.cred 1 at.1 at.0 >>= (λ parent. sticky s.cred 1 parent f >>= (λ _. last at))) in
      let w = bind_ok (prefix trees s.cred 1 names) (λ w. there (found_at trees w) >>= (λ f. no_directory f >>= (λ _. live f.object >>= (λ _. behind w f)))) o e in
      let f = bind_ok (there (found_at trees w.0)) (λ f. no_directory f >>= (λ _. live f.object >>= (λ _. behind w.0 f))) o w.2 in
      let d = bind_ok (no_directory f.0) (λ _. live f.0.object >>= (λ _. behind w.0 f.0)) o f.2 in
      let l = bind_ok (live f.0.object) (λ _. behind w.0 f.0) o d.2 in
      let at = bind_ok (parent_of Eperm w.0) (λ at. writable_parent trees s.cred 1 at.1 at.0 >>= (λ parent. sticky s.cred 1 parent f.0 >>= (λ _. last at))) o l.2 in
      let p = bind_ok (writable_parent trees s.cred 1 at.0.1 at.0.0) (λ parent. sticky s.cred 1 parent f.0 >>= (λ _. last at.0)) o at.2 in
      let t = bind_ok (sticky s.cred 1 p.0 f.0) (λ _. last at.0) o p.2 in
      let ends = ends_at trees s.cred names w.0 (walked_ok 1 (walk_of trees s.cred names) w.0 w.1) in
      let is = live_node f.0.object l.0 l.1 in
      let found = there_is (found_at trees w.0) f.0 f.1 in
      let n = named_at world names w.0 Eperm at.0 f.0 l.0 ends at.1 found is in
      let a = ap (attributes_at trees) (sym is) ∙ found_has trees w.0 f.0 found in
      subst (Decides (call.Unlink path)) (same_ok _ o t.2) (done limits world session (call.Unlink path) refl (3 * limits.inode_charge + limits.block_charge) (Remove (number_of at.0.0) (last_name names)) (name_pays at.0.0 f.0 l.0 n a (none_directory f.0 d.0 d.1)) tt tt (λ h. cc h) (λ h. omega (arith, h))
      (λ whole. name_goes at.0.0 f.0 l.0 n a (none_directory f.0 d.0 d.1)))

  -- ---- open

  -- a session that is logged in gets a descriptor
  given_is : (o : Option ℕ) (fd : ℕ) → ok_or o (plain Emfile) ≡ Ok fd → o ≡ Some fd
  given_is None fd e = cc
  given_is (Some n) fd e = ap (λ (k : ℕ). Some k) (same_ok n fd e)

  opening : (fd : ℕ) → logged_in world session ≡ Ok s → next_descriptor world.descriptors session ≡ Ok fd → IsOpening world session fd
  opening fd by e = record {
    caller = subst (λ (o : Option (Option Session)). IsSomeAnd o (λ (x : Option Session). is_some x ≡ true)) (sym (seat_of world session s by)) refl;
    next = e;
    number = (is_found (λ n. is_some (map.get world.descriptors (session, n))) 0 64 fd (given_is _ fd e)).2;
  }

  -- what is opened is a file
  record IsOpened (found : Found) (at : Home × ℕ) : Type 0 where
    object : found.object ≡ object.Node at.0 at.1
    kind : is_directory found.attributes.kind ≡ false

  opened_is : (found : Found) (x : Object) (at : Home × ℕ) → found.object ≡ x → file_of found x ≡ Ok at → IsOpened found at
  opened_is found object.Snapshots at is e = cc
  opened_is found (object.Node home number) at is e = told (is_directory found.attributes.kind) refl e
    where
      pair : Home → ℕ → Home × ℕ
      pair h n = (h, n)

      told : (b : Bool) → is_directory found.attributes.kind ≡ b → cond b (Err (plain Eisdir)) (ok (pair home number)) ≡ Ok at → IsOpened found at
      told true k f = cc
      told false k f = let same = same_ok (pair home number) at f in record { object = is ∙ ap (λ (p : Home × ℕ). object.Node p.0 p.1) same; kind = k }

  -- what is opened for writing is live
  writes_live : (b : Bool) (x : Object) (at : Home × ℕ) (u : Unit {0}) → x ≡ object.Node at.0 at.1 → live_if b x ≡ Ok u → b ≡ true → at.0 ≡ Live
  writes_live false x at u is e t = cc
  writes_live true x at u is e t =
      let d = bind_ok (live x) (λ _. ok tt) u e in
      let same : object.Node at.0 at.1 ≡ object.Node Live d.0 = sym is ∙ live_node x d.0 d.1 in
      cc same

  -- to truncate is to write
  truncates : (flags : OpenFlags) → are_flags flags ≡ true → flags.truncate ≡ true → flags.write ≡ true
  truncates flags e t = told flags.read flags.write flags.append flags.truncate (not flags.exclusive || flags.create) e t
    where
      told : (r w a t x : Bool) → ((r || w) && (not (a || t) || w) && x) ≡ true → t ≡ true → w ≡ true
      told r true a t x f g = refl
      told true false true t x f g = cc
      told true false false true x f g = cc
      told true false false false x f g = cc
      told false false a t x f g = cc

  there_opens : (path : List ℕ) (asked flags : OpenFlags) (mode fd : ℕ) (o : Outcome) (found : Found) → IsOpening world session fd → are_flags flags ≡ true → attributes_at trees found.object ≡ Some found.attributes → open_there limits s fd flags found ≡ Ok o → Decides (call.Open path asked mode) o
  unfolding open_there
  there_opens path asked flags mode fd o found opening are seen e =
      let last = λ (at : Home × ℕ). ok (opens_there limits flags fd at.0 at.1) in
      let x = bind_ok (not_exclusive flags) (λ _. file found >>= (λ at. live_if flags.write found.object >>= (λ _. granted s.cred 1 found.place (access_of flags) (Some found.attributes) >>= (λ _. last at)))) o e in
      let at = bind_ok (file found) (λ at. live_if flags.write found.object >>= (λ _. granted s.cred 1 found.place (access_of flags) (Some found.attributes) >>= (λ _. last at))) o x.2 in
      let l = bind_ok (live_if flags.write found.object) (λ _. granted s.cred 1 found.place (access_of flags) (Some found.attributes) >>= (λ _. last at.0)) o at.2 in
      let g = bind_ok (granted s.cred 1 found.place (access_of flags) (Some found.attributes)) (λ _. last at.0) o l.2 in
      let is = opened_is found found.object at.0 refl at.1 in
      subst (Decides (call.Open path asked mode)) (same_ok _ o g.2) (told at.0 is (writes_live flags.write found.object at.0 l.0 is.object l.1) flags.truncate refl)
    where
      there_file : (at : Home × ℕ) → IsOpened found at → IsSomeAnd (tree_in (trees_of world) at.0) (λ tree. HasKind tree at.1 File)
      there_file at is = seen_file world at.0 at.1 found.attributes (ap (attributes_at trees) (sym is.object) ∙ seen) is.kind

      cut_applies : (at : Home × ℕ) → IsOpened found at → at.0 ≡ Live → is_some (cut limits world.live at.1 0) ≡ true
      cut_applies at is home =
          let file = subst (λ (h : Home). IsSomeAnd (tree_in (trees_of world) h) (λ tree. HasKind tree at.1 File)) home (there_file at is) in
          let x = some_node _ File file in
          ap is_some (cut_of limits world.live at.1 0 _ (record { node = x.0; file = is_file_at world.live at.1 x.0 x.1 (ap is_file x.2); fits = le-leb 0 limits.largest_file (omega arith); gives = refl }))

      told : (at : Home × ℕ) → IsOpened found at → (flags.write ≡ true → at.0 ≡ Live) → (b : Bool) → flags.truncate ≡ b → Decides (call.Open path asked mode) (opens_there limits (record flags { truncate = b }) fd at.0 at.1)
      told at is writes false t = turned limits world session (call.Open path asked mode) refl (Opens fd at.0 at.1 (record flags { truncate = false })) (reply.Number fd) (λ r f. cc f) (λ _. tt) (λ k w. (opening, there_file at is, writes))
      told at is writes true t = record {
        answers = λ r f. cc f;
        left = tt;
        of_old = tt;
        keeps = λ h. cc h;
        charged = λ h. omega (arith, h);
        pays = omega arith;
        takes = tt;
        opens = λ _. tt;
        applies = λ n l w f. cut_applies at is (writes (truncates flags are t));
        fits = λ k w. (opening, there_file at is, writes);
        points = record { asks = refl; alone = tt; fits = tt };
      }

  -- a place for the new file
  pub place_is : (w : Walked) (at : Object × ℕ) (directory : ℕ) (parent : Attributes) (u : Unit {0}) → EndsAt trees names w → found_at trees w ≡ None → parent_of Enoent w ≡ Ok at → live at.0 ≡ Ok directory → writable_parent trees s.cred 1 at.1 at.0 ≡ Ok parent → has_room limits world.live directory ≡ Ok u → IsWorld limits world → HasPlace limits world.live names directory
  place_is w at directory parent u ends none p l granted room whole =
      let x = seen_node world.live directory (map.get world.live.nodes directory) parent (granted_at world s at.1 at.0 directory parent (live_node at.0 directory l) granted) in
      told w at x ends none p (live_node at.0 directory l)
    where
      Parent : Type 0
      Parent = (x : Node) × (map.get world.live.nodes directory ≡ Some x) × (parent ≡ attributes_of world.live directory x)

      -- what a live name leads to is there
      leads : (name : List ℕ) (o : Option ℕ) → map.get world.live.links (link_to directory name) ≡ o → (place : ℕ) (b : Bool) → found_last trees place (cond b (Some object.Snapshots) (option_map (object.Node Live) o)) ≡ None → (b ≡ false) × (o ≡ None)
      leads name o e place true f = cc
      leads name None e place false f = (refl, refl)
      leads name (Some n) e place false f = absurd (gone (map.get world.live.nodes n) refl (whole.live.hierarchy.leads (link_to directory name) n e) f)
        where
          gone : (x : Option Node) → map.get world.live.nodes n ≡ x → is_some (map.get world.live.nodes n) ≡ true → found_as place (object.Node Live n) (option_map (attributes_of world.live n) (map.get world.live.nodes n)) ≡ None → ⊥
          gone None g h i = true≢false (sym h ∙ ap is_some g)
          gone (Some x) g h i = let never : Some (record { object = object.Node Live n; place = place; attributes = attributes_of world.live n x }) ≡ None = ap (λ (y : Option Node). found_as place (object.Node Live n) (option_map (attributes_of world.live n) y)) (sym g) ∙ i in cc

      told : (w : Walked) (at : Object × ℕ) → Parent → EndsAt trees names w → found_at trees w ≡ None → parent_of Enoent w ≡ Ok at → at.0 ≡ object.Node Live directory → HasPlace limits world.live names directory
      told w at x ends none p is = by_name names w at x ends none p is
        where
          by_name : (names : List (List ℕ)) (w : Walked) (at : Object × ℕ) → Parent → EndsAt trees names w → found_at trees w ≡ None → parent_of Enoent w ≡ Ok at → at.0 ≡ object.Node Live directory → HasPlace limits world.live names directory
          by_name names Root at x ends none p is = cc
          by_name [] (Name d place o) at x ends none p is = cc
          by_name (name ∷ more) (Name d place o) at x ends none p is =
              let at_d : d ≡ object.Node Live directory = ap (λ (y : Object × ℕ). y.0) (same_ok (d, place) at p) ∙ is in
              let child : o ≡ child_of trees (object.Node Live directory) (last_after name more) = ends.1 ∙ ap (λ (y : Object). child_of trees y (last_after name more)) at_d in
              let h = leads (last_after name more) (map.get world.live.links (link_to directory (last_after name more))) refl (place + 1) (is_hidden_name directory (last_after name more)) (ap (found_last trees (place + 1)) (sym child) ∙ none) in
              record {
                new = record { first = name; more = more; some_names = refl; absent = h.1; seen = h.0 };
                parent = x.0;
                there = x.1;
                kind = subst (λ (y : Option Node). IsSomeAnd (option_map (attributes_of world.live directory) y) (λ a. a.kind ≡ Directory)) {y = Some x.0} x.1 (subst (λ (y : Object). IsSomeAnd (attributes_at trees y) (λ a. a.kind ≡ Directory)) at_d ends.2);
                number = (room_is limits world.live directory u room).0;
                room = (room_is limits world.live directory u room).1;
              }

  abbrev pub Applies : Mode → Type 0
  Applies mode = (directory number : ℕ) → 0 < limits.links → IsWorld limits world → (at : HasPlace limits world.live names directory) → IsNumber limits world.live number → is_some (made limits world.live (link_to directory (last_name names)) number File (first_ownership File s mode (attributes_of world.live directory at.parent) at.parent.default_acl)) ≡ true

  absent_opens : (path : List ℕ) (asked flags : OpenFlags) (argument : ℕ) (mode : Mode) (fd : ℕ) (o : Outcome) (w : Walked) → IsOpening world session fd → EndsAt trees names w → found_at trees w ≡ None → Applies mode → open_absent limits (seen limits world) s fd flags mode names w ≡ Ok o → Decides (call.Open path asked argument) o
  unfolding open_absent
  absent_opens path asked flags argument mode fd o w opening ends none applies e =
      let last = λ (d : ℕ) (p : Attributes). ok (opens_new limits flags fd d (last_name names) (first_ownership File s mode p ((viewed world.live).default_acl d))) in
      let c = bind_ok (creating flags) (λ _. parent_of Enoent w >>= (λ at. live at.0 >>= (λ d. writable_parent trees s.cred 1 at.1 at.0 >>= (λ p. has_room limits world.live d >>= (λ _. last d p))))) o e in
      let at = bind_ok (parent_of Enoent w) (λ at. live at.0 >>= (λ d. writable_parent trees s.cred 1 at.1 at.0 >>= (λ p. has_room limits world.live d >>= (λ _. last d p)))) o c.2 in
      let d = bind_ok (live at.0.0) (λ d. writable_parent trees s.cred 1 at.0.1 at.0.0 >>= (λ p. has_room limits world.live d >>= (λ _. last d p))) o at.2 in
      let p = bind_ok (writable_parent trees s.cred 1 at.0.1 at.0.0) (λ p. has_room limits world.live d.0 >>= (λ _. last d.0 p)) o d.2 in
      let r = bind_ok (has_room limits world.live d.0) (λ _. last d.0 p.0) o p.2 in
      let x = seen_node world.live d.0 (map.get world.live.nodes d.0) p.0 (granted_at world s at.0.1 at.0.0 d.0 p.0 (live_node at.0.0 d.0 d.1) p.1) in
      subst (Decides (call.Open path asked argument)) (same_ok _ o r.2) (record {
        answers = λ q f. cc f;
        left = (room_is limits world.live d.0 r.0 r.1).0;
        of_old = tt;
        keeps = λ h. cc h;
        charged = λ h. omega (arith, h);
        pays = omega arith;
        takes = tt;
        opens = λ _. tt;
        applies = λ number links whole free.
            let place = place_is w at.0 d.0 p.0 r.0 ends none at.1 d.1 p.1 r.1 whole in
            same_new d.0 p.0 number place (seen_node world.live d.0 (map.get world.live.nodes d.0) p.0 (granted_at world s at.0.1 at.0.0 d.0 p.0 (live_node at.0.0 d.0 d.1) p.1)) (applies d.0 number links whole place free);
        fits = λ k whole. (opening, refl);
        points = record { asks = refl; alone = tt; fits = tt };
      })
    where
      -- the directory as it was seen is the node that is there
      same_new : (d : ℕ) (p : Attributes) (number : ℕ) (place : HasPlace limits world.live names d) → (x : Node) × (map.get world.live.nodes d ≡ Some x) × (p ≡ attributes_of world.live d x)
          → is_some (made limits world.live (link_to d (last_name names)) number File (first_ownership File s mode (attributes_of world.live d place.parent) place.parent.default_acl)) ≡ true
          → is_some (made limits world.live (link_to d (last_name names)) number File (first_ownership File s mode p ((viewed world.live).default_acl d))) ≡ true
      same_new d p number place x h =
          let both : Some x.0 ≡ Some place.parent = sym x.1 ∙ place.there in
          let same : x.0 ≡ place.parent = cc in
          let gives = λ (a : Attributes) (acl : Option (List Entry)). is_some (made limits world.live (link_to d (last_name names)) number File (first_ownership File s mode a acl)) in
          ap (λ (a : Attributes). gives a ((viewed world.live).default_acl d)) (x.2 ∙ ap (attributes_of world.live d) same) ∙ ap (gives (attributes_of world.live d place.parent)) (default_at world.live d place.parent place.there) ∙ h

  found_opens : (path : List ℕ) (asked flags : OpenFlags) (argument : ℕ) (mode : Mode) (fd : ℕ) (o : Outcome) (w : Walked) → IsOpening world session fd → are_flags flags ≡ true → EndsAt trees names w → Applies mode → (f : Option Found) → found_at trees w ≡ f → open_found limits (seen limits world) s fd flags mode names w f ≡ Ok o → Decides (call.Open path asked argument) o
  found_opens path asked flags argument mode fd o w opening are ends applies None is e = absent_opens path asked flags argument mode fd o w opening ends is applies e
  found_opens path asked flags argument mode fd o w opening are ends applies (Some found) is e = there_opens path asked flags argument fd o found opening are (found_has trees w found is) e

  flags_are : (asked flags : OpenFlags) → flags_argument asked ≡ Ok flags → are_flags flags ≡ true
  flags_are asked flags e = told (are_flags asked) refl e
    where
      told : (b : Bool) → are_flags asked ≡ b → cond b (ok asked) (Err (plain Einval)) ≡ Ok flags → are_flags flags ≡ true
      told true t f = ap are_flags (sym (same_ok asked flags f)) ∙ t
      told false t f = cc

  pub opening_is : (path : List ℕ) (asked flags : OpenFlags) (argument : ℕ) (mode : Mode) (o : Outcome) → logged_in world session ≡ Ok s → flags_argument asked ≡ Ok flags → Applies mode → open_outcome limits (seen limits world) world.descriptors session s names flags mode ≡ Ok o → Decides (call.Open path asked argument) o
  unfolding open_outcome
  opening_is path asked flags argument mode o by read applies e =
      let d = bind_ok (next_descriptor world.descriptors session) (λ fd. prefix trees s.cred 1 names >>= (λ w. open_found limits (seen limits world) s fd flags mode names w (found_at trees w))) o e in
      let w = bind_ok (prefix trees s.cred 1 names) (λ w. open_found limits (seen limits world) s d.0 flags mode names w (found_at trees w)) o d.2 in
      let ends = ends_at trees s.cred names w.0 (walked_ok 1 (walk_of trees s.cred names) w.0 w.1) in
      found_opens path asked flags argument mode d.0 o w.0 (opening d.0 by d.1) (flags_are asked flags read) ends applies (found_at trees w.0) refl w.2
