-- Each EACCES of a call on names is of a place of one of its paths where the access rule denies.
use Rattle.std.proofs.Common.{◌≡◌, ◌⊎◌, inl, inr, ℕ, ◌&&◌, Bool, true, false, cond, nat_le, nat_lt, List, [], ◌∷◌, Option, Some, None, Result, Ok, Err, sym, ap, subst, ◌∙◌, arith, not, ◌||◌, ◌==◌, is_some}
use Rattle.sn_acl.specs.Credential.{Credential}
use Rattle.sn_limits.specs.declared.kind.Kind.{Kind}
use Rattle.sn_limits.specs.declared.kind.Kind.TheVariants.{File, Directory}
use Rattle.sn_limits.specs.declared.limits.Limits.{Limits}
use Rattle.sn_walk.specs.declared.object.Object.{Object}
use Rattle.sn_walk.specs.declared.view.Attributes.{Attributes}
use Rattle.sn_walk.specs.declared.walking.Found.{Found}
use Rattle.sn_walk.specs.declared.walking.Walked.{Walked}
use Rattle.sn_walk.specs.declared.walking.Walked.TheVariants.{Root, Name}
use Rattle.sn_walk.specs.Chains.{◌>>=◌}
use Rattle.sn_walk.specs.Objects.{is_in_tree_of, number_of, root}
use Rattle.sn_walk.specs.Views.{ViewedTrees, is_directory}
use Rattle.sn_walk.specs.Walks.{found_at, walk_of}
use Rattle.sn_walk.proofs.ChainLemmas.{bind_ok}
use Rattle.sn_model.specs.declared.moving.Moving.{Moving}
use Rattle.sn_model.specs.declared.reply.Errno.{Errno}
use Rattle.sn_model.specs.declared.reply.Errno.TheVariants.{Eacces, Ebusy, Einval, Eisdir, Elimit, Emlink, Enotdir, Enotempty, Eperm, Exdev}
use Rattle.sn_model.specs.declared.reply.Refusal.{Refusal}
use Rattle.sn_model.specs.declared.reply.Rule.TheVariants as rule
use Rattle.sn_model.specs.declared.session.Session.{Session}
use Rattle.sn_model.specs.Denials.{at_place}
use Rattle.sn_model.specs.FileCalls.{no_directory}
use Rattle.sn_model.specs.NameCalls.{alike, empty, empty_if, gives_way, home_of, is_fixed, is_listable, is_one, may_link, movable, moved_outcome, moving_of, not_below, read, readdir_outcome, rename_outcome, rmdir_outcome, room_to_move, link_outcome}
use Rattle.sn_model.specs.declared.reply.Reply.TheVariants.{Done}
use Rattle.sn_model.specs.Outcomes.{tells}
use Rattle.sn_model.specs.Seen.{Seen, has_room_for_name, parent_of, seen}
use Rattle.sn_model.specs.Tests.{forbidden, full, granted, live, not_present, one_tree, plain, prefix, sticky, there, write, writable_parent}
use Rattle.sn_model.specs.Tree.{Tree, names_in}
use Rattle.sn_model.specs.World.{World}
use Rattle.sn_model.proofs.AccessCallLemmas.{full_has}
use Rattle.sn_model.proofs.AccessDenialLemmas.{found_there, full_led}
use Rattle.sn_model.proofs.DecisionLemmas.{same_ok, walked_ok}
use Rattle.sn_model.proofs.DenialLemmas.{IsDeniedAt, bind_err, full_denied, granted_denied, live_other, not_present_other, prefix_denied, there_other, walk_led}
use Rattle.sn_model.proofs.NameChains as chains

-- a chain is refused so where each of its tests that is refused is
chain : {A B G : Type 0} (a : Result A Refusal) (f : A → Result B Refusal) (r : Refusal) → (a ≡ Err r → G) → ((x : A) → a ≡ Ok x → f x ≡ Err r → G) → (a >>= f) ≡ Err r → G
chain {A} {B} {G} a f r first more e = told (bind_err a f r e)
  where
    told : (a ≡ Err r) ⊎ ((x : A) × (a ≡ Ok x) × (f x ≡ Err r)) → G
    told (inl h) = first h
    told (inr h) = more h.0 h.1 h.2

abbrev refuses : {A : Type 0} → Refusal → Result A Refusal
refuses r = Err r

abbrev pass : {A : Type 0} → A → Result A Refusal
pass x = Ok x

passed : {A G : Type 0} (x : A) (r : Refusal) → pass x ≡ Err r → G
passed x r e = absurd (never e)
  where
    never : pass x ≡ Err r → ⊥
    never h = cc h

-- where the directory of a path's last name is
parent_at : (trees : ViewedTrees) (cred : Credential) (without : Errno) (names : List (List ℕ)) (w : Walked) (v : Object × ℕ) → walk_of trees cred names ≡ Ok w → parent_of without w ≡ Ok v → at_place trees names v.1 ≡ Some v.0
parent_at trees cred without names Root v e f = cc f
parent_at trees cred without [] (Name at end o) v e f = cc e
parent_at trees cred without (name ∷ names) (Name at end o) v e f =
    let d = walk_led trees cred 0 root name names at end o e in
    let same : (at, end) ≡ v = cc f in
    let place : end ≡ d.0 = omega (arith, d.1) in
    ap (λ (p : Object × ℕ). at_place trees (name ∷ names) p.1) (sym same) ∙ ap (λ (n : ℕ). at_place trees (name ∷ names) n) place ∙ d.2 ∙ ap (λ (p : Object × ℕ). Some p.0) same

-- what isn't there has its directory as what is
absent_parent : (w : Walked) (v : Object × ℕ) → not_present w ≡ Ok v → parent_of Ebusy w ≡ Ok v
absent_parent Root v e = cc e
absent_parent (Name at end (Some o)) v e = cc e
absent_parent (Name at end None) v e = e

-- ---- tests that refuse with another error

module _ (r : Refusal) (is : r.errno ≡ Eacces) where
  abbrev NotFor : {A : Type 0} → Result A Refusal → Type 0
  NotFor test = test ≡ Err r → ⊥

  other : {A : Type 0} (f : Refusal) → (f.errno ≡ Eacces → ⊥) → refuses {A = A} f ≡ Err r → ⊥
  other f apart e = let same : f ≡ r = cc e in apart (ap (λ (x : Refusal). x.errno) same ∙ is)

  passes_or : {A : Type 0} (b : Bool) (x : A) (f : Refusal) → (f.errno ≡ Eacces → ⊥) → NotFor (cond b (pass x) (Err f))
  passes_or true x f apart e = cc e
  passes_or false x f apart e = other f apart e

  refused_or : {A : Type 0} (b : Bool) (x : A) (f : Refusal) → (f.errno ≡ Eacces → ⊥) → NotFor (cond b (Err f) (pass x))
  refused_or true x f apart e = other f apart e
  refused_or false x f apart e = cc e

  listable_other : (found : Found) → NotFor (is_listable found)
  listable_other found = passes_or (is_directory found.attributes.kind) tt (plain Enotdir) (λ h. cc h)

  empty_other : (b : Bool) → NotFor (empty b)
  empty_other b = passes_or b tt (plain Enotempty) (λ h. cc h)

  sticky_other : (cred : Credential) (path : ℕ) (parent : Attributes) (found : Found) → NotFor (sticky cred path parent found)
  sticky_other cred path parent found = passes_or (not parent.sticky || cred.uid == 0 || cred.uid == found.attributes.owner || cred.uid == parent.owner) tt (forbidden path found.place rule.Sticky) (λ h. cc h)

  parent_other : (w : Walked) → NotFor (parent_of Ebusy w)
  parent_other Root e = other (plain Ebusy) (λ h. cc h) e
  parent_other (Name directory place o) e = cc e

  tree_other : (a b : Object) → NotFor (one_tree a b)
  tree_other a b = passes_or (is_in_tree_of a b) tt (plain Exdev) (λ h. cc h)

  no_directory_other : (found : Found) → NotFor (no_directory found)
  no_directory_other found = refused_or (is_directory found.attributes.kind) tt (plain Eperm) (λ h. cc h)

  may_link_other : (limits : Limits) (found : Found) → NotFor (may_link limits found)
  may_link_other limits found = passes_or (nat_lt found.attributes.links limits.links) tt (plain Emlink) (λ h. cc h)

  room_other : (limits : Limits) (tree : Tree) (directory : ℕ) → NotFor (has_room_for_name limits tree directory)
  room_other limits tree directory = refused_or (nat_le limits.names (names_in tree directory)) tt (plain Elimit) (λ h. cc h)

  movable_other : (names : List (List ℕ)) → NotFor (movable names)
  movable_other names = refused_or (is_fixed names) tt (plain Ebusy) (λ h. cc h)

  below_other : (all : Seen) (m : Moving) → NotFor (not_below all m)
  below_other all m = refused_or (is_directory m.found.attributes.kind && all.names.is_below (number_of m.found.object) (number_of m.new_directory)) tt (plain Einval) (λ h. cc h)

  alike_other : (a b : Kind) → NotFor (alike a b)
  alike_other File File e = cc e
  alike_other Directory Directory e = cc e
  alike_other Directory File e = other (plain Enotdir) (λ h. cc h) e
  alike_other File Directory e = other (plain Eisdir) (λ h. cc h) e

  empty_if_other : (a b : Bool) → NotFor (empty_if a b)
  empty_if_other false b e = cc e
  empty_if_other true b e = empty_other b e

  way_other : (all : Seen) (cred : Credential) (parent : Attributes) (found : Found) (target : Option Found) → NotFor (gives_way all cred parent found target)
  way_other all cred parent found None e = cc e
  way_other all cred parent found (Some t) e =
      let last = λ (_ : Unit {0}). empty_if (is_directory t.attributes.kind) (all.names.is_empty (number_of t.object)) in
      chain (sticky cred 2 parent t) (λ _. alike found.attributes.kind t.attributes.kind >>= last) r (sticky_other cred 2 parent t) (λ _ _.
      chain (alike found.attributes.kind t.attributes.kind) last r (alike_other found.attributes.kind t.attributes.kind) (λ _ _. empty_if_other (is_directory t.attributes.kind) (all.names.is_empty (number_of t.object)))) e

  room_to_move_other : (limits : Limits) (world : World) (m : Moving) → NotFor (room_to_move (seen limits world) m)
  room_to_move_other limits world m = told (is_some m.target || number_of m.old_directory == number_of m.new_directory)
    where
      told : (b : Bool) → NotFor (cond b (pass tt) (has_room_for_name limits world.live (number_of m.new_directory)))
      told true e = cc e
      told false e = room_other limits world.live (number_of m.new_directory) e

-- ---- the calls

module _ (limits : Limits) (world : World) (s : Session) (r : Refusal) (is : r.errno ≡ Eacces) where
  abbrev all : Seen
  all = seen limits world

  abbrev trees : ViewedTrees
  trees = all.trees

  abbrev Denied_on : ℕ → List (List ℕ) → Type 0
  Denied_on path names = IsDeniedAt trees s.cred path names r

  -- write is denied at the place of a name's directory
  write_denied : (path : ℕ) (names : List (List ℕ)) (w : Walked) (v : Object × ℕ) → prefix trees s.cred path names ≡ Ok w → parent_of Ebusy w ≡ Ok v → writable_parent trees s.cred path v.1 v.0 ≡ Err r → Denied_on path names
  write_denied path names w v f g e = granted_denied trees s.cred path names v.1 write v.0 r (parent_at trees s.cred Ebusy names w v (walked_ok path (walk_of trees s.cred names) w f) g) e is

  pub rmdir_denied : (names : List (List ℕ)) → rmdir_outcome limits all s names ≡ Err r → Denied_on 1 names
  unfolding rmdir_outcome
  rmdir_denied names =
      chain (prefix trees s.cred 1 names) (chains.rmdir_at limits all s names) r (λ h. prefix_denied trees s.cred 1 names r h is) (λ w f.
      chain (parent_of Ebusy w) (chains.rmdir_there limits all s names w) r (λ h. absurd (parent_other r is w h)) (λ at g.
      chain (there (found_at trees w)) (chains.rmdir_kind limits all s names at) r (λ h. absurd (there_other trees s.cred 1 (found_at trees w) r h is)) (λ found _.
      chain (is_listable found) (λ _. chains.rmdir_live limits all s names at found) r (λ h. absurd (listable_other r is found h)) (λ _ _.
      chain (live found.object) (chains.rmdir_parent limits all s names at found) r (λ h. absurd (live_other found.object r h is)) (λ number _.
      chain (writable_parent trees s.cred 1 at.1 at.0) (chains.rmdir_sticky limits all s names at found number) r (write_denied 1 names w at f g) (λ parent _.
      chain (sticky s.cred 1 parent found) (λ _. chains.rmdir_empty limits all s names at number) r (λ h. absurd (sticky_other r is s.cred 1 parent found h)) (λ _ _.
      chain (empty (all.names.is_empty number)) (λ _. chains.rmdir_end limits all s names at) r (λ h. absurd (empty_other r is (all.names.is_empty number) h)) (λ _ _ h. passed _ r h))))))))

  pub readdir_denied : (names : List (List ℕ)) → readdir_outcome all s names ≡ Err r → Denied_on 1 names
  unfolding readdir_outcome
  readdir_denied names =
      chain (full trees s.cred 1 names) (chains.readdir_kind all s) r (λ h. full_denied trees s.cred 1 names r h is) (λ found f.
      chain (is_listable found) (λ _. chains.readdir_read all s found) r (λ h. absurd (listable_other r is found h)) (λ _ _.
      chain (granted s.cred 1 found.place read (Some found.attributes)) (λ _. chains.readdir_end all s found) r (λ h.
      granted_denied trees s.cred 1 names found.place read found.object r (found_there trees s.cred names found (full_led trees s.cred names found f)) (ap (granted s.cred 1 found.place read) (full_has trees s names found f) ∙ h) is) (λ _ _ h. passed _ r h)))

  pub link_denied : (names others : List (List ℕ)) → link_outcome limits all s names others ≡ Err r → Denied_on 1 names ⊎ Denied_on 2 others
  unfolding link_outcome
  link_denied names others =
      chain (full trees s.cred 1 names) (chains.link_kind limits all s others) r (λ h. inl (full_denied trees s.cred 1 names r h is)) (λ found _.
      chain (no_directory found) (λ _. chains.link_walk limits all s others found) r (λ h. absurd (no_directory_other r is found h)) (λ _ _.
      chain (prefix trees s.cred 2 others) (chains.link_tree limits all s others found) r (λ h. inr (prefix_denied trees s.cred 2 others r h is)) (λ w f.
      chain (one_tree found.object (home_of w)) (λ _. chains.link_live limits all s others found w) r (λ h. absurd (tree_other r is found.object (home_of w) h)) (λ _ _.
      chain (live found.object) (chains.link_new limits all s others found w) r (λ h. absurd (live_other found.object r h is)) (λ number _.
      chain (not_present w) (chains.link_parent limits all s others found number) r (λ h. absurd (not_present_other w r h is)) (λ at g.
      chain (writable_parent trees s.cred 2 at.1 at.0) (λ _. chains.link_count limits all s others found number at) r (λ h. inr (write_denied 2 others w at f (absent_parent w at g) h)) (λ _ _.
      chain (may_link limits found) (λ _. chains.link_room limits all s others at number) r (λ h. absurd (may_link_other r is limits found h)) (λ _ _.
      chain (all.names.room (number_of at.0)) (λ _. chains.link_end limits all s others at number) r (λ h. absurd (room_other r is limits world.live (number_of at.0) h)) (λ _ _ h. passed _ r h)))))))))

  -- where the directories of both names of a rename are
  record ArePlaced (names others : List (List ℕ)) (m : Moving) : Type 0 where
    old : at_place trees names m.old_place ≡ Some m.old_directory
    new : at_place trees others m.new_place ≡ Some m.new_directory

  moving_placed : (names others : List (List ℕ)) (m : Moving) → moving_of trees s.cred names others ≡ Ok m → ArePlaced names others m
  unfolding moving_of
  moving_placed names others m e =
      let w = bind_ok (prefix trees s.cred 1 names) (chains.moving_there trees s.cred others) m e in
      let x = bind_ok (there (found_at trees w.0)) (chains.moving_at trees s.cred others w.0) m w.2 in
      let at = bind_ok (parent_of Ebusy w.0) (chains.moving_walk trees s.cred others x.0) m x.2 in
      let other = bind_ok (prefix trees s.cred 2 others) (chains.moving_to trees s.cred others x.0 at.0) m at.2 in
      let to = bind_ok (parent_of Ebusy other.0) (chains.moving_tree trees s.cred others x.0 at.0 other.0) m other.2 in
      let t = bind_ok (one_tree at.0.0 to.0.0) (λ _. chains.moving_live trees s.cred others x.0 at.0 other.0 to.0) m to.2 in
      let l = bind_ok (live x.0.object) (λ _. chains.moving_end trees s.cred others x.0 at.0 other.0 to.0) m t.2 in
      subst (ArePlaced names others) (same_ok _ m l.2) (record {
        old = parent_at trees s.cred Ebusy names w.0 at.0 (walked_ok 1 (walk_of trees s.cred names) w.0 w.1) at.1;
        new = parent_at trees s.cred Ebusy others other.0 to.0 (walked_ok 2 (walk_of trees s.cred others) other.0 other.1) to.1;
      })

  moving_denied : (names others : List (List ℕ)) → moving_of trees s.cred names others ≡ Err r → Denied_on 1 names ⊎ Denied_on 2 others
  unfolding moving_of
  moving_denied names others =
      chain (prefix trees s.cred 1 names) (chains.moving_there trees s.cred others) r (λ h. inl (prefix_denied trees s.cred 1 names r h is)) (λ w _.
      chain (there (found_at trees w)) (chains.moving_at trees s.cred others w) r (λ h. absurd (there_other trees s.cred 1 (found_at trees w) r h is)) (λ found _.
      chain (parent_of Ebusy w) (chains.moving_walk trees s.cred others found) r (λ h. absurd (parent_other r is w h)) (λ at _.
      chain (prefix trees s.cred 2 others) (chains.moving_to trees s.cred others found at) r (λ h. inr (prefix_denied trees s.cred 2 others r h is)) (λ other _.
      chain (parent_of Ebusy other) (chains.moving_tree trees s.cred others found at other) r (λ h. absurd (parent_other r is other h)) (λ to _.
      chain (one_tree at.0 to.0) (λ _. chains.moving_live trees s.cred others found at other to) r (λ h. absurd (tree_other r is at.0 to.0 h)) (λ _ _.
      chain (live found.object) (λ _. chains.moving_end trees s.cred others found at other to) r (λ h. absurd (live_other found.object r h is)) (λ _ _ h. passed _ r h)))))))

  moved_denied : (names others : List (List ℕ)) (m : Moving) → ArePlaced names others m → moved_outcome limits all s names others m ≡ Err r → Denied_on 1 names ⊎ Denied_on 2 others
  unfolding moved_outcome
  moved_denied names others m placed =
      chain (not_below all m) (λ _. chains.moved_old limits all s names others m) r (λ h. absurd (below_other r is all m h)) (λ _ _.
      chain (writable_parent trees s.cred 1 m.old_place m.old_directory) (chains.moved_new limits all s names others m) r (λ h. inl (granted_denied trees s.cred 1 names m.old_place write m.old_directory r placed.old h is)) (λ old _.
      chain (writable_parent trees s.cred 2 m.new_place m.new_directory) (chains.moved_sticky limits all s names others m old) r (λ h. inr (granted_denied trees s.cred 2 others m.new_place write m.new_directory r placed.new h is)) (λ new _.
      chain (sticky s.cred 1 old m.found) (λ _. chains.moved_way limits all s names others m new) r (λ h. absurd (sticky_other r is s.cred 1 old m.found h)) (λ _ _.
      chain (gives_way all s.cred new m.found m.target) (λ _. chains.moved_room limits all s names others m) r (λ h. absurd (way_other r is all s.cred new m.found m.target h)) (λ _ _.
      chain (room_to_move all m) (λ _. chains.moved_end limits all s names others m) r (λ h. absurd (room_to_move_other r is limits world m h)) (λ _ _ h. passed _ r h))))))

  one_denied : (names others : List (List ℕ)) (m : Moving) → ArePlaced names others m → chains.rename_one limits all s names others m ≡ Err r → Denied_on 1 names ⊎ Denied_on 2 others
  one_denied names others m placed = told (is_one m.found m.target)
    where
      told : (b : Bool) → cond b (pass (tells Done)) (moved_outcome limits all s names others m) ≡ Err r → Denied_on 1 names ⊎ Denied_on 2 others
      told true h = passed _ r h
      told false h = moved_denied names others m placed h

  pub rename_denied : (names others : List (List ℕ)) → rename_outcome limits all s names others ≡ Err r → Denied_on 1 names ⊎ Denied_on 2 others
  unfolding rename_outcome
  rename_denied names others =
      chain (movable names) (λ _. chains.rename_new limits all s names others) r (λ h. absurd (movable_other r is names h)) (λ _ _.
      chain (movable others) (λ _. chains.rename_looked limits all s names others) r (λ h. absurd (movable_other r is others h)) (λ _ _.
      chain (moving_of trees s.cred names others) (chains.rename_one limits all s names others) r (moving_denied names others) (λ m f. one_denied names others m (moving_placed names others m f))))
