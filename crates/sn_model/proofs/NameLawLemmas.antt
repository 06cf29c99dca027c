-- What the calls on names do: the names that are listed, and what is left of the tree.
use Rattle.std.proofs.Common.{◌≡◌, ℕ, ◌&&◌, ◌||◌, ◌==◌, Bool, true, false, cond, T, List, [], ◌∷◌, filter, map as list_map, Option, Some, None, Ok, refl, sym, ap, ◌∙◌, ◌<◌, ◌⊎◌, inl, inr, eq-eqb, eqb-true}
use Rattle.std.specs.List.{AllByRecursion, list_any}
use Rattle.std.specs.declared.cmp.Ordering.{Ordering}
use Rattle.std.specs.declared.cmp.Ordering.TheVariants.{Less, Equal, Greater}
use Rattle.std.specs.Ordering.{nat_cmp, eq_by_cmp, is_eq, is_lt, ordering_then}
use Rattle.std.specs.Cmp.{nat_cmp_total, tied_itself}
use Rattle.std.specs.Cmp.Lexicographic.{slice_cmp}
use Rattle.std.specs.FinMap as map
use Rattle.std.specs.FinMap.Entries.{below_all, is_sorted}
use Rattle.std.proofs.lemmas.Bool.{false_from_ne_true, true≢false}
use Rattle.std.proofs.lemmas.Map.Lookups.{exact_unsigned}
use Rattle.sn_limits.specs.declared.limits.Limits.{Limits}
use Rattle.sn_walk.specs.declared.object.Object.{Object}
use Rattle.sn_walk.specs.declared.object.Object.TheVariants as object
use Rattle.sn_walk.proofs.ChainLemmas.{bind_ok}
use Rattle.sn_limits.specs.Names.{is_name}
use Rattle.sn_walk.specs.declared.object.Home.TheVariants.{Live}
use Rattle.sn_walk.specs.Objects.{number_of}
use Rattle.sn_model.specs.declared.change.Change.TheVariants.{Rename}
use Rattle.sn_model.specs.declared.link.Link.{Link}
use Rattle.sn_model.specs.declared.moving.Moving.{Moving}
use Rattle.sn_model.specs.declared.reply.Reply.TheVariants as reply
use Rattle.sn_model.specs.declared.session.Session.{Session}
use Rattle.sn_model.specs.Changes.{put_link, take_link, take_node}
use Rattle.sn_model.specs.NameCalls.{is_listable, is_one, link_outcome, read, readdir_outcome, rename_outcome, rmdir_outcome}
use Rattle.sn_model.specs.NameLaws.{GivesName, IsOneThing, Lists, MovesName, Rises, TakesDirectory, has_name, has_name_if, is_one_of}
use Rattle.sn_model.specs.NameTree.{IsHierarchy}
use Rattle.sn_model.specs.Worlds.{IsWorld}
use Rattle.sn_model.specs.Outcomes.{Outcome, Does, tells}
use Rattle.sn_model.specs.Seen.{last_name, listed, names_if, seen}
use Rattle.sn_model.specs.Tests.{full, granted, path_argument}
use Rattle.sn_model.specs.Tree.{Tree, link_cmp, link_to}
use Rattle.sn_model.specs.World.{Trees, World, tree_in, trees_of}
use Rattle.sn_model.proofs.AccessDenialLemmas.{full_led}
use Rattle.sn_model.proofs.DecisionLemmas.{same_ok}
use Rattle.sn_model.proofs.KeepLemmas.{directory_kind, other_kind}
use Rattle.sn_model.proofs.LinkLemmas.{exact_links, links_total}
use Rattle.sn_model.proofs.MapLemmas.{get_inserted, get_left, get_other, get_removed}
use Rattle.sn_model.proofs.MoveLemmas.{is_kind}
use Rattle.sn_model.proofs.NameCallLemmas.{link_gives, link_is, rmdir_is}
use Rattle.sn_model.proofs.DecidedLemmas.{last_is, path_names}
use Rattle.sn_model.proofs.RenameLemmas.{HasTarget, IsMoving, IsOne, IsRenaming, has_passed, moving_is, rename_gives, rename_is}
use Rattle.sn_model.proofs.PartLemmas.{removed_of, unlinked_of}
use Rattle.sn_model.proofs.NameChains as chains

-- ---- the order of names

both : (a b : Bool) → T (a && b) → T a × T b
both true b h = (tt, h)
both false b h = absurd h

less : (r : Ordering) → T (is_lt r) → r ≡ Less
less Less h = refl
less Equal h = absurd h
less Greater h = absurd h

-- keys that rise
keys_above : {X : Type 0} (x : List ℕ) (es : List (List ℕ × X)) → T (below_all (slice_cmp nat_cmp) x es) → AllByRecursion (λ later. slice_cmp nat_cmp x later ≡ Less) (list_map (λ e. e.0) es)
keys_above x [] h = tt
keys_above x (e ∷ es) h = let p = both _ _ h in (less _ p.0, keys_above x es p.1)

keys_rise : {X : Type 0} (es : List (List ℕ × X)) → T (is_sorted (slice_cmp nat_cmp) es) → Rises (list_map (λ e. e.0) es)
keys_rise [] h = tt
keys_rise (e ∷ es) h = let p = both _ _ h in (keys_above e.0 es p.0, keys_rise es p.1)

module _ (directory : ℕ) where
  abbrev within : Link × ℕ → Bool
  within e = e.0.directory == directory

  abbrev names : List (Link × ℕ) → List (List ℕ)
  names es = list_map (λ e. e.0.name) (filter within es)

  -- names of one directory are in order by their bytes
  name_less : (a b : Link) → a.directory ≡ directory → b.directory ≡ directory → link_cmp a b ≡ Less → slice_cmp nat_cmp a.name b.name ≡ Less
  name_less a b p q h = ap (λ r. ordering_then r (slice_cmp nat_cmp a.name b.name)) (sym (ap (nat_cmp a.directory) (q ∙ sym p) ∙ tied_itself nat_cmp_total a.directory)) ∙ h

  names_above : (x : Link) (es : List (Link × ℕ)) → x.directory ≡ directory → T (below_all link_cmp x es) → AllByRecursion (λ later. slice_cmp nat_cmp x.name later ≡ Less) (names es)
  names_above x [] p h = tt
  names_above x (e ∷ es) p h = let k = both _ _ h in told (within e) refl k.0 (names_above x es p k.1)
    where
      told : (b : Bool) → within e ≡ b → T (is_lt (link_cmp x e.0)) → AllByRecursion (λ later. slice_cmp nat_cmp x.name later ≡ Less) (names es)
          → AllByRecursion (λ later. slice_cmp nat_cmp x.name later ≡ Less) (list_map (λ e. e.0.name) (cond b (e ∷ filter within es) (filter within es)))
      told true t k rest = (name_less x e.0 p (eqb-true e.0.directory directory t) (less _ k), rest)
      told false t k rest = rest

  names_rise : (es : List (Link × ℕ)) → T (is_sorted link_cmp es) → Rises (names es)
  names_rise [] h = tt
  names_rise (e ∷ es) h = let k = both _ _ h in told (within e) refl k.0 (names_rise es k.1)
    where
      told : (b : Bool) → within e ≡ b → T (below_all link_cmp e.0 es) → Rises (names es) → Rises (list_map (λ e. e.0.name) (cond b (e ∷ filter within es) (filter within es)))
      told true t k rest = (names_above e.0 es (eqb-true e.0.directory directory t) k, rest)
      told false t k rest = rest

  -- a link is the directory's with a name
  tied : (name : List ℕ) (x : Link) → eq_by_cmp link_cmp (link_to directory name) x ≡ ((x.directory == directory) && eq_by_cmp (slice_cmp nat_cmp) name x.name)
  tied name x = told (nat_cmp directory x.directory) refl
    where
      apart : (r : Ordering) → nat_cmp directory x.directory ≡ r → (r ≡ Equal → ⊥) → (x.directory == directory) ≡ false
      apart r p not_so = false_from_ne_true (x.directory == directory) (λ t. not_so (sym p ∙ ap (nat_cmp directory) (eqb-true x.directory directory t) ∙ tied_itself nat_cmp_total directory))

      told : (r : Ordering) → nat_cmp directory x.directory ≡ r → is_eq (ordering_then r (slice_cmp nat_cmp name x.name)) ≡ ((x.directory == directory) && is_eq (slice_cmp nat_cmp name x.name))
      told Less p = ap (λ b. b && is_eq (slice_cmp nat_cmp name x.name)) (sym (apart Less p (λ h. cc h)))
      told Equal p = ap (λ b. b && is_eq (slice_cmp nat_cmp name x.name)) (sym (eq-eqb x.directory directory (sym (exact_unsigned directory x.directory p))))
      told Greater p = ap (λ b. b && is_eq (slice_cmp nat_cmp name x.name)) (sym (apart Greater p (λ h. cc h)))

  names_hold : (name : List ℕ) (es : List (Link × ℕ)) → list_any (eq_by_cmp (slice_cmp nat_cmp) name) (names es) ≡ list_any (eq_by_cmp link_cmp (link_to directory name)) (list_map (λ e. e.0) es)
  names_hold name [] = refl
  names_hold name (e ∷ es) = told (within e) refl (names_hold name es) ∙ ap (λ b. b || list_any (eq_by_cmp link_cmp (link_to directory name)) (list_map (λ e. e.0) es)) (sym (tied name e.0))
    where
      told : (b : Bool) → within e ≡ b → list_any (eq_by_cmp (slice_cmp nat_cmp) name) (names es) ≡ list_any (eq_by_cmp link_cmp (link_to directory name)) (list_map (λ e. e.0) es)
          → list_any (eq_by_cmp (slice_cmp nat_cmp) name) (list_map (λ e. e.0.name) (cond b (e ∷ filter within es) (filter within es))) ≡ ((within e && eq_by_cmp (slice_cmp nat_cmp) name e.0.name) || list_any (eq_by_cmp link_cmp (link_to directory name)) (list_map (λ e. e.0) es))
      told true t rest = ap (λ b. eq_by_cmp (slice_cmp nat_cmp) name e.0.name || b) rest ∙ ap (λ b. (b && eq_by_cmp (slice_cmp nat_cmp) name e.0.name) || list_any (eq_by_cmp link_cmp (link_to directory name)) (list_map (λ e. e.0) es)) (sym t)
      told false t rest = rest ∙ ap (λ b. (b && eq_by_cmp (slice_cmp nat_cmp) name e.0.name) || list_any (eq_by_cmp link_cmp (link_to directory name)) (list_map (λ e. e.0) es)) (sym t)

-- ---- readdir

rises_if : (tree : Option Tree) (directory : ℕ) → Rises (names_if tree directory)
rises_if None directory = tt
rises_if (Some tree) directory = names_rise directory (map.entries tree.links) (map.entries_sorted tree.links)

holds_if : (tree : Option Tree) (directory : ℕ) (name : List ℕ) → is_one_of (names_if tree directory) name ≡ has_name_if tree directory name
holds_if None directory name = refl
holds_if (Some tree) directory name = names_hold directory name (map.entries tree.links) ∙ sym (map.contains_key-keys tree.links (link_to directory name))

listed_rise : (trees : Trees) (o : Object) → Rises (listed trees o)
listed_rise trees (object.Node home number) = rises_if (tree_in trees home) number
listed_rise trees object.Snapshots = keys_rise (map.entries trees.frozen) (map.entries_sorted trees.frozen)

listed_hold : (trees : Trees) (o : Object) (name : List ℕ) → is_one_of (listed trees o) name ≡ has_name trees o name
listed_hold trees (object.Node home number) name = holds_if (tree_in trees home) number name
listed_hold trees object.Snapshots name = sym (map.contains_key-keys trees.frozen name)

pub readdir_lists : (limits : Limits) (world : World) (s : Session) (names : List (List ℕ)) (o : Outcome) → readdir_outcome (seen limits world) s names ≡ Ok o → Lists world names o
unfolding readdir_outcome
readdir_lists limits world s names o e =
    let all = seen limits world in
    let x = bind_ok (full all.trees s.cred 1 names) (chains.readdir_kind all s) o e in
    let k = bind_ok (is_listable x.0) (λ _. chains.readdir_read all s x.0) o x.2 in
    let g = bind_ok (granted s.cred 1 x.0.place read (Some x.0.attributes)) (λ _. chains.readdir_end all s x.0) o k.2 in
    record {
      directory = x.0.object;
      led = (full_led all.trees s.cred names x.0 x.1).1;
      told = listed (trees_of world) x.0.object;
      answers = sym (same_ok _ o g.2);
      rising = listed_rise (trees_of world) x.0.object;
      exact = listed_hold (trees_of world) x.0.object;
    }

-- ---- rmdir

pub rmdir_takes : (limits : Limits) (world : World) (s : Session) (names : List (List ℕ)) (o : Outcome) → rmdir_outcome limits (seen limits world) s names ≡ Ok o → TakesDirectory limits world.live o (last_name names)
rmdir_takes limits world s names o e =
    let p = rmdir_is limits world s names o e in
    let tree = world.live in
    let link = link_to p.directory (last_name names) in
    record {
      directory = p.directory;
      number = p.number;
      named = p.named;
      kind = is_kind tree p.number p.node _ p.there (directory_kind p.node.kind p.kind);
      empty = eqb-true _ 0 p.empty;
      change = ap (λ (x : Outcome). x.change) p.made;
      new = take_node (take_link tree link) p.number;
      applied = removed_of tree link _ (record { number = p.number; node = p.node; named = p.named; there = p.there; gone = unlinked_of tree link p.number p.node _ (inl (record { kind = p.kind; empty = p.empty; gives = refl })) });
      no_name = get_removed links_total tree.links link;
      no_node = get_removed nat_cmp_total tree.nodes p.number;
      names = λ other apart. get_left links_total exact_links tree.links link other apart;
      nodes = λ other apart. get_left nat_cmp_total exact_unsigned tree.nodes p.number other apart;
    }

-- ---- link

abbrev LinkNames : List (List ℕ) → Type 0
LinkNames others = (first : List ℕ) (more : List (List ℕ)) → others ≡ first ∷ more → is_name (last_name others) ≡ true

names_of_path : (path : List ℕ) (others : List (List ℕ)) → path_argument path ≡ Ok others → LinkNames others
names_of_path path others read first more some = last_is others first more some (path_names path others read)

pub link_adds : (limits : Limits) (world : World) (s : Session) (names others : List (List ℕ)) (path : List ℕ) (o : Outcome) → path_argument path ≡ Ok others → link_outcome limits (seen limits world) s names others ≡ Ok o → GivesName limits world.live o (last_name others)
link_adds limits world s names others path o read e =
    let p = link_is limits world s names others o e in
    let tree = world.live in
    let link = link_to p.directory (last_name others) in
    record {
      directory = p.directory;
      number = p.number;
      kind = is_kind tree p.number p.node _ p.there (other_kind p.node.kind p.kind);
      absent = p.new.absent;
      change = ap (λ (x : Outcome). x.change) p.made;
      new = put_link tree link p.number;
      applied = link_gives limits tree others o p (names_of_path path others read p.new.first p.new.more p.new.some_names);
      named = get_inserted links_total tree.links link p.number;
      names = λ other apart. get_other links_total exact_links tree.links link p.number other apart;
      nodes = refl;
    }

-- ---- rename

-- two names of one thing
one_thing : (world : World) (s : Session) (names others : List (List ℕ)) → IsHierarchy world.live → IsOne world s names others → IsOneThing world names others
one_thing world s names others whole p =
    let m = p.moving in
    let is = moving_is world s.cred names others m whole p.fixed p.looked in
    told m is (map.get world.live.links (link_to is.new (last_name others))) is.place.has p.one
  where
    told : (m : Moving) (is : IsMoving world names others m) (named : Option ℕ) → HasTarget world.live named m.target → is_one m.found m.target ≡ true → IsOneThing world names others
    told m is None h e = let never : false ≡ true = ap (is_one m.found) (sym h) ∙ e in absurd (true≢false (sym never))
    told m is (Some k) h e =
        let same : is.number ≡ k = eqb-true is.number k (ap (λ n. n == k) (sym is.is_number) ∙ ap (λ (y : Object). number_of m.found.object == number_of y) (sym h.3) ∙ ap (is_one m.found) (sym h.2) ∙ e) in
        (is.number, is.led, is.led_new h.1 h.2 ∙ ap (λ (y : Object). Some y) h.3 ∙ ap (λ (j : ℕ). Some (object.Node Live j)) (sym same))

pub rename_moves : (limits : Limits) (world : World) (s : Session) (names others : List (List ℕ)) (path : List ℕ) (o : Outcome) → 0 < limits.links → IsWorld limits world → path_argument path ≡ Ok others → rename_outcome limits (seen limits world) s names others ≡ Ok o
    → ((o ≡ tells reply.Done) × IsOneThing world names others) ⊎ MovesName limits world.live o (last_name names) (last_name others)
rename_moves limits world s names others path o some_links whole read e = told (rename_is limits world s names others o e)
  where
    told : ((o ≡ tells reply.Done) × IsOne world s names others) ⊎ IsRenaming limits world s names others o → ((o ≡ tells reply.Done) × IsOneThing world names others) ⊎ MovesName limits world.live o (last_name names) (last_name others)
    told (inl p) = inl (p.0, one_thing world s names others whole.live.hierarchy p.1)
    told (inr p) =
        let h = rename_gives limits world s names others o some_links whole.live p (names_of_path path others read) in
        let made = (has_passed limits world s names others p.moving o p.moved).made in
        inr (record {
          old_directory = h.is.from.directory;
          new_directory = h.is.new;
          number = h.is.number;
          named = h.is.from.named;
          change = ap (λ (x : Outcome). x.change) made ∙ ap (λ (d : Object). Does (Rename (number_of d) (last_name names) (number_of p.moving.new_directory) (last_name others))) h.is.from.is_at ∙ ap (λ (d : Object). Does (Rename h.is.from.directory (last_name names) (number_of d) (last_name others))) h.is.is_new;
          new = h.after;
          applied = h.gives;
          gone = h.exchanged.gone;
          moved = h.exchanged.moved;
          names = h.exchanged.names;
          nodes = h.exchanged.nodes;
        })
