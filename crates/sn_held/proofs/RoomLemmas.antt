-- What is charged on top of a root, change by change, and what of it is the same on another store.
use Rattle.std.proofs.Common.{◌≡◌, ℕ, ◌+◌, ◌≤◌, Bool, true, false, cond, T, List, [], ◌∷◌, ◌++◌, Option, Some, None, count_by, flat_map, slice_index, refl, sym, ap, subst, ◌∙◌, arith}
use Rattle.std.specs.List.{filter}
use Rattle.std.specs.Option.{option_map_or}
use Rattle.std.specs.Prelude.{not, ◌||◌}
use Rattle.std.proofs.lemmas.Bool.{true≢false}
use Rattle.std.proofs.lemmas.List.{nil_from_length}
use Rattle.std.specs.Ordering.{nat_cmp}
use Rattle.std.specs.declared.cmp.Ordering.TheVariants.{Equal}
use Rattle.std.specs.FinMap as map
use Rattle.std.specs.FinMap.{put}
use Rattle.std.specs.FinMap.Entries.{is_sorted, is_sorted-where_key, find-where_key}
use Rattle.std.specs.Cmp.{nat_cmp_total}
use Rattle.std.proofs.lemmas.Map.Lookups.{exact_unsigned}
use Rattle.std.proofs.lemmas.List.Elements.{Contains-append_left}
use Rattle.std.proofs.lemmas.List.Sums.{sum_by-cons}
use Rattle.sn_layout.specs.declared.root.RootBody.{RootBody}
use Rattle.sn_layout.specs.declared.snapshot.Snapshot.{Snapshot}
use Rattle.sn_limits.specs.declared.limits.Limits.{Limits}
use Rattle.sn_limits.specs.Versions.{limits_written}
use Rattle.sn_model.specs.declared.change.Change.{Change}
use Rattle.sn_model.specs.Chains.{◌>>=◌}
use Rattle.sn_model.specs.Changes.{apply, apply_all}
use Rattle.sn_model.specs.Charges.{charge_for}
use Rattle.sn_model.specs.NameTree.{IsHierarchy}
use Rattle.sn_model.specs.Settling.{is_nameless, nameless_in, settled, without_nameless}
use Rattle.sn_model.specs.Tree.{Node, Tree}
use Rattle.sn_model.proofs.ChainLemmas.{some_same}
use Rattle.sn_model.specs.World.{new_root, new_tree}
use Rattle.sn_overlay_change.proofs.StayingLemmas.{staying_is_counted}
use Rattle.sn_ondisk.specs.TreeLaws.{SameIn}
use Rattle.sn_ondisk.specs.Trees.{Store}
use Rattle.sn_image.specs.Image.{image}
use Rattle.sn_image.specs.Reach.{reach}
use Rattle.sn_image.proofs.FootprintLemmas.{roots_depend}
use Rattle.sn_opening.specs.Covering.{MakesCover}
use Rattle.sn_opening.specs.Worlds.{all_reach}
use Rattle.sn_held.specs.Rooms.{RoomCounts}
use Rattle.sn_sound.specs.Charges.{Fits, charges_from}
use Rattle.sn_sound.specs.Maps.{IsSoundRoot, free_blocks}
use Rattle.sn_sound.proofs.ChargeLemmas.{charged_alike}
use Rattle.sn_sound.proofs.FreeLemmas.{free_counted}
use Rattle.sn_sound.proofs.StandingLemmas.{root_same}
use Rattle.sn_held.specs.Room.{HasRoomFor, IsCharged}

-- ---- charges of one list after the other

pub charges_join : (limits : Limits) (first second : List Change) (from tree : Tree) → apply_all limits first from ≡ Some tree
    → charges_from limits (first ++ second) from ≡ charges_from limits first from + charges_from limits second tree
unfolding charges_from apply_all
charges_join limits [] second from tree e = omega (arith, ap (charges_from limits second) (some_same from tree e))
charges_join limits (c ∷ cs) second from tree e = told (apply limits c from) refl e (λ middle made. charges_join limits cs second middle tree made)
  where
    told : (next : Option Tree) → apply limits c from ≡ next → (next >>= apply_all limits cs) ≡ Some tree
        → ((middle : Tree) → apply_all limits cs middle ≡ Some tree → charges_from limits (cs ++ second) middle ≡ charges_from limits cs middle + charges_from limits second tree)
        → charge_for limits from c + option_map_or (charges_from limits (cs ++ second)) (apply limits c from) 0 ≡ charge_for limits from c + option_map_or (charges_from limits cs) (apply limits c from) 0 + charges_from limits second tree
    told (Some middle) is made again =
        omega (
          arith,
          again middle made,
          ap (λ (o : Option Tree). option_map_or (charges_from limits (cs ++ second)) o 0) is,
          ap (λ (o : Option Tree). option_map_or (charges_from limits cs) o 0) is,
        )
    told None is made again = absurd cc

pub one_charge : (limits : Limits) (tree : Tree) (change : Change) → charges_from limits (change ∷ []) tree ≡ charge_for limits tree change
unfolding charges_from
one_charge limits tree change = told (apply limits change tree)
  where
    told : (next : Option Tree) → charge_for limits tree change + option_map_or (charges_from limits []) next 0 ≡ charge_for limits tree change
    told None = omega arith
    told (Some after) = omega arith

-- a change that is made after others to what they cover
pub one_more_charged : (changes : List Change) (change : Change) (from live : Tree) → MakesCover limits_written changes from live → IsHierarchy live
    → charges_from limits_written (changes ++ change ∷ []) from ≡ charges_from limits_written changes from + charge_for limits_written live change
one_more_charged changes change from live m hierarchy =
    charges_join limits_written changes (change ∷ []) from m.tree m.applied
    ∙ ap (λ (k : ℕ). charges_from limits_written changes from + k) (one_charge limits_written m.tree change ∙ charged_alike limits_written m.tree live change hierarchy m.covers)

-- and what is charged then fits
pub one_more_fits : (room : RoomCounts) (n : ℕ) (s : Store) (root : RootBody) (changes : List Change) (change : Change) (live : Tree) → IsCharged room n s root changes live → MakesCover limits_written changes (image s root.inode_file) live
    → IsHierarchy live → HasRoomFor room live change → Fits limits_written (changes ++ change ∷ []) (image s root.inode_file) room.free
one_more_fits room n s root changes change live is m hierarchy has =
    omega (arith, one_more_charged changes change (image s root.inode_file) live m hierarchy, is.charged, is.parked, has)

-- ---- files without names that go

fewer_pass : {X : Type 0} (f p : X → Bool) (xs : List X) → count_by f (filter p xs) ≤ count_by f xs
fewer_pass f p [] = omega arith
fewer_pass {X} f p (x ∷ xs) = told (p x) (fewer_pass f p xs)
  where
    once : X → ℕ
    once y = cond (f y) 1 0

    told : (kept : Bool) → count_by f (filter p xs) ≤ count_by f xs → count_by f (cond kept (x ∷ filter p xs) (filter p xs)) ≤ count_by f (x ∷ xs)
    told true fewer = omega (arith, fewer, sum_by-cons once x (filter p xs), sum_by-cons once x xs)
    told false fewer = omega (arith, fewer, sum_by-cons once x xs)

-- what is left of a map are its entries whose keys pass
module _ (m : map.FinMap nat_cmp Node) (p : ℕ → Bool) where
  abbrev left : List (ℕ × Node)
  left = filter (λ e. p e.0) (map.entries m)

  rises : T (is_sorted nat_cmp left)
  rises = is_sorted-where_key nat_cmp p (map.entries m) (map.entries_sorted m)

  alike : (q x : ℕ) → nat_cmp q x ≡ Equal → p x ≡ p q
  alike q x tie = ap p (sym (exact_unsigned q x tie))

  left_map : map.retain_keys m p ≡ map.from_sorted left
  left_map = map.same_map nat_cmp_total exact_unsigned _ _ (λ q.
      map.get-retain_keys m p q (alike q) ∙ ap (λ (o : Option Node). cond (p q) o None) (map.get-entries m q)
      ∙ sym (find-where_key nat_cmp p q (alike q) (map.entries m)) ∙ sym (map.get-from_sorted nat_cmp left q rises))

  left_entries : map.entries (map.retain_keys m p) ≡ left
  left_entries = ap map.entries left_map ∙ map.entries-from_sorted nat_cmp left rises

pub drops_leave_fewer : (held : ℕ → Bool) (tree : Tree) → nameless_in (without_nameless held tree) ≤ nameless_in tree
unfolding nameless_in
drops_leave_fewer held tree =
    let counts = λ (e : ℕ × Node). is_nameless tree e.0 (Some e.1) in
    let stays = λ (n : ℕ). not (is_nameless tree n (map.get tree.nodes n)) || held n in
    let left : count_by counts (map.entries (map.retain_keys tree.nodes stays)) ≡ count_by counts (filter (λ e. stays e.0) (map.entries tree.nodes)) = ap (count_by counts) (left_entries tree.nodes stays) in
    omega (arith, left, fewer_pass counts (λ e. stays e.0) (map.entries tree.nodes))

-- a tree that was settled has none
settled_named : (tree : Tree) (n : ℕ) → is_nameless (settled tree) n (map.get (settled tree).nodes n) ≡ false
settled_named tree n = ap (is_nameless tree n) (map.get-retain_keys tree.nodes stays n (λ x tie. ap stays (sym (exact_unsigned n x tie)))) ∙ told (is_nameless tree n (map.get tree.nodes n)) refl
  where
    stays : ℕ → Bool
    stays q = not (is_nameless tree q (map.get tree.nodes q)) || false

    told : (bare : Bool) → is_nameless tree n (map.get tree.nodes n) ≡ bare → is_nameless tree n (cond (not bare || false) (map.get tree.nodes n) None) ≡ false
    told true is = refl
    told false is = is

no_entries : map.entries (map.empty {X = Node} {R = nat_cmp}) ≡ []
no_entries = nil_from_length (map.entries (map.empty {X = Node} {R = nat_cmp})) (sym (map.len-entries (map.empty {X = Node} {R = nat_cmp})) ∙ map.len-empty nat_cmp Node)

pub none_nameless : nameless_in new_tree ≡ 0
unfolding nameless_in
none_nameless =
    ap (count_by (λ (e : ℕ × Node). is_nameless new_tree e.0 (Some e.1))) (map.entries-insert nat_cmp_total map.empty 2 new_root ∙ ap (put nat_cmp 2 new_root) no_entries)

pub settled_has_none : (tree : Tree) → nameless_in (settled tree) ≡ 0
settled_has_none tree = omega (arith, staying_is_counted (settled tree) new_tree (λ n bare. absurd (true≢false (sym bare ∙ settled_named tree n))), none_nameless)

-- ---- on another store

pub image_same : (s t : Store) (root : RootBody) → SameIn (all_reach s root) s t → image t root.inode_file ≡ image s root.inode_file
image_same s t root same =
    (roots_depend s t root.inode_file (λ block among. same block (Contains-append_left (reach s root.inode_file) (flat_map (λ (snapshot : Snapshot). reach s snapshot.tree) root.snapshots) block among))).image

pub free_same : (n : ℕ) (s t : Store) (root : RootBody) (words : List ℕ) → SameIn (all_reach s root) s t → IsSoundRoot n s root (slice_index words) → free_blocks n t root ≡ free_blocks n s root
free_same n s t root words same sound =
    free_counted n t root (slice_index words) (root_same n s t root same (slice_index words) (slice_index words) (λ block. refl) sound)
    ∙ sym (free_counted n s root (slice_index words) sound)

pub fits_same : (n : ℕ) (s t : Store) (root : RootBody) (words : List ℕ) (changes : List Change) → SameIn (all_reach s root) s t → IsSoundRoot n s root (slice_index words)
    → Fits root.limits changes (image s root.inode_file) (free_blocks n s root) → Fits root.limits changes (image t root.inode_file) (free_blocks n t root)
fits_same n s t root words changes same sound fits =
    subst (λ (tree : Tree). Fits root.limits changes tree (free_blocks n t root)) (sym (image_same s t root same))
    (subst (Fits root.limits changes (image s root.inode_file)) (sym (free_same n s t root words same sound)) fits)
