-- The names of a directory, seen through a layer.
use Rattle.std.proofs.Common.{◌≡◌, ℕ, Bool, true, false, cond, ◌==◌, List, [], map, Option, None, Some, T, refl, sym, ap, ◌∙◌, eqb-true, subst}
use Rattle.std.specs.FinMap as fin
use Rattle.std.specs.FinMap.Entries.{find, is_sorted, same_entries}
use Rattle.std.specs.List.{AllByRecursion}
use Rattle.std.specs.Option.{unwrap_or}
use Rattle.sn_model.specs.declared.link.Link.{Link}
use Rattle.sn_model.specs.Tree.{Tree, link_cmp}
use Rattle.sn_model.specs.Seen.{names_of}
use Rattle.sn_model.proofs.EntryLemmas.{entries-retain}
use Rattle.sn_model.proofs.LinkLemmas.{exact_links, links_total}
use Rattle.sn_overlay.specs.Layers.{Layer, hides_names, name_seen, through}
use Rattle.sn_overlay.specs.Lists.{changed_names}
use Rattle.sn_overlay.proofs.LayerLemmas.{get-through_links}
use Rattle.sn_overlay.proofs.OverlaidLemmas.{get-kept}
use Rattle.sn_live_files.specs.Listing.{links_of, merged}
use Rattle.sn_live_files.proofs.MergeLemmas.{each_entry, find-merged, sorted-merged}

as_test : (b : Bool) → b ≡ true → T b
as_test b h = subst T (sym h) tt

from_test : (b : Bool) → T b → b ≡ true
from_test true h = refl
from_test false h = absurd h

-- the entries of one directory
module _ {X : Type 0} (m : fin.FinMap link_cmp X) (directory : ℕ) where
  abbrev kept : List (Link × X)
  kept = fin.entries (fin.retain_keys m (λ link. link.directory == directory))

  pub sorted-kept : is_sorted link_cmp kept ≡ true
  sorted-kept = from_test (is_sorted link_cmp kept) (fin.entries_sorted (fin.retain_keys m (λ link. link.directory == directory)))

  pub find-kept : (q : Link) → find link_cmp q kept ≡ cond (q.directory == directory) (fin.get m q) None
  find-kept q = sym (fin.get-entries (fin.retain_keys m (λ link. link.directory == directory)) q) ∙ get-kept exact_links m (λ link. link.directory == directory) q

-- the names of a directory without their numbers
pub names_of-links : (tree : Tree) (directory : ℕ) → map (λ (e : Link × ℕ). e.0.name) (links_of tree directory) ≡ names_of tree directory
unfolding links_of
names_of-links tree directory = ap (map (λ (e : Link × ℕ). e.0.name)) (entries-retain links_total exact_links tree.links (λ link. link.directory == directory))

-- each is of the directory, and has its number
pub numbers_of-links : (tree : Tree) (directory : ℕ) → AllByRecursion (λ (e : Link × ℕ). (e.0.directory ≡ directory) × (fin.get tree.links e.0 ≡ Some e.1)) (links_of tree directory)
unfolding links_of
numbers_of-links tree directory = each_entry links_total (kept tree.links directory) (λ e. (e.0.directory ≡ directory) × (fin.get tree.links e.0 ≡ Some e.1)) (sorted-kept tree.links directory)
    (λ k v found. told k v (k.directory == directory) refl (sym (find-kept tree.links directory k) ∙ found))
  where
    told : (k : Link) (v : ℕ) (b : Bool) → (k.directory == directory) ≡ b → cond b (fin.get tree.links k) None ≡ Some v → (k.directory ≡ directory) × (fin.get tree.links k ≡ Some v)
    told k v true is found = (eqb-true k.directory directory is, found)
    told k v false is found = absurd cc

module _ (layer : Layer) (tree : Tree) (directory : ℕ) where
  -- what is seen of the names below
  abbrev pub below_seen : List (Link × ℕ)
  below_seen = cond (hides_names (fin.get layer.nodes directory)) [] (links_of tree directory)

  sorted-below : is_sorted link_cmp below_seen ≡ true
  unfolding links_of
  sorted-below = elim (hides_names (fin.get layer.nodes directory)) as (λ h. is_sorted link_cmp (cond h [] (links_of tree directory)) ≡ true) [
    | true ↦ refl
    | false ↦ sorted-kept tree.links directory
  ]

  find-below : (q : Link) (hidden b : Bool) → (q.directory == directory) ≡ b → find link_cmp q (cond hidden [] (links_of tree directory)) ≡ cond b (cond hidden None (fin.get tree.links q)) None
  unfolding links_of
  find-below q true true is = refl
  find-below q true false is = refl
  find-below q false b is = find-kept tree.links directory q ∙ ap (λ t. cond t (fin.get tree.links q) None) is

  seen : (q : Link) (b : Bool) (change : Option (Option ℕ)) → (q.directory == directory) ≡ b
      → cond b (name_seen layer q change (fin.get tree.links q)) None ≡ unwrap_or (cond b change None) (find link_cmp q below_seen)
  seen q false change is = sym (find-below q (hides_names (fin.get layer.nodes directory)) false is)
  seen q true (Some number) is = refl
  seen q true None is =
      let same : q.directory ≡ directory = eqb-true q.directory directory is in
      ap (λ d. cond (hides_names (fin.get layer.nodes d)) None (fin.get tree.links q)) same
      ∙ sym (find-below q (hides_names (fin.get layer.nodes directory)) true is)

  pub links_of-through : links_of (through layer tree) directory ≡ merged link_cmp (changed_names layer directory) below_seen
  unfolding links_of changed_names
  links_of-through =
      let changed = changed_names layer directory in
      let rises = sorted-kept layer.names directory in
      same_entries link_cmp links_total exact_links (links_of (through layer tree) directory) (merged link_cmp changed below_seen)
      (fin.entries_sorted (fin.retain_keys (through layer tree).links (λ link. link.directory == directory)))
      (as_test (is_sorted link_cmp (merged link_cmp changed below_seen)) (sorted-merged links_total changed below_seen rises sorted-below))
      (λ q.
      find-kept (through layer tree).links directory q
      ∙ ap (λ found. cond (q.directory == directory) found None) (get-through_links layer tree q)
      ∙ seen q (q.directory == directory) (fin.get layer.names q) refl
      ∙ ap (λ found. unwrap_or found (find link_cmp q below_seen)) (sym (find-kept layer.names directory q))
      ∙ sym (find-merged links_total changed below_seen q rises sorted-below))
