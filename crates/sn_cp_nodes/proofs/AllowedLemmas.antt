-- The names that a layer has of a directory are changes that a directory can have.
use Rattle.std.proofs.Common.{◌≡◌, ◌≢◌, ⊎_elim, ℕ, ◌+◌, ◌<◌, ◌≤◌, Bool, true, false, cond, T, List, [], ◌∷◌, map, count_by, Option, None, Some, refl, sym, ap, ◌∙◌, arith}
use Rattle.std.specs.Prelude.{◌^◌, All, IfSome}
use Rattle.std.specs.FinMap as fin
use Rattle.std.specs.FinMap.Entries.{below_all, find, is_sorted}
use Rattle.std.specs.Option.{is_some}
use Rattle.std.specs.Str.{bytes_eq}
use Rattle.std.proofs.lemmas.List.Elements.{All-contains, All-head, All-tail}
use Rattle.std.proofs.lemmas.List.Sums.{sum_by-cons}
use Rattle.sn_dir_change.specs.Changes.{AreChanges}
use Rattle.sn_dir_change.specs.declared.name_change.NameChange.{NameChange}
use Rattle.sn_image.specs.Image.{image}
use Rattle.sn_limits.proofs.VersionLemmas.{fixed}
use Rattle.sn_layout.specs.declared.tree.BlockTree.{BlockTree}
use Rattle.sn_layout_node.specs.Directory.{IsLink, number_of}
use Rattle.sn_limits.specs.Versions.{limits_of}
use Rattle.sn_limits.specs.declared.limits.Limits.{Limits}
use Rattle.sn_model.specs.NameTree.{IsTree}
use Rattle.sn_model.specs.Tree.{Node, Tree, link_cmp, link_to}
use Rattle.sn_model.specs.declared.link.Link.{Link}
use Rattle.sn_ondisk.specs.Trees.{Store}
use Rattle.sn_overlay.specs.Layers.{Layer, through}
use Rattle.sn_overlay.specs.Lists.{changed_names}
use Rattle.sn_cp_nodes.specs.Built.{IsGround}
use Rattle.sn_cp_nodes.specs.Made.{ChangeThem, Pair, pair_in, pair_of}
use Rattle.sn_cp_nodes.specs.Parts.{Names}
use Rattle.sn_cp_nodes.proofs.ElementLemmas.{cases_name, other_name, same_name}
use Rattle.sn_cp_nodes.proofs.EntryLemmas.{find_below, sorted_parts}
use Rattle.sn_cp_nodes.proofs.ListedLemmas.{listed_of, number_in}
use Rattle.sn_cp_nodes.proofs.NameLemmas.{AreIn, names_in_it, no_pair, pairs_of}
use Rattle.sn_cp_nodes.proofs.RoomLemmas.{IsSeenAs, changed_sorted, made_seen}

-- ---- none occurs twice

module _ (name : List ℕ) where
  -- how often a name occurs among pairs
  abbrev times_paired : List Pair → ℕ
  times_paired pairs = count_by (λ (p : Pair). bytes_eq p.0 name) pairs

  paired-same : (p : Pair) (ps : List Pair) → p.0 ≡ name → times_paired (p ∷ ps) ≡ 1 + times_paired ps
  paired-same p ps same = omega (arith, sum_by-cons (λ (q : Pair). cond (bytes_eq q.0 name) 1 0) p ps, ap {B = ℕ} (λ (b : Bool). cond b 1 0) (same_name p.0 name same))

  paired-other : (p : Pair) (ps : List Pair) → p.0 ≢ name → times_paired (p ∷ ps) ≡ times_paired ps
  paired-other p ps other = omega (arith, sum_by-cons (λ (q : Pair). cond (bytes_eq q.0 name) 1 0) p ps, ap {B = ℕ} (λ (b : Bool). cond b 1 0) (other_name p.0 name other))

  none_paired : (ps : List Pair) → All (λ (p : Pair). p.0 ≢ name) ps → times_paired ps ≡ 0
  none_paired [] all = refl
  none_paired (p ∷ ps) all =
      paired-other p ps (All-head (λ (q : Pair). q.0 ≢ name) p ps all) ∙ none_paired ps (All-tail (λ (q : Pair). q.0 ≢ name) p ps all)

  once_paired : (d : ℕ) (es : Names) → AreIn d es → T (is_sorted link_cmp es) → times_paired (pairs_of es) ≤ 1
  once_paired d [] are h = omega arith
  once_paired d (e ∷ es) are h =
      let parts = sorted_parts (below_all link_cmp e.0 es) (is_sorted link_cmp es) h in
      ⊎_elim
      (λ (same : e.0.name ≡ name).
      let one : link_to d name ≡ e.0 = λ i. record { directory = sym are.0 i; name = sym same i } in
      let gone : find link_cmp (link_to d name) es ≡ None = ap (λ (l : Link). find link_cmp l es) one ∙ find_below link_cmp e.0 es parts.0 in
      omega (arith, paired-same (pair_in e) (pairs_of es) same, none_paired (pairs_of es) (no_pair d name es are.1 gone)))
      (λ (other : e.0.name ≢ name). omega (arith, paired-other (pair_in e) (pairs_of es) other, once_paired d es are.1 parts.1))
      (cases_name e.0.name name)

  of_changes : (changes : List NameChange) → count_by (λ (c : NameChange). bytes_eq c.name.now name) changes ≡ times_paired (map pair_of changes)
  of_changes [] = refl
  of_changes (c ∷ cs) = omega (
    arith,
    sum_by-cons (λ (x : NameChange). cond (bytes_eq x.name.now name) 1 0) c cs,
    sum_by-cons (λ (q : Pair). cond (bytes_eq q.0 name) 1 0) (pair_of c) (map pair_of cs),
    of_changes cs,
  )

-- ---- each is one that a name tree has

module _ (limits : Limits) (tree : Tree) (is : IsTree limits tree) (version : limits_of limits.version ≡ Some limits) (d : ℕ) where
  number_allowed : (number : ℕ) (o : Option Node) → fin.get tree.nodes number ≡ o → is_some o ≡ true → (2 ≤ number) × (number < 256 ^ 2)
  number_allowed number None e some = let never : false ≡ true = some in absurd cc
  number_allowed number (Some node) e some =
      let fits = is.nodes.nodes number node e in
      let most : limits.largest_number ≡ 65535 = (fixed limits.version limits version).number in
      let less : number < 65536 = omega (arith, fits.within, most) in
      (fits.first, less)

  link_allowed : (name : List ℕ) (number : ℕ) → fin.get tree.links (link_to d name) ≡ Some number → IsLink (record { number = number; name = name })
  link_allowed name number e =
      let fits = number_allowed number (fin.get tree.nodes number) refl (is.hierarchy.leads (link_to d name) number e) in
      record { least = fits.0; most = fits.1; name = is.nodes.names (link_to d name) number e }

  pub seen_allowed : (name : List ℕ) (value : Option ℕ) → number_of name (listed_of tree d) ≡ value → IfSome value (λ number. IsLink (record { number = number; name = name }))
  seen_allowed name None e = tt
  seen_allowed name (Some number) e = link_allowed name number (sym (number_in tree d name) ∙ e)

-- ---- so a directory can have them

pub can_change : (limits : Limits) (n : ℕ) (s : Store) (file : BlockTree) (layer : Layer) (d : ℕ) → IsGround limits n s file layer → (names : Names) → names ≡ changed_names layer d
    → (changes : List NameChange) → ChangeThem names changes → AreChanges changes
can_change limits n s file layer d ground names are changes them = record {
  each = λ change among.
      seen_allowed limits (through layer (image s file)) ground.tree ground.version d change.name.now change.number
      (All-contains (λ (c : NameChange). IsSeenAs layer (image s file) d (pair_of c)) changes change (made_seen layer (image s file) d names changes are them) among);
  once = λ name.
      let pairs : map pair_of changes ≡ pairs_of (changed_names layer d) = them ∙ ap (λ (es : Names). pairs_of es) are in
      omega (arith, of_changes name changes, ap (λ (ps : List Pair). times_paired name ps) pairs, once_paired name d (changed_names layer d) (names_in_it layer d) (changed_sorted layer (image s file) d));
}
