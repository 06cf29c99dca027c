-- A directory whose names were changed has those that are seen of it through a layer.
use Rattle.std.proofs.Common.{◌≡◌, ◌≢◌, ℕ, suc, ◌==◌, Bool, true, false, cond, if◌then◌else◌, List, [], ◌∷◌, map, Option, None, Some, Contains, refl, sym, ap, subst, ◌∙◌, arith}
use Rattle.std.specs.Prelude.{All}
use Rattle.std.specs.FinMap as fin
use Rattle.std.specs.FinMap.Entries.{find, where_key}
use Rattle.std.specs.List.{AllByRecursion}
use Rattle.std.specs.Ordering.{eq_by_cmp}
use Rattle.std.specs.Cmp.{eq_by_cmp_equiv}
use Rattle.std.proofs.lemmas.Bool.{eq-eqb, eqb-true, true≢false}
use Rattle.std.proofs.lemmas.List.Elements.{All-nil, All-cons, All-head, All-tail, All-map, All-contains, All-same}
use Rattle.std.proofs.lemmas.Map.Views.{tells_apart}
use Rattle.sn_dir_change.specs.Changes.{IsChanged}
use Rattle.sn_dir_change.specs.declared.name_change.NameChange.{NameChange}
use Rattle.sn_layout_node.specs.Directory.{Link as Name, number_of}
use Rattle.sn_model.specs.Tree.{Tree, link_cmp, link_to}
use Rattle.sn_model.specs.declared.link.Link.{Link}
use Rattle.sn_model.proofs.EntryLemmas.{entries-retain}
use Rattle.sn_model.proofs.LinkLemmas.{exact_links, links_total}
use Rattle.sn_overlay.specs.Layers.{Layer, hides_names, name_seen, through}
use Rattle.sn_overlay.specs.Lists.{changed_names}
use Rattle.sn_overlay.proofs.LayerLemmas.{get-through_links}
use Rattle.sn_overlay.proofs.OverlaidLemmas.{get-kept}
use Rattle.sn_cp_nodes.specs.Made.{ChangeThem, Pair, pair_in, pair_of}
use Rattle.sn_cp_nodes.specs.Parts.{Names}

-- ---- the names of one directory

abbrev pub AreIn : ℕ → Names → Type 0
AreIn directory es = AllByRecursion (λ (e : Link × Option ℕ). e.0.directory ≡ directory) es

kept_in : (directory : ℕ) (es : Names) → AreIn directory (where_key link_cmp (λ link. link.directory == directory) es)
kept_in directory [] = tt
kept_in directory (e ∷ es) = told (e.0.directory == directory) refl (kept_in directory es)
  where
    told : (b : Bool) → (e.0.directory == directory) ≡ b → AreIn directory (where_key link_cmp (λ link. link.directory == directory) es) → AreIn directory (cond b (e ∷ where_key link_cmp (λ link. link.directory == directory) es) (where_key link_cmp (λ link. link.directory == directory) es))
    told true is later = (eqb-true e.0.directory directory is, later)
    told false is later = later

pub names_in_it : (layer : Layer) (directory : ℕ) → AreIn directory (changed_names layer directory)
unfolding changed_names
names_in_it layer directory = subst (AreIn directory) (sym (entries-retain links_total exact_links layer.names (λ link. link.directory == directory))) (kept_in directory (fin.entries layer.names))

pub changed_at : (layer : Layer) (directory : ℕ) (name : List ℕ) → find link_cmp (link_to directory name) (changed_names layer directory) ≡ fin.get layer.names (link_to directory name)
unfolding changed_names
changed_at layer directory name =
    sym (fin.get-entries (fin.retain_keys layer.names (λ link. link.directory == directory)) (link_to directory name))
    ∙ get-kept exact_links layer.names (λ link. link.directory == directory) (link_to directory name)
    ∙ ap (λ (b : Bool). cond b (fin.get layer.names (link_to directory name)) None) (eq-eqb directory directory refl)

-- ---- a name among them

-- the names with what they are to denote
abbrev pub pairs_of : Names → List Pair
pairs_of es = map pair_in es

module _ (directory : ℕ) (name : List ℕ) where
  abbrev link : Link
  link = link_to directory name

  -- a name that is found is paired with what it is to denote
  pub found_pair : (es : Names) (value : Option ℕ) → find link_cmp link es ≡ Some value → Contains (pairs_of es) (name, value)
  found_pair [] value e = absurd cc
  found_pair (x ∷ es) value e = told (eq_by_cmp link_cmp link x.0) refl e (found_pair es value)
    where
      told : (b : Bool) → eq_by_cmp link_cmp link x.0 ≡ b → cond b (Some x.1) (find link_cmp link es) ≡ Some value → (find link_cmp link es ≡ Some value → Contains (pairs_of es) (name, value)) → Contains (pairs_of (x ∷ es)) (name, value)
      told true is found later =
          let same : x.0.name ≡ name = sym (ap (λ (l : Link). l.name) (tells_apart exact_links link x.0 is)) in
          let one : x.1 ≡ value = cc in
          (0, omega arith, λ i. (same i, one i))
      told false is found later = let w = later found in (suc w.0, omega (arith, w.1), w.2)

  -- one that isn't is nowhere among them
  pub no_pair : (es : Names) → AreIn directory es → find link_cmp link es ≡ None → All (λ (p : Pair). p.0 ≢ name) (pairs_of es)
  no_pair [] are e = All-nil (λ (p : Pair). p.0 ≢ name)
  no_pair (x ∷ es) are e = told (eq_by_cmp link_cmp link x.0) refl e (no_pair es are.1)
    where
      told : (b : Bool) → eq_by_cmp link_cmp link x.0 ≡ b → cond b (Some x.1) (find link_cmp link es) ≡ None → (find link_cmp link es ≡ None → All (λ (p : Pair). p.0 ≢ name) (pairs_of es)) → All (λ (p : Pair). p.0 ≢ name) (pairs_of (x ∷ es))
      told true is found later = absurd cc
      told false is found later =
          All-cons (λ (p : Pair). p.0 ≢ name) (x.0.name, x.1) (pairs_of es)
          (λ same.
          let key : link ≡ x.0 = λ i. record { directory = sym are.0 i; name = sym same i } in
          true≢false (sym ((eq_by_cmp_equiv links_total).refl link) ∙ ap (λ (l : Link). eq_by_cmp link_cmp link l) key ∙ is))
          (later found)

-- what is so of pairs is so of the changes
pub from_pairs : (P : Pair → Type 0) (changes : List NameChange) → All P (map pair_of changes) → All (λ (change : NameChange). P (pair_of change)) changes
from_pairs P [] all = All-nil (λ (change : NameChange). P (pair_of change))
from_pairs P (c ∷ cs) all =
    All-cons (λ (change : NameChange). P (pair_of change)) c cs (All-head P (pair_of c) (map pair_of cs) all) (from_pairs P cs (All-tail P (pair_of c) (map pair_of cs) all))

-- ---- what the directory has then

module _ (layer : Layer) (tree : Tree) (directory : ℕ) (names : Names) (changes : List NameChange) (old new : List Name)
    (are : names ≡ changed_names layer directory) (them : ChangeThem names changes) (changed : IsChanged changes old new)
    (was : (name : List ℕ) → number_of name old ≡ (if hides_names (fin.get layer.nodes directory) then None else fin.get tree.links (link_to directory name))) where
  pub names_seen : (name : List ℕ) → number_of name new ≡ fin.get (through layer tree).links (link_to directory name)
  names_seen name = told (fin.get layer.names (link_to directory name)) refl ∙ sym (get-through_links layer tree (link_to directory name))
    where
      here : (value : Option (Option ℕ)) → fin.get layer.names (link_to directory name) ≡ value → find link_cmp (link_to directory name) names ≡ value
      here value e = ap (λ (es : Names). find link_cmp (link_to directory name) es) are ∙ changed_at layer directory name ∙ e

      in_it : AreIn directory names
      in_it = subst (AreIn directory) (sym are) (names_in_it layer directory)

      told : (value : Option (Option ℕ)) → fin.get layer.names (link_to directory name) ≡ value → number_of name new ≡ name_seen layer (link_to directory name) (fin.get layer.names (link_to directory name)) (fin.get tree.links (link_to directory name))
      told (Some number) e =
          let all : All (λ (p : Pair). number_of p.0 new ≡ p.1) (pairs_of names) =
          All-same (λ (p : Pair). number_of p.0 new ≡ p.1) (pairs_of names) (map pair_of changes) (sym them) (All-map (λ (p : Pair). number_of p.0 new ≡ p.1) pair_of changes changed.made) in
          All-contains (λ (p : Pair). number_of p.0 new ≡ p.1) (pairs_of names) (name, number) all (found_pair directory name names number (here (Some number) e))
          ∙ sym (ap (λ (v : Option (Option ℕ)). name_seen layer (link_to directory name) v (fin.get tree.links (link_to directory name))) e)
      told None e =
          let all : All (λ (p : Pair). p.0 ≢ name) (map pair_of changes) =
          All-same (λ (p : Pair). p.0 ≢ name) (map pair_of changes) (pairs_of names) them (no_pair directory name names in_it (here None e)) in
          changed.others name (from_pairs (λ (p : Pair). p.0 ≢ name) changes all)
          ∙ was name
          ∙ sym (ap (λ (v : Option (Option ℕ)). name_seen layer (link_to directory name) v (fin.get tree.links (link_to directory name))) e)
