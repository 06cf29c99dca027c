-- The names that are to be made in a directory: all that it has, each once.
use Rattle.std.proofs.Common.{◌≡◌, ◌≢◌, ◌⊎◌, ℕ, ◌==◌, Bool, true, false, cond, T, ◌&&◌, Some, List, [], ◌∷◌, map, filter, inl, inr, refl, sym, ap, subst, ◌∙◌, eqb-true, eq-eqb}
use Rattle.std.specs.List.{AllByRecursion}
use Rattle.std.specs.Ordering.{is_lt, eq_by_cmp}
use Rattle.std.specs.declared.cmp.Ordering.{Ordering}
use Rattle.std.specs.declared.cmp.Ordering.TheVariants.{Equal}
use Rattle.std.specs.Cmp.{tied_itself}
use Rattle.std.specs.FinMap as finite
use Rattle.std.specs.FinMap.Entries.{below_all, find, is_sorted}
use Rattle.std.proofs.lemmas.Map.Views.{tells_apart}
use Rattle.sn_model.specs.declared.link.Link.{Link}
use Rattle.sn_model.specs.Tree.{Tree, link_cmp, link_to}
use Rattle.sn_model.proofs.LinkLemmas.{exact_links, links_total}
use Rattle.sn_export_walk.proofs.Names.{IsNameIn, links_in, names_in_directory}

abbrev pub LinkEntry : Type 0
LinkEntry = Link × ℕ

abbrev in_directory : ℕ → LinkEntry → Bool
in_directory directory e = e.0.directory == directory

-- a name that is still to be made, in the directory that names lead to
pub record Next : Type 0 where
  pub names : List (List ℕ)
  pub directory : ℕ
  pub name : List ℕ
  pub number : ℕ

abbrev pub link_of : Next → Link
link_of next = link_to next.directory next.name

abbrev pub IsIn : Link → List Next → Type 0
IsIn link [] = ⊥
IsIn link (next ∷ others) = (link_of next ≡ link) ⊎ IsIn link others

-- another name than this one
abbrev pub IsApart : Next → Next → Type 0
IsApart next other = link_of other ≢ link_of next

abbrev pub AreApart : List Next → Type 0
AreApart [] = Unit {0}
AreApart (next ∷ others) = AllByRecursion (IsApart next) others × AreApart others

-- ---- of a directory

abbrev pub next_in : List (List ℕ) → ℕ → LinkEntry → Next
next_in names directory e = record { names = names; directory = directory; name = e.0.name; number = e.1 }

abbrev pub nexts_in : List (List ℕ) → ℕ → List LinkEntry → List Next
nexts_in names directory es = map (next_in names directory) es

abbrev pub children_of : Tree → List (List ℕ) → ℕ → List Next
children_of tree names directory = nexts_in names directory (links_in tree directory)

-- all of them
abbrev Holds : Link → List LinkEntry → Type 0
Holds link [] = ⊥
Holds link (e ∷ es) = (e.0 ≡ link) ⊎ Holds link es

found_in : (link : Link) (n : ℕ) (es : List LinkEntry) → find link_cmp link es ≡ Some n → Holds link es
found_in link n [] f = cc f
found_in link n (e ∷ es) f =
    elim (eq_by_cmp link_cmp link e.0) as (λ b. eq_by_cmp link_cmp link e.0 ≡ b → cond b (Some e.1) (find link_cmp link es) ≡ Some n → Holds link (e ∷ es)) [
      | true ↦ λ is g. inl (sym (tells_apart exact_links link e.0 is))
      | false ↦ λ is g. inr (found_in link n es g)
    ] refl f

kept_in : (names : List (List ℕ)) (directory : ℕ) (name : List ℕ) (es : List LinkEntry) → Holds (link_to directory name) es → IsIn (link_to directory name) (nexts_in names directory (filter (in_directory directory) es))
kept_in names directory name [] h = h
kept_in names directory name (e ∷ es) (inl here) =
    let own : in_directory directory e ≡ true = eq-eqb e.0.directory directory (ap (λ (l : Link). l.directory) here) in
    let Kept : Bool → Type 0 = λ b. IsIn (link_to directory name) (nexts_in names directory (cond b (e ∷ filter (in_directory directory) es) (filter (in_directory directory) es))) in
    subst Kept (sym own) (inl (ap (λ (l : Link). link_to directory l.name) here))
kept_in names directory name (e ∷ es) (inr later) =
    let more = kept_in names directory name es later in
    elim (in_directory directory e) as (λ b. IsIn (link_to directory name) (nexts_in names directory (cond b (e ∷ filter (in_directory directory) es) (filter (in_directory directory) es)))) [
      | true ↦ inr more
      | false ↦ more
    ]

pub all_children : (tree : Tree) (names : List (List ℕ)) (directory n : ℕ) (name : List ℕ) → finite.get tree.links (link_to directory name) ≡ Some n → IsIn (link_to directory name) (children_of tree names directory)
all_children tree names directory n name e =
    kept_in names directory name (finite.entries tree.links) (found_in (link_to directory name) n (finite.entries tree.links) (sym (finite.get-entries tree.links (link_to directory name)) ∙ e))

-- each of them once
both : (a b : Bool) → T (a && b) → T a × T b
both true b h = (tt, h)
both false b h = absurd h

not_self : (e x : LinkEntry) → T (is_lt (link_cmp e.0 x.0)) → x.0 ≢ e.0
not_self e x less same =
    let tied : link_cmp e.0 x.0 ≡ Equal = ap (link_cmp e.0) same ∙ tied_itself links_total e.0 in
    absurd (subst (λ (r : Ordering). T (is_lt r)) tied less)

-- those after an entry, in a directory
apart_from : (names : List (List ℕ)) (directory : ℕ) (e : LinkEntry) (es : List LinkEntry) → e.0.directory ≡ directory → T (below_all link_cmp e.0 es)
    → AllByRecursion (IsApart (next_in names directory e)) (nexts_in names directory (filter (in_directory directory) es))
apart_from names directory e [] own h = tt
apart_from names directory e (x ∷ es) own h =
    let s = both (is_lt (link_cmp e.0 x.0)) (below_all link_cmp e.0 es) h in
    let more = apart_from names directory e es own s.1 in
    elim (in_directory directory x) as (λ b. in_directory directory x ≡ b
    → AllByRecursion (IsApart (next_in names directory e)) (nexts_in names directory (cond b (x ∷ filter (in_directory directory) es) (filter (in_directory directory) es)))) [
      | true ↦ λ k. (
        (λ same. not_self e x s.0 (whole x (eqb-true x.0.directory directory k) ∙ same ∙ sym (whole e own))),
        more,
      )
      | false ↦ λ k. more
    ] refl
  where
    whole : (y : LinkEntry) → y.0.directory ≡ directory → y.0 ≡ link_to directory y.0.name
    whole y is = ap (λ (d : ℕ). link_to d y.0.name) is

apart_in : (names : List (List ℕ)) (directory : ℕ) (es : List LinkEntry) → T (is_sorted link_cmp es) → AreApart (nexts_in names directory (filter (in_directory directory) es))
apart_in names directory [] h = tt
apart_in names directory (e ∷ es) h =
    let s = both (below_all link_cmp e.0 es) (is_sorted link_cmp es) h in
    let more = apart_in names directory es s.1 in
    elim (in_directory directory e) as (λ b. in_directory directory e ≡ b → AreApart (nexts_in names directory (cond b (e ∷ filter (in_directory directory) es) (filter (in_directory directory) es)))) [
      | true ↦ λ k. (apart_from names directory e es (eqb-true e.0.directory directory k) s.0, more)
      | false ↦ λ k. more
    ] refl

pub children_apart : (tree : Tree) (names : List (List ℕ)) (directory : ℕ) → AreApart (children_of tree names directory)
children_apart tree names directory = apart_in names directory (finite.entries tree.links) (finite.entries_sorted tree.links)

-- each is one
abbrev pub IsNextIn : Tree → List (List ℕ) → ℕ → Next → Type 0
IsNextIn tree names directory next = (next.names ≡ names) × (next.directory ≡ directory) × (finite.get tree.links (link_of next) ≡ Some next.number)

nexts_are : (tree : Tree) (names : List (List ℕ)) (directory : ℕ) (es : List LinkEntry) → AllByRecursion (IsNameIn tree directory) es → AllByRecursion (IsNextIn tree names directory) (nexts_in names directory es)
nexts_are tree names directory [] are = tt
nexts_are tree names directory (e ∷ es) are = ((refl, refl, are.0), nexts_are tree names directory es are.1)

pub children_are : (tree : Tree) (names : List (List ℕ)) (directory : ℕ) → AllByRecursion (IsNextIn tree names directory) (children_of tree names directory)
children_are tree names directory = nexts_are tree names directory (links_in tree directory) (names_in_directory tree directory)
