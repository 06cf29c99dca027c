-- A table beside a tree in which names are added and removed.
use Rattle.std.proofs.Common.{◌≡◌, ◌≢◌, ◌⊎◌, inl, inr, ℕ, ◌+◌, ◌-◌, ◌^◌, ◌<◌, ◌==◌, Bool, cond, min, List, None, Some, sym, ap, subst, ◌∙◌, arith, eq-eqb, eqb-true}
use Rattle.std.specs.Cmp.{nat_cmp_total}
use Rattle.std.specs.FinMap as map
use Rattle.std.proofs.lemmas.Bool.{false_from_ne_true}
use Rattle.std.proofs.lemmas.Map.Lookups.{exact_unsigned}
use Rattle.sn_limits.specs.declared.kind.Kind.TheVariants.{Directory}
use Rattle.sn_model.specs.declared.link.Link.{Link}
use Rattle.sn_model.specs.Changes.{put_link, take_link}
use Rattle.sn_model.specs.NameTree.{HasKind}
use Rattle.sn_model.specs.Tree.{Tree, link_cmp, names_for, names_in}
use Rattle.sn_model.proofs.ChainLemmas.{some_same}
use Rattle.sn_model.proofs.CountLemmas.{count_inserted, count_removed}
use Rattle.sn_model.proofs.LinkLemmas.{exact_links, links_total}
use Rattle.sn_model.proofs.MapLemmas.{get_inserted, get_other, get_was, same_or_apart}
use Rattle.sn_model.proofs.NameLemmas.{is_unnamed}
use Rattle.sn_directories.specs.Told.{SetsNames, SetsParent, TellsDirectories, counted_at}
use Rattle.sn_directories.specs.declared.table.Counted.{Counted}

one_or_other : (a b : ℕ) → (a ≡ b) ⊎ (a ≢ b)
one_or_other = same_or_apart nat_cmp_total exact_unsigned

-- 1 where two numbers are one
abbrev once : ℕ → ℕ → ℕ
once a b = cond (a == b) 1 0

same_once : (a b : ℕ) → a ≡ b → once a b ≡ 1
same_once a b e = ap {B = ℕ} (λ (t : Bool). cond t 1 0) (eq-eqb a b e)

other_none : (a b : ℕ) → (a ≡ b → ⊥) → once a b ≡ 0
other_none a b d = ap {B = ℕ} (λ (t : Bool). cond t 1 0) (false_from_ne_true (a == b) (λ e. d (eqb-true a b e)))

-- ---- names that are added and removed

-- a name is removed
module _ (tree : Tree) (link : Link) (number : ℕ) (old new : List Counted) (tells : TellsDirectories tree old) (named : map.get tree.links link ≡ Some number) where
  pub loses : (names : ℕ) → names ≡ (counted_at old link.directory).names - 1 → SetsNames link.directory names old new → TellsDirectories (take_link tree link) new
  loses count is sets = record { names = names; parents = parents }
    where
      taken : (d : ℕ) → names_in (take_link tree link) d + once link.directory d ≡ names_in tree d
      taken d = count_removed links_total exact_links (λ (e : Link × ℕ). e.0.directory == d) tree.links link number named

      names : (d : ℕ) → (counted_at new d).names ≡ names_in (take_link tree link) d
      names d = told (one_or_other d link.directory)
        where
          told : (d ≡ link.directory) ⊎ (d ≢ link.directory) → (counted_at new d).names ≡ names_in (take_link tree link) d
          told (inl same) =
              let here : (counted_at new d).names ≡ count = ap (λ n. (counted_at new n).names) same ∙ sets.here in
              let was : (counted_at old d).names ≡ (counted_at old link.directory).names = ap (λ n. (counted_at old n).names) same in
              omega (arith, here, was, is, tells.names d, taken d, same_once link.directory d (sym same))
          told (inr apart) = omega (arith, sets.others d apart, tells.names d, taken d, other_none link.directory d (λ e. apart (sym e)))

      parents : (l : Link) (n : ℕ) → map.get (take_link tree link).links l ≡ Some n → HasKind (take_link tree link) n Directory → (counted_at new n).parent ≡ l.directory
      parents l n e kind = sets.parents n ∙ tells.parents l n (get_was links_total exact_links tree.links link l n e).1 kind

-- a number gets a name
module _ (tree : Tree) (link : Link) (number : ℕ) (old mid new : List Counted) (tells : TellsDirectories tree old) (absent : map.get tree.links link ≡ None) (few : names_in tree link.directory < 65535) (first : HasKind tree number Directory → names_for tree number ≡ 0) where
  pub gains : (names : ℕ) → names ≡ min ((counted_at old link.directory).names + 1) (2 ^ 32 - 1) → SetsNames link.directory names old mid → SetsParent number link.directory mid new → TellsDirectories (put_link tree link number) new
  gains count is counts moves = record { names = names; parents = parents }
    where
      put : (d : ℕ) → names_in (put_link tree link number) d ≡ names_in tree d + once link.directory d
      put d = count_inserted links_total exact_links (λ (e : Link × ℕ). e.0.directory == d) tree.links link number absent

      names : (d : ℕ) → (counted_at new d).names ≡ names_in (put_link tree link number) d
      names d = moves.names d ∙ told (one_or_other d link.directory)
        where
          told : (d ≡ link.directory) ⊎ (d ≢ link.directory) → (counted_at mid d).names ≡ names_in (put_link tree link number) d
          told (inl same) =
              let here : (counted_at mid d).names ≡ count = ap (λ n. (counted_at mid n).names) same ∙ counts.here in
              let was : names_in tree d ≡ names_in tree link.directory = ap (names_in tree) same in
              omega (arith, here, is, was, few, tells.names link.directory, put d, same_once link.directory d (sym same))
          told (inr apart) = omega (arith, counts.others d apart, tells.names d, put d, other_none link.directory d (λ e. apart (sym e)))

      parents : (l : Link) (n : ℕ) → map.get (put_link tree link number).links l ≡ Some n → HasKind (put_link tree link number) n Directory → (counted_at new n).parent ≡ l.directory
      parents l n e kind = told (same_or_apart links_total exact_links l link) (one_or_other n number)
        where
          told : (l ≡ link) ⊎ (l ≢ link) → (n ≡ number) ⊎ (n ≢ number) → (counted_at new n).parent ≡ l.directory
          told (inl same) at =
              let is : number ≡ n = some_same _ _ (sym (get_inserted links_total tree.links link number) ∙ ap (map.get (put_link tree link number).links) (sym same) ∙ e) in
              ap (λ k. (counted_at new k).parent) (sym is) ∙ moves.here ∙ ap (λ (k : Link). k.directory) (sym same)
          told (inr apart) (inl same) =
              let was : map.get tree.links l ≡ Some n = sym (get_other links_total exact_links tree.links link number l apart) ∙ e in
              absurd (is_unnamed tree number (first (subst (λ (k : ℕ). HasKind tree k Directory) same kind)) l (was ∙ ap (λ (k : ℕ). Some k) same))
          told (inr apart) (inr other) =
              let was : map.get tree.links l ≡ Some n = sym (get_other links_total exact_links tree.links link number l apart) ∙ e in
              moves.others n other ∙ counts.parents n ∙ tells.parents l n was kind

-- nodes change, and no number that has a name becomes a directory's
pub renoded : (tree after : Tree) (rows : List Counted) → after.links ≡ tree.links → ((link : Link) (number : ℕ) → map.get tree.links link ≡ Some number → HasKind after number Directory → HasKind tree number Directory)
    → TellsDirectories tree rows → TellsDirectories after rows
renoded tree after rows links kinds tells = record {
  names = λ d. tells.names d ∙ ap (λ (l : map.FinMap link_cmp ℕ). names_in (record tree { links = l }) d) (sym links);
  parents = λ link number e kind. let was : map.get tree.links link ≡ Some number = ap (λ (l : map.FinMap link_cmp ℕ). map.get l link) (sym links) ∙ e in tells.parents link number was (kinds link number was kind);
}
