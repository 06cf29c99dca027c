-- The names of a directory of a tree, with their numbers.
use Rattle.std.proofs.Common.{◌≡◌, ℕ, List, [], ◌∷◌, Option, Some, Contains, drop, get_or, length, map, refl, sym, ap, ◌∙◌, arith}
use Rattle.std.specs.FinMap as fin
use Rattle.std.specs.List.{AllByRecursion}
use Rattle.sn_dir.specs.declared.listings.ListedName.{ListedName}
use Rattle.sn_live_files.specs.Listing.{links_of}
use Rattle.sn_live_files.proofs.ListingLemmas.{names_of-links, numbers_of-links}
use Rattle.sn_model.specs.declared.link.Link.{Link}
use Rattle.sn_model.specs.Seen.{names_of}
use Rattle.sn_model.specs.Tree.{Tree, link_to}
use Rattle.sn_model.proofs.ChainLemmas.{some_same}
use Rattle.sn_rooted_tree.proofs.CountLemmas.{later}

module _ (directory : ℕ) (number_of : Link → Option ℕ) where
  -- names that are those of some entries, with the numbers that both have
  named : (names : List ListedName) (es : List (Link × ℕ)) → map (λ (x : ListedName). x.name) names ≡ map (λ (e : Link × ℕ). e.0.name) es
      → ((x : ListedName) → Contains names x → number_of (link_to directory x.name) ≡ Some x.number)
      → AllByRecursion (λ (e : Link × ℕ). (e.0.directory ≡ directory) × (number_of e.0 ≡ Some e.1)) es
      → map (λ (x : ListedName). (link_to directory x.name, x.number)) names ≡ es
  named [] [] same numbers each = refl
  named [] (e ∷ es) same numbers each = absurd (omega (arith, ap length same))
  named (x ∷ xs) [] same numbers each = absurd (omega (arith, ap length same))
  named (x ∷ xs) (e ∷ es) same numbers each =
      let name : x.name ≡ e.0.name = ap (λ (names : List (List ℕ)). get_or names 0 []) same in
      let key : link_to directory x.name ≡ e.0 = (λ i. record { directory = sym each.0.0 i; name = name i }) in
      let number : x.number ≡ e.1 = some_same _ _ (sym (numbers x (0, omega arith, refl)) ∙ ap number_of key ∙ each.0.1) in
      let rest = named xs es (ap (λ (names : List (List ℕ)). drop 1 names) same) (λ y is. numbers y (later y x xs is)) each.1 in
      λ i. (key i, number i) ∷ rest i

-- the names of a directory with their numbers are its links
pub listed_links : (tree : Tree) (directory : ℕ) (names : List ListedName) → map (λ (x : ListedName). x.name) names ≡ names_of tree directory
    → ((x : ListedName) → Contains names x → fin.get tree.links (link_to directory x.name) ≡ Some x.number)
    → map (λ (x : ListedName). (link_to directory x.name, x.number)) names ≡ links_of tree directory
listed_links tree directory names same numbers =
    named directory (fin.get tree.links) names (links_of tree directory) (same ∙ sym (names_of-links tree directory)) numbers (numbers_of-links tree directory)
