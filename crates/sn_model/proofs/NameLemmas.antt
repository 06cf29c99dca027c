-- How many names a directory and a number have, as names come and go.
use Rattle.std.proofs.Common.{◌≡◌, ◌≢◌, ℕ, ◌+◌, ◌≤◌, Bool, cond, Some, None, refl, sym, ap, ◌∙◌, ◌==◌, arith, eq-eqb, eqb-true}
use Rattle.std.specs.FinMap as map
use Rattle.std.proofs.lemmas.Bool.{true≢false, false_from_ne_true}
use Rattle.sn_model.specs.declared.link.Link.{Link}
use Rattle.sn_model.specs.Tree.{Tree, names_in, names_for}
use Rattle.sn_model.specs.Changes.{put_link, take_link}
use Rattle.sn_model.specs.Covers.{IsUnnamed}
use Rattle.sn_model.proofs.CountLemmas.{count_inserted, count_removed, count_fewer, none_passes, count_none}
use Rattle.sn_model.proofs.LinkLemmas.{exact_links, links_total}

-- links that lead from a directory, and to a number
abbrev leads_from : ℕ → Link × ℕ → Bool
leads_from directory e = e.0.directory == directory

abbrev leads_to : ℕ → Link × ℕ → Bool
leads_to number e = e.1 == number

-- what a number that isn't another one adds
nothing : (n a b : ℕ) → (a ≡ b → ⊥) → n + cond (a == b) 1 0 ≡ n
nothing n a b d = omega (arith, ap {B = ℕ} (λ (t : Bool). cond t 1 0) (false_from_ne_true (a == b) (λ e. d (eqb-true a b e))))

one : (n a b : ℕ) → a ≡ b → n + cond (a == b) 1 0 ≡ n + 1
one n a b e = ap (λ (t : Bool). n + cond t 1 0) (eq-eqb a b e)

-- a new name is one more of its directory and of its number, and no other's
pub names_in_more : (tree : Tree) (link : Link) (number : ℕ) → map.get tree.links link ≡ None → (directory : ℕ) → link.directory ≡ directory → names_in (put_link tree link number) directory ≡ names_in tree directory + 1
names_in_more tree link number g directory e = count_inserted links_total exact_links (leads_from directory) tree.links link number g ∙ one _ link.directory directory e

pub names_in_other : (tree : Tree) (link : Link) (number : ℕ) → map.get tree.links link ≡ None → (directory : ℕ) → (link.directory ≡ directory → ⊥) → names_in (put_link tree link number) directory ≡ names_in tree directory
names_in_other tree link number g directory d = count_inserted links_total exact_links (leads_from directory) tree.links link number g ∙ nothing _ link.directory directory d

pub names_for_more : (tree : Tree) (link : Link) (number : ℕ) → map.get tree.links link ≡ None → (other : ℕ) → number ≡ other → names_for (put_link tree link number) other ≡ names_for tree other + 1
names_for_more tree link number g other e = count_inserted links_total exact_links (leads_to other) tree.links link number g ∙ one _ number other e

pub names_for_other : (tree : Tree) (link : Link) (number : ℕ) → map.get tree.links link ≡ None → (other : ℕ) → (number ≡ other → ⊥) → names_for (put_link tree link number) other ≡ names_for tree other
names_for_other tree link number g other d = count_inserted links_total exact_links (leads_to other) tree.links link number g ∙ nothing _ number other d

-- a name that goes leaves no more
pub names_in_fewer : (tree : Tree) (link : Link) (directory : ℕ) → names_in (take_link tree link) directory ≤ names_in tree directory
names_in_fewer tree link directory = count_fewer links_total exact_links (leads_from directory) tree.links link

pub names_for_fewer : (tree : Tree) (link : Link) (number : ℕ) → names_for (take_link tree link) number ≤ names_for tree number
names_for_fewer tree link number = count_fewer links_total exact_links (leads_to number) tree.links link

-- an empty directory has no name in it
pub not_in : (tree : Tree) (directory : ℕ) → names_in tree directory ≡ 0 → (link : Link) (number : ℕ) → map.get tree.links link ≡ Some number → link.directory ≢ directory
not_in tree directory z link number e q = true≢false (sym (eq-eqb link.directory directory q) ∙ none_passes links_total exact_links (leads_from directory) tree.links z link number e)

-- a number in no link has no names, and the other way round
pub no_names_for : (tree : Tree) (number : ℕ) → IsUnnamed tree number → names_for tree number ≡ 0
no_names_for tree number h = count_none links_total exact_links (leads_to number) tree.links (λ q v e. false_from_ne_true (v == number) (λ t. h q (e ∙ ap (λ k. Some k) (eqb-true v number t))))

pub is_unnamed : (tree : Tree) (number : ℕ) → names_for tree number ≡ 0 → IsUnnamed tree number
is_unnamed tree number z link e = true≢false (sym (eq-eqb number number refl) ∙ none_passes links_total exact_links (leads_to number) tree.links z link number e)

-- a name that goes is one less of its directory and of its number
pub names_in_less : (tree : Tree) (link : Link) (number : ℕ) → map.get tree.links link ≡ Some number → (directory : ℕ) → link.directory ≡ directory → names_in (take_link tree link) directory + 1 ≡ names_in tree directory
names_in_less tree link number g directory e = sym (one _ link.directory directory e) ∙ count_removed links_total exact_links (leads_from directory) tree.links link number g

pub names_for_less : (tree : Tree) (link : Link) (number : ℕ) → map.get tree.links link ≡ Some number → names_for (take_link tree link) number + 1 ≡ names_for tree number
names_for_less tree link number g = sym (one _ number number refl) ∙ count_removed links_total exact_links (leads_to number) tree.links link number g
