-- Names that were copied out of a directory.
use Rattle.std.proofs.Common.{◌≡◌, ℕ, List, [], ◌∷◌, ◌++◌, map, sym, ap, subst, ◌∙◌, append_assoc}
use Rattle.std.specs.List.Sorted.{IsPermutation}
use Rattle.std.proofs.lemmas.List.{map-append}
use Rattle.std.proofs.lemmas.List.Sorted.{IsPermutation-map}
use Rattle.sn_layout_node.specs.Directory.{Link}
use Rattle.sn_dir.specs.Listed.{link_of}
use Rattle.sn_dir.specs.declared.listings.ListedName.{ListedName}

-- one name goes over from those that are left
pub listed_more : (old new : List ListedName) (number : ℕ) (bytes name : List ℕ) (left rest : List Link) → name ≡ bytes
    → new ≡ old ++ record { name = name; number = number } ∷ []
    → left ≡ record { number = number; name = bytes } ∷ rest
    → map link_of new ++ rest ≡ map link_of old ++ left
listed_more old new number bytes name left rest same pushed next =
    let listed : ListedName = record { name = name; number = number } in
    let link : List ℕ → Link = λ (n : List ℕ). record { number = number; name = n } in
    ap (λ (names : List ListedName). map link_of names ++ rest) pushed
    ∙ ap (λ (links : List Link). links ++ rest) (map-append link_of old (listed ∷ []))
    ∙ append_assoc (map link_of old) (link name ∷ []) rest
    ∙ ap (λ (n : List ℕ). map link_of old ++ (link n ∷ rest)) same
    ∙ ap (λ (links : List Link). map link_of old ++ links) (sym next)

-- other places, the same names
pub same_names : (old new : List ListedName) (links : List Link) → map link_of old ≡ links → IsPermutation old new → IsPermutation links (map link_of new)
same_names old new links are moved = subst (λ (ls : List Link). IsPermutation ls (map link_of new)) are (IsPermutation-map link_of old new moved)
