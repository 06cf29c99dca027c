-- The names of a directory with their numbers, and changed entries merged over others.
use Rattle.std.specs.Prelude.{ℕ, ◌==◌, List, [], ◌∷◌, Option, None, Some}
use Rattle.std.specs.declared.cmp.Ordering.{Ordering}
use Rattle.std.specs.FinMap as fin
use Rattle.std.specs.FinMap.Entries.{by_order}
use Rattle.sn_model.specs.declared.link.Link.{Link}
use Rattle.sn_model.specs.Tree.{Tree}

-- the names of a directory in their order, each with its number
unfoldable pub links_of : Tree → ℕ → List (Link × ℕ)
links_of tree directory = fin.entries (fin.retain_keys tree.links (λ link. link.directory == directory))

-- an entry that changed before others: it has its value, or was removed
unfoldable pub set_first : {K X : Type 0} → K × Option X → List (K × X) → List (K × X)
set_first (key, Some value) rest = (key, value) ∷ rest
set_first (key, None) rest = rest

unfoldable pub set_all : {K X : Type 0} → List (K × Option X) → List (K × X)
set_all [] = []
set_all (c ∷ changed) = set_first c (set_all changed)

module _ {K X : Type 0} (R : K → K → Ordering) where
  -- One entry below, where those after it are merged with the changes that are left. At the key that changed it is not seen.
  unfoldable pub one_merged : K × X → (List (K × Option X) → List (K × X)) → List (K × Option X) → List (K × X)
  one_merged below on [] = below ∷ on []
  one_merged below on (c ∷ changed) = by_order (R c.0 below.0) (set_first c (one_merged below on changed)) (set_first c (on changed)) (below ∷ on (c ∷ changed))

  -- Changed entries merged over those below, both in the order of their keys.
  unfoldable pub merged : List (K × Option X) → List (K × X) → List (K × X)
  merged changed [] = set_all changed
  merged changed (b ∷ below) = one_merged b (λ rest. merged rest below) changed
