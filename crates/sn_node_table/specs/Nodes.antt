-- A node of the table, and its changes.
use Rattle.std.specs.Prelude.{◌≡◌, ℕ, ◌-◌, ◌==◌, ◌&&◌, Bool, not, List, [], ◌∷◌, ◌++◌, length, take, drop, filter, slice_get, Option, None, Some}
use Rattle.std.specs.Ordering.{nat_cmp}
use Rattle.std.specs.Cmp.Lexicographic.{slice_cmp, pointwise}
use Rattle.std.specs.FinMap as map
use Rattle.sn_node_table.specs.declared.links.Link.{Link}

-- the ids that the names below a node lead to
abbrev pub Below : Type 0
Below = map.FinMap (slice_cmp nat_cmp) ℕ

-- the number of its object; the names under which it was found, in the order in which they were found; the known names below it; counts
pub record Node : Type 0 where
  pub inode : ℕ
  pub links : List Link
  pub below : Below
  pub lookups : ℕ
  pub handles : ℕ

abbrev pub link_to : ℕ → List ℕ → Link
link_to parent name = record { parent = parent; name = name }

abbrev pub is_link : ℕ → List ℕ → Link → Bool
is_link parent name link = (link.parent == parent) && pointwise ◌==◌ link.name name

-- a node that was looked up once
abbrev pub new_node : ℕ → Node
new_node inode = record { inode = inode; links = []; below = map.empty; lookups = 1; handles = 0 }

abbrev pub first_link : Node → Option Link
first_link node = slice_get node.links 0

-- with one more name at the end; without the first one, without the last one, and without one of them
abbrev pub with_link : Link → Node → Node
with_link link node = record node { links = node.links ++ link ∷ [] }

abbrev pub without_first_link : Node → Node
without_first_link node = record node { links = drop 1 node.links }

abbrev pub without_last_link : Node → Node
without_last_link node = record node { links = take (length node.links - 1) node.links }

abbrev pub without_link : ℕ → List ℕ → Node → Node
without_link parent name node = record node { links = filter (λ link. not (is_link parent name link)) node.links }

-- with a name below it that leads to an id, and without that name
abbrev pub with_name : List ℕ → ℕ → Node → Node
with_name name id node = record node { below = map.insert node.below name id }

abbrev pub without_name : List ℕ → Node → Node
without_name name node = record node { below = map.remove node.below name }

abbrev pub with_lookups : ℕ → Node → Node
with_lookups lookups node = record node { lookups = lookups }

abbrev pub with_handles : ℕ → Node → Node
with_handles handles node = record node { handles = handles }

-- the names below a node, none where there is no node
abbrev pub below_of : Option Node → Below
below_of None = map.empty
below_of (Some node) = node.below

-- Nothing holds it: it has no lookup, no handle and no name below.
pub record IsIdle (node : Node) : Type 0 where
  pub lookups : node.lookups ≡ 0
  pub handles : node.handles ≡ 0
  pub below : node.below ≡ map.empty
