-- What is kept beside the nodes, against the tree.
use Rattle.std.specs.Prelude.{◌≡◌, ℕ, ◌<◌, ◌≤◌, Option, Some, None, true, is_some}
use Rattle.std.specs.Ordering.{nat_cmp}
use Rattle.std.specs.FinMap as map
use Rattle.sn_limits.specs.declared.kind.Kind.TheVariants as kind
use Rattle.sn_model.specs.declared.link.Link.{Link}
use Rattle.sn_limits.specs.declared.limits.Limits.{Limits}
use Rattle.sn_model.specs.Changes.{put_link, replaced, take_link}
use Rattle.sn_model.specs.NameTree.{IsTree}
use Rattle.sn_model.specs.Tree.{Node, Tree, names_in, names_for}
use Rattle.sn_nodes.specs.declared.nodes.StoredNode.{StoredNode}
use Rattle.sn_nodes.specs.declared.nodes.Nodes.{Nodes}
use Rattle.sn_nodes.specs.declared.links.Links.{Links}
use Rattle.sn_nodes.specs.Stored.{stored_of, nodes_of, links_of}

abbrev pub tree_with : Nodes → Links → Tree
tree_with nodes links = record { nodes = nodes_of nodes; links = links_of links }

-- What is kept beside the nodes agrees with the names; no number below the first one is unused.
pub record IsCounted (stored : map.FinMap nat_cmp StoredNode) (tree : Tree) (first : ℕ) : Type 0 where
  pub names : (number : ℕ) (s : StoredNode) → map.get stored number ≡ Some s → s.counts.names ≡ names_in tree number
  pub links : (number : ℕ) (s : StoredNode) → map.get stored number ≡ Some s → s.counts.links ≡ names_for tree number
  pub parents : (link : Link) (number : ℕ) (s : StoredNode) → map.get tree.links link ≡ Some number → map.get stored number ≡ Some s → s.kind ≡ kind.Directory → s.counts.parent ≡ link.directory
  pub files : (number : ℕ) (s : StoredNode) → map.get stored number ≡ Some s → s.kind ≡ kind.File → names_in tree number ≡ 0
  pub no_names : (number : ℕ) → map.get stored number ≡ None → names_in tree number ≡ 0
  pub no_links : (number : ℕ) → map.get stored number ≡ None → names_for tree number ≡ 0
  pub used : (number : ℕ) → 2 ≤ number → number < first → is_some (map.get stored number) ≡ true
  pub low : 2 ≤ first

abbrev pub IsCountedIn : Nodes → Links → ℕ → Type 0
IsCountedIn nodes links first = IsCounted (stored_of nodes) (tree_with nodes links) first

-- The nodes without what has a name that another number gets: they, and what is kept beside them, are those of the tree that the model has then.
abbrev pub Clears : ℕ → Option ℕ → Nodes → ℕ → Nodes → ℕ → Type 0
Clears directory target old first new first' = (l : Limits) (tree cleared : Tree) (link : Link) (node : Node) → IsTree l tree → tree.nodes ≡ nodes_of old → IsCounted (stored_of old) tree first
    → link.directory ≡ directory → map.get tree.links link ≡ target → replaced tree link node target ≡ Some cleared → (cleared.nodes ≡ nodes_of new) × IsCounted (stored_of new) cleared first'

-- what is kept of a number is fit for a new name: a file, or a directory that lost its name
abbrev pub IsMovable : Tree → ℕ → map.FinMap nat_cmp StoredNode → Type 0
IsMovable tree number stored = (s : StoredNode) × (map.get stored number ≡ Some s) × (s.kind ≡ kind.Directory → names_for tree number ≡ 0)

abbrev pub HasDirectory : ℕ → map.FinMap nat_cmp StoredNode → Type 0
HasDirectory number stored = (s : StoredNode) × (map.get stored number ≡ Some s) × (s.kind ≡ kind.Directory)

-- What is kept beside the nodes agrees with the names after one was moved.
abbrev pub Moves : ℕ → ℕ → ℕ → map.FinMap nat_cmp StoredNode → map.FinMap nat_cmp StoredNode → Type 0
Moves from to number old new = (tree : Tree) (first : ℕ) (a b : Link) → IsCounted old tree first → a.directory ≡ from → b.directory ≡ to → map.get tree.links a ≡ Some number → map.get (take_link tree a).links b ≡ None
    → HasDirectory to old → IsMovable (take_link tree a) number old → IsCounted new (put_link (take_link tree a) b number) first
