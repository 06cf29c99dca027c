-- What the maps in memory stand for, and what is kept beside a node.
use Rattle.std.specs.Prelude.{◌≡◌, ℕ, ◌+◌, ◌-◌, ◌==◌, List, Option, Some, None, if◌then◌else◌}
use Rattle.std.specs.Option.{option_map}
use Rattle.std.specs.Ordering.{nat_cmp}
use Rattle.std.specs.FinMap as map
use Rattle.sn_model.specs.Tree.{Node, link_cmp}
use Rattle.sn_maps.specs.Maps.{seen_by}
use Rattle.sn_nodes.specs.Names.{Named, all_links}
use Rattle.sn_nodes.specs.declared.nodes.Counts.{Counts}
use Rattle.sn_nodes.specs.declared.nodes.StoredOwnership.{StoredOwnership}
use Rattle.sn_nodes.specs.declared.nodes.StoredNode.{StoredNode}
use Rattle.sn_nodes.specs.declared.nodes.Nodes.{Nodes}
use Rattle.sn_nodes.specs.declared.links.Links.{Links}

abbrev pub node_of : StoredNode → Node
node_of s = record {
  kind = s.kind;
  owner = s.ownership.owner;
  group = s.ownership.group;
  set_gid = s.ownership.set_gid;
  sticky = s.ownership.sticky;
  acl = s.ownership.acl;
  default_acl = s.ownership.default_acl;
  bytes = s.bytes;
}

-- a node with other counts, and with another owner and other ACLs
abbrev pub with_counts : Counts → StoredNode → StoredNode
with_counts counts s = record s { counts = counts }

abbrev pub with_ownership : StoredOwnership → StoredNode → StoredNode
with_ownership ownership s = record s { ownership = ownership }

abbrev pub owned_by : StoredOwnership → Node → Node
owned_by o node = record node { owner = o.owner; group = o.group; set_gid = o.set_gid; sticky = o.sticky; acl = o.acl; default_acl = o.default_acl }

-- the same with other bytes
abbrev pub bytes_by : (List ℕ → List ℕ) → StoredNode → StoredNode
bytes_by f s = record s { bytes = f s.bytes }

abbrev pub node_bytes_by : (List ℕ → List ℕ) → Node → Node
node_bytes_by f node = record node { bytes = f node.bytes }

-- the nodes as they are stored, and as the model has them
unfoldable pub stored_of : Nodes → map.FinMap nat_cmp StoredNode
stored_of n = seen_by nat_cmp (λ s. s) n.map.entries

unfoldable pub nodes_of : Nodes → map.FinMap nat_cmp Node
nodes_of n = seen_by nat_cmp node_of n.map.entries

-- the names of each directory, and of all
unfoldable pub directories_of : Links → map.FinMap nat_cmp Named
directories_of l = seen_by nat_cmp (λ names. names) l.directories.entries

unfoldable pub links_of : Links → map.FinMap link_cmp ℕ
links_of l = all_links (directories_of l)

-- Each node with other counts of its names, the number of which decides.
abbrev pub recount : (ℕ → ℕ) → (ℕ → ℕ) → StoredNode → StoredNode
recount names links s = record s { counts = record s.counts { names = names s.counts.names; links = links s.counts.links } }

abbrev pub Recounts : (names links : ℕ → ℕ → ℕ) → map.FinMap nat_cmp StoredNode → map.FinMap nat_cmp StoredNode → Type 0
Recounts names links old new = (number : ℕ) → map.get new number ≡ option_map (recount (names number) (links number)) (map.get old number)

-- one more, and one fewer, where two numbers are one
abbrev pub more_at : ℕ → ℕ → ℕ → ℕ
more_at place number n = n + (if place == number then 1 else 0)

abbrev pub fewer_at : ℕ → ℕ → ℕ → ℕ
fewer_at place number n = n - (if place == number then 1 else 0)

-- what is kept of a number; nothing where it has no node
abbrev pub counts_of : Option StoredNode → Counts
counts_of None = record { names = 0; links = 0; parent = 0 }
counts_of (Some s) = s.counts

-- nothing is counted yet
abbrev pub IsFresh : StoredNode → Type 0
IsFresh s = (s.counts.names ≡ 0) × (s.counts.links ≡ 0)

-- a node in another directory
abbrev pub under : ℕ → StoredNode → StoredNode
under directory s = record s { counts = record s.counts { parent = directory } }
