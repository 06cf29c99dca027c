-- The finite maps of the stored ones.
use Rattle.std.specs.Prelude.{ℕ, List, [], ◌∷◌, Option, None, Some}
use Rattle.std.specs.Ordering.{nat_cmp}
use Rattle.std.specs.FinMap as map
use Rattle.sn_maps.specs.Maps.{seen_by}
use Rattle.std.specs.Global.{Box}
use Rattle.sn_node_table.specs.Nodes.{Below, Node}
use Rattle.sn_node_table.specs.declared.below.NamesBelow.{NamesBelow}
use Rattle.sn_node_table.specs.declared.current.Current.{Current}
use Rattle.sn_node_table.specs.declared.links.Link.{Link}
use Rattle.sn_node_table.specs.declared.links.Links.{Links}
use Rattle.sn_node_table.specs.declared.links.Links.TheVariants.{Empty, Many, One}
use Rattle.sn_node_table.specs.declared.node.StoredNode.{StoredNode}
use Rattle.sn_node_table.specs.declared.nodes.Nodes.{Nodes}

abbrev pub links_in : Links → List Link
links_in Empty = []
links_in (One link) = link ∷ []
links_in (Many links) = links.items

abbrev pub names_in : Option (Box Below) → Below
names_in None = map.empty
names_in (Some names) = names.value

abbrev pub names_below : NamesBelow → Below
names_below b = names_in b.names

abbrev pub node_of : StoredNode → Node
node_of s = record { inode = s.inode; links = links_in s.links; below = names_below s.below; lookups = s.lookups; handles = s.handles }

abbrev pub boxed_node_of : Box StoredNode → Node
boxed_node_of b = node_of b.value

unfoldable pub nodes_of : Nodes → map.FinMap nat_cmp Node
nodes_of n = seen_by nat_cmp boxed_node_of n.map.entries

unfoldable pub current_of : Current → map.FinMap nat_cmp ℕ
current_of c = seen_by nat_cmp (λ id. id) c.map.entries
