-- What an overlay in memory holds, as a layer.
use Rattle.std.specs.Prelude.{ℕ, ◌+◌, ◌≤◌, Bool, List, Option, vec_len, vec_capacity}
use Rattle.std.specs.Ordering.{nat_cmp}
use Rattle.std.specs.declared.boxed.Box.{Box}
use Rattle.std.specs.Global.{Global}
use Rattle.std.specs.FinMap.{FinMap, empty, insert, from_entries}
use Rattle.sn_model.specs.declared.link.Link.{Link}
use Rattle.sn_model.specs.Tree.{link_cmp}
use Rattle.sn_overlay.specs.declared.file_block.FileBlock.{FileBlock}
use Rattle.sn_overlay.specs.declared.node.NodeChange.{NodeChange}
use Rattle.sn_overlay.specs.declared.node.NodeChange.TheVariants.{Gone}
use Rattle.sn_overlay.specs.declared.overlay.Overlay.{Overlay}
use Rattle.sn_overlay.specs.Keys.{file_block_cmp}
use Rattle.sn_overlay.specs.Sorted.{bytes_by_file_block}
use Rattle.sn_overlay.specs.Layers.{Layer}

unfoldable pub nodes_of : List (ℕ × NodeChange) → FinMap nat_cmp NodeChange
nodes_of entries = from_entries entries

unfoldable pub names_of : List (Link × Option ℕ) → FinMap link_cmp (Option ℕ)
names_of entries = from_entries entries

unfoldable pub blocks_of : List (FileBlock × Box (List ℕ) Global) → FinMap file_block_cmp (List ℕ)
blocks_of entries = from_entries (bytes_by_file_block entries)

abbrev pub layer_of : Overlay → Layer
layer_of it = record { nodes = nodes_of it.nodes.entries.items; names = names_of it.names.entries.items; blocks = blocks_of it.blocks.entries.items }

abbrev pub no_changes : Layer
no_changes = record { nodes = empty; names = empty; blocks = empty }

-- so many nodes, names and blocks
pub record Counts : Type 0 where
  pub nodes : ℕ
  pub names : ℕ
  pub blocks : ℕ

-- how many more of each fit without memory being taken
pub record HasRoom (it : Overlay) (more : Counts) : Type 0 where
  pub nodes : vec_len it.nodes.entries + more.nodes ≤ vec_capacity it.nodes.entries
  pub names : vec_len it.names.entries + more.names ≤ vec_capacity it.names.entries
  pub blocks : vec_len it.blocks.entries + more.blocks ≤ vec_capacity it.blocks.entries

-- of the room that there was, at most so much is taken
pub record TakesRoom (old new : Overlay) (taken : Counts) : Type 0 where
  pub nodes : vec_capacity old.nodes.entries + vec_len new.nodes.entries ≤ vec_capacity new.nodes.entries + vec_len old.nodes.entries + taken.nodes
  pub names : vec_capacity old.names.entries + vec_len new.names.entries ≤ vec_capacity new.names.entries + vec_len old.names.entries + taken.names
  pub blocks : vec_capacity old.blocks.entries + vec_len new.blocks.entries ≤ vec_capacity new.blocks.entries + vec_len old.blocks.entries + taken.blocks

-- how many it has
abbrev pub sizes_of : Overlay → Counts
sizes_of it = record { nodes = vec_len it.nodes.entries; names = vec_len it.names.entries; blocks = vec_len it.blocks.entries }

-- and so many drops more
abbrev pub and_drops : Counts → ℕ → Counts
and_drops counts drops = record counts { nodes = counts.nodes + drops }

abbrev pub with_node : Layer → ℕ → NodeChange → Layer
with_node layer number change = record layer { nodes = insert layer.nodes number change }

-- a node is gone, and nothing else changed
abbrev pub gone : ℕ → Bool → Layer
gone number by_close = with_node no_changes number (Gone by_close)

abbrev pub with_name : Layer → Link → Option ℕ → Layer
with_name layer link number = record layer { names = insert layer.names link number }

abbrev pub with_block : Layer → FileBlock → List ℕ → Layer
with_block layer file_block bytes = record layer { blocks = insert layer.blocks file_block bytes }
