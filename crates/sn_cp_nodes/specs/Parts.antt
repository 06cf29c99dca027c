-- What a layer has of one node, and what the inode file has of it.
use Rattle.std.specs.Prelude.{◌≡◌, ℕ, if◌then◌else◌, List, [], map, replicate, Option, None, Some}
use Rattle.std.specs.Int.{div_ceil}
use Rattle.std.specs.FinMap as fin
use Rattle.std.specs.Global.{Global}
use Rattle.std.specs.declared.boxed.Box.{Box}
use Rattle.sn_layout.specs.declared.tree.BlockTree.{BlockTree}
use Rattle.sn_layout_node.specs.declared.content.Content.{Content}
use Rattle.sn_layout_node.specs.declared.content.Content.TheVariants.{Inline}
use Rattle.sn_layout_node.specs.declared.inode.Inode.{Inode}
use Rattle.sn_model.specs.declared.link.Link.{Link}
use Rattle.sn_overlay.specs.Layers.{Layer}
use Rattle.sn_overlay.specs.Lists.{changed_names, written_blocks}
use Rattle.sn_overlay.specs.Sorted.{bytes_by_file_block}
use Rattle.sn_overlay.specs.declared.file_block.FileBlock.{FileBlock}
use Rattle.sn_overlay.specs.declared.node.NodeChange.{NodeChange}
use Rattle.sn_overlay.specs.declared.node.NodeState.{NodeState}
use Rattle.sn_tree.specs.declared.new_block.DirtyBlock.{DirtyBlock}

-- a file's blocks as an overlay hands them out
abbrev pub Blocks : Type 0
Blocks = List (FileBlock × Box (List ℕ) Global)

-- and a directory's names
abbrev pub Names : Type 0
Names = List (Link × Option ℕ)

-- These are what a layer has of a number.
pub record IsPartOf (layer : Layer) (number : ℕ) (change : NodeChange) (names : Names) (written : Blocks) : Type 0 where
  pub node : fin.get layer.nodes number ≡ Some change
  pub its_names : names ≡ changed_names layer number
  pub its_blocks : bytes_by_file_block written ≡ written_blocks layer number

-- the data blocks that stay where they weren't written: of what was made anew none, and else those that begin before the least size
abbrev pub keep_of : NodeState → ℕ
keep_of state = if state.fresh then 0 else div_ceil state.cut 4096

-- the blocks that were written, by their index in the file
abbrev pub dirty_of : Blocks → List DirtyBlock
dirty_of written = map (λ e. record { index = e.0.index; bytes = e.1 }) written

-- a tree without blocks
abbrev pub empty_tree : BlockTree
empty_tree = record { size = 0; pointers = replicate 16 0 }

-- the content of an inode, and that of a number that no node has: no bytes
abbrev pub content_of : Option Inode → Content
content_of None = Inline []
content_of (Some inode) = inode.content
