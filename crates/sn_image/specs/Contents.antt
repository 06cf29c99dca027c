-- What a file or a directory is made of, as bytes and as blocks.
use Rattle.std.specs.Prelude.{ℕ, ◌/◌, ◌%◌, List, [], slice_index}
use Rattle.sn_layout_node.specs.declared.content.Content.{Content}
use Rattle.sn_layout_node.specs.declared.content.Content.TheVariants.{Inline, Tree}
use Rattle.sn_ondisk.specs.Trees.{Store, data_block, tree_bytes, tree_reach}

-- the bytes: those that the inode holds itself, or those of the tree
abbrev pub bytes_of : Store → Content → List ℕ
bytes_of s (Inline bytes) = bytes
bytes_of s (Tree tree) = tree_bytes s tree

-- one byte, which is looked for in its own block
abbrev pub byte_of : Store → Content → ℕ → ℕ
byte_of s (Inline bytes) k = slice_index bytes k
byte_of s (Tree tree) k = slice_index (data_block s tree (k / 4096)) (k % 4096)

-- the blocks that it reaches, with repeats: none for bytes in the inode
abbrev pub content_reach : Store → Content → List ℕ
content_reach s (Inline bytes) = []
content_reach s (Tree tree) = tree_reach s tree
