-- What follows from the answers of a reader.
use Rattle.std.specs.Prelude.{◌≡◌, ℕ, ◌+◌, ◌*◌, ◌≤◌, true, List, length, take, drop, Contains}
use Rattle.sn_layout.specs.Pointers.{levels_of}
use Rattle.sn_layout.specs.declared.tree.BlockTree.{BlockTree}
use Rattle.sn_layout_node.specs.Inode.{size_of}
use Rattle.sn_layout_node.specs.declared.content.Content.{Content}
use Rattle.sn_image.specs.Contents.{bytes_of, content_reach}
use Rattle.sn_ondisk.specs.Trees.{Store, tree_reach}
use Rattle.sn_tree_read.specs.Paths.{path_lies_on, block_lies_on}
use Rattle.sn_tree_read.specs.Reads.{IsPart}

-- Where each block that a content reaches has 4,096 bytes, and the content as many as its size says, a part is cut out of its bytes.
abbrev pub PartsAreCutOut : Type 0
PartsAreCutOut = (s : Store) (content : Content) (offset n : ℕ) (bytes : List ℕ)
    → ((block : ℕ) → Contains (content_reach s content) block → length (s block) ≡ 4096)
    → length (bytes_of s content) ≡ size_of content
    → IsPart s content offset n bytes → bytes ≡ take n (drop offset (bytes_of s content))

-- Where each block that a tree reaches is on the device, so are those on the way to a pointer of one of its levels: `entry` doesn't answer `Damaged`.
abbrev pub ReachedPathsLie : Type 0
ReachedPathsLie = (sectors : ℕ) (s : Store) (tree : BlockTree) → ((block : ℕ) → Contains (tree_reach s tree) block → 8 * block + 8 ≤ sectors)
    → (level i : ℕ) → level ≤ levels_of tree.size → path_lies_on sectors s level tree.pointers i ≡ true

-- And so does each data block with those on the way to it: neither `fetch_data` nor `read` does.
abbrev pub ReachedBlocksLie : Type 0
ReachedBlocksLie = (sectors : ℕ) (s : Store) (tree : BlockTree) → ((block : ℕ) → Contains (tree_reach s tree) block → 8 * block + 8 ≤ sectors)
    → (i : ℕ) → block_lies_on sectors s tree i ≡ true
