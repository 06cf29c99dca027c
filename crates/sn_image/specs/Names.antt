-- The names of a directory as they are read from its blocks, whatever their bytes.
use Rattle.std.specs.Prelude.{ℕ, zero, suc, ◌/◌, if◌then◌else◌, List, [], ◌∷◌, length, take, drop, Option, slice_index}
use Rattle.std.specs.Option.{option_map_or}
use Rattle.std.specs.List.{flat_map, range_with_len}
use Rattle.byteorder.specs.Endian.{little_number}
use Rattle.sn_limits.specs.declared.kind.Kind.{Kind}
use Rattle.sn_limits.specs.declared.kind.Kind.TheVariants.{File, Directory}
use Rattle.sn_layout.specs.declared.tree.BlockTree.{BlockTree}
use Rattle.sn_layout_node.specs.Directory.{Link, begins_link}
use Rattle.sn_layout_node.specs.declared.content.Content.{Content}
use Rattle.sn_layout_node.specs.declared.content.Content.TheVariants.{Inline, Tree}
use Rattle.sn_layout_node.specs.declared.inode.Inode.{Inode}
use Rattle.sn_ondisk.specs.Trees.{Store, data_block}
use Rattle.sn_image.specs.Inodes.{inode_at}

-- a number, a length and a name
abbrev pub first_name : List ℕ → Link
first_name bytes = record { number = little_number 2 bytes; name = take (slice_index bytes 2) (drop 3 bytes) }

-- at most n names, up to the first number that no node can have
unfoldable pub names_within : ℕ → List ℕ → List Link
names_within zero bytes = []
names_within (suc n) bytes = if begins_link bytes then first_name bytes ∷ names_within n (drop (slice_index bytes 2) (drop 3 bytes)) else []

-- the names in a directory block
unfoldable pub names_in : List ℕ → List Link
names_in block = names_within (length block) block

-- those of a directory, one block after the other
abbrev pub names_of : Store → Content → List Link
names_of s (Inline bytes) = []
names_of s (Tree tree) = flat_map (λ i. names_in (data_block s tree i)) (range_with_len 0 (tree.size / 4096))

-- a file has none
abbrev pub names_by : Store → Kind → Content → List Link
names_by s File content = []
names_by s Directory content = names_of s content

abbrev pub names_under : Store → Option Inode → List Link
names_under s found = option_map_or (λ inode. names_by s inode.kind inode.content) found []

-- the names in the directory of a number
unfoldable pub names_at : Store → BlockTree → ℕ → List Link
names_at s inodes number = names_under s (inode_at s inodes number)
