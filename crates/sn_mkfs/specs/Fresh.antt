-- A disk as it is formatted: its root, its one directory, and where each of its bytes is.
use Rattle.std.specs.Prelude.{◌≡◌, ℕ, ◌-◌, false, List, [], ◌∷◌, ◌++◌, replicate}
use Rattle.sn_limits.specs.Versions.{limits_written}
use Rattle.sn_limits.specs.declared.kind.Kind.TheVariants.{Directory}
use Rattle.sn_device.specs.Sectors.{Contents}
use Rattle.sn_layout.specs.Bytes.{zeros}
use Rattle.sn_layout.specs.Geometry.{start_of, gate_sector}
use Rattle.sn_layout.specs.Superblock.{superblock_bytes}
use Rattle.sn_layout.specs.declared.geometry.Area.TheVariants.{Data}
use Rattle.sn_layout.specs.declared.geometry.Slot.TheVariants.{A, B}
use Rattle.sn_layout.specs.declared.root.RootBody.{RootBody}
use Rattle.sn_layout.specs.declared.tree.BlockTree.{BlockTree}
use Rattle.sn_layout_node.specs.Inode.{inode_bytes}
use Rattle.sn_layout_node.specs.declared.content.Content.TheVariants.{Tree}
use Rattle.sn_layout_node.specs.declared.inode.Inode.{Inode}
use Rattle.sn_ondisk.specs.Blocks.{block_at}
use Rattle.sn_ondisk.specs.Gates.{IsOpen, IsClosed}
use Rattle.sn_ondisk.specs.LogHalf.{base_of}
use Rattle.sn_ondisk.specs.MapCopy.{HasMap}
use Rattle.sn_ondisk.specs.Roots.{HasRoot}

-- the inode file: one block, the first of the data area
abbrev pub inode_file : ℕ → BlockTree
inode_file n = record { size = 4096; pointers = start_of n Data ∷ replicate 15 0 }

-- the first root of a disk of n blocks, without snapshots
abbrev pub fresh_root : ℕ → RootBody
fresh_root n = record { limits = limits_written; generation = 1; epoch = 1; inode_file = inode_file n; snapshots = [] }

-- the root directory, of user 0 and group 0 and of mode 0755: it has no names, and so no blocks
abbrev pub root_directory : Inode
root_directory = record {
  kind = Directory;
  set_gid = false;
  sticky = false;
  objects = record { owner = 7; group = 5; other = 5 };
  links = 1;
  owner = 0;
  group = 0;
  acl_block = 0;
  content = Tree (record { size = 0; pointers = replicate 16 0 });
}

-- the block of the inode file: the record of number 2 alone is used
unfoldable pub inode_block : List ℕ
inode_block = zeros 256 ++ inode_bytes root_directory ++ zeros 3712

-- the words of the block map: the live root reaches the first data block, and no other is reached
unfoldable pub fresh_words : ℕ → List ℕ
fresh_words n = replicate (start_of n Data) 0 ++ 1 ∷ replicate (n - start_of n Data - 1) 0

-- What is on the disk outside slot A: the superblock, the inode file, the block map, and no
-- record in either half of the log. Slot B is closed.
pub record IsPrepared (n : ℕ) (c : Contents) : Type 0 where
  pub superblock : block_at c 0 ≡ superblock_bytes (record { geometry = n })
  pub other : IsClosed c (gate_sector B)
  pub inodes : block_at c (start_of n Data) ≡ inode_block
  pub map : HasMap n c A (fresh_words n)
  pub log : (epoch : ℕ) → IsClosed c (base_of n epoch)

-- So it is synced before the root is written, while slot A is closed too.
pub record IsLaidOut (n : ℕ) (c : Contents) : Type 0 where
  pub prepared : IsPrepared n c
  pub closed : IsClosed c (gate_sector A)

-- And then slot A has the first root.
pub record IsFresh (n : ℕ) (c : Contents) : Type 0 where
  pub prepared : IsPrepared n c
  pub is_open : IsOpen c (gate_sector A)
  pub root : HasRoot c A (fresh_root n)
