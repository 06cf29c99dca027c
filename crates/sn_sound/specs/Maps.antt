-- The roots of a disk, each with its bit in the block map, and what the words of the map have to say of them. Hitz, Lau and Malcolm 1994, block-map file.
use Rattle.std.specs.Prelude.{◌≡◌, ◌↔◌, ℕ, ◌-◌, ◌*◌, ◌^◌, ◌<◌, ◌==◌, Bool, not, List, ◌∷◌, map, count_by, Contains}
use Rattle.std.specs.List.{list_any, range_with_len}
use Rattle.std.specs.Int.{bit_at}
use Rattle.sn_layout.specs.declared.geometry.Area.TheVariants.{Data}
use Rattle.sn_layout.specs.declared.root.RootBody.{RootBody}
use Rattle.sn_layout.specs.declared.snapshot.Snapshot.{Snapshot}
use Rattle.sn_layout.specs.declared.tree.BlockTree.{BlockTree}
use Rattle.sn_layout.specs.Geometry.{start_of, map_blocks}
use Rattle.sn_ondisk.specs.Trees.{Store}
use Rattle.sn_image.specs.Reach.{reach}
use Rattle.sn_image.specs.Sound.{IsSound}

-- an inode file, with the bit that its root has in the map
pub record Rooted : Type 0 where
  pub bit : ℕ
  pub inodes : BlockTree

abbrev pub frozen_root : Snapshot → Rooted
frozen_root snapshot = record { bit = snapshot.bit; inodes = snapshot.tree }

-- the live one, whose bit is 0, and those of the snapshots
abbrev pub rooted_in : RootBody → List Rooted
rooted_in root = record { bit = 0; inodes = root.inode_file } ∷ map frozen_root root.snapshots

-- a root with this bit reaches the block
pub record IsReachedBy (s : Store) (all : List Rooted) (block bit : ℕ) : Type 0 where
  pub inodes : BlockTree
  pub among : Contains all (record { bit = bit; inodes = inodes })
  pub reached : Contains (reach s inodes) block

-- The word is the set of the roots that reach the block: bit k is set exactly if root k does. A bit that no root has is so never set.
pub record IsSetOfRoots (s : Store) (all : List Rooted) (block word : ℕ) : Type 0 where
  pub fits : word < 2 ^ 32
  pub bits : (k : ℕ) → (bit_at word k ≡ 1) ↔ IsReachedBy s all block k

-- The words of a map say what the roots reach: each word of its blocks, those outside the data area and past the last block of the disk too. `word` is that of a block, on a disk of n blocks.
abbrev pub TellsRoots : ℕ → Store → RootBody → (ℕ → ℕ) → Type 0
TellsRoots n s root word = (block : ℕ) → block < 1024 * map_blocks n → IsSetOfRoots s (rooted_in root) block (word block)

-- A root and its snapshots are sound on a disk of n blocks, and the words of the map say what they reach. So it is said of a disk, whose map is what is read there, and of a mounted file system, which keeps the words of its map, over the blocks as they were when the root was made.
pub record IsSoundRoot (n : ℕ) (s : Store) (root : RootBody) (word : ℕ → ℕ) : Type 0 where
  pub roots : (r : Rooted) → Contains (rooted_in root) r → IsSound root.limits n s r.inodes
  pub map : TellsRoots n s root word

-- whether one of these roots reaches the block
abbrev pub is_reached : Store → List Rooted → ℕ → Bool
is_reached s all block = list_any (λ (r : Rooted). list_any (λ b. b == block) (reach s r.inodes)) all

-- the data blocks that no root reaches
abbrev pub free_blocks : ℕ → Store → RootBody → ℕ
free_blocks n s root = count_by (λ block. not (is_reached s (rooted_in root) block)) (range_with_len (start_of n Data) (n - start_of n Data))
