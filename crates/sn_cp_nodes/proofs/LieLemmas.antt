-- Each block that a sound root reaches is on the device.
use Rattle.std.proofs.Common.{◌≡◌, ℕ, ◌+◌, ◌*◌, ◌<◌, ◌≤◌, ◌==◌, true, List, Contains, sym, ◌∙◌, arith}
use Rattle.std.specs.Prelude.{nat_le}
use Rattle.std.proofs.lemmas.Bool.{le-leb, or_right, true≢false}
use Rattle.sn_image.specs.Contents.{content_reach}
use Rattle.sn_image.specs.Inodes.{inode_at}
use Rattle.sn_image.specs.Reach.{reach}
use Rattle.sn_image.specs.Sound.{IsPlaced}
use Rattle.sn_image.proofs.ReachLemmas.{reach_parts}
use Rattle.sn_layout.specs.declared.tree.BlockTree.{BlockTree}
use Rattle.sn_ondisk.specs.Trees.{Store, tree_reach}
use Rattle.sn_ondisk.proofs.CountLemmas.{times_among}
use Rattle.sn_tree.specs.Steps.{LeadsOutside}
use Rattle.sn_tree_read.specs.Paths.{lies_on}
use Rattle.sn_cp_nodes.specs.Parts.{content_of}
use Rattle.sn_cp_nodes.proofs.OldLemmas.{content_within}

module _ (n sectors : ℕ) (s : Store) (file : BlockTree) (placed : IsPlaced n s file) (room : 8 * n ≤ sectors) where
  lies : (block : ℕ) → Contains (reach s file) block → 8 * block + 8 ≤ sectors
  lies block among =
      let below : block < n = (placed.within block among).below in
      omega (arith, below, room)

  none_outside : (blocks : List ℕ) → ((block : ℕ) → Contains blocks block → Contains (reach s file) block) → LeadsOutside sectors blocks → ⊥
  none_outside blocks within outside =
      let fits = lies outside.block (within outside.block (times_among outside.block blocks outside.among)) in
      let on : lies_on sectors outside.block ≡ true = or_right (outside.block == 0) (nat_le (8 * outside.block + 8) sectors) (le-leb (8 * outside.block + 8) sectors fits) in
      true≢false (sym on ∙ outside.outside)

  -- ---- of the inode file

  file_within : (block : ℕ) → Contains (tree_reach s file) block → Contains (reach s file) block
  file_within block among = (reach_parts s file block).0 among

  pub file_lies : (block : ℕ) → Contains (tree_reach s file) block → 8 * block + 8 ≤ sectors
  file_lies block among = lies block (file_within block among)

  pub file_inside : LeadsOutside sectors (tree_reach s file) → ⊥
  file_inside = none_outside (tree_reach s file) file_within

  -- ---- of the content of a number

  module _ (number : ℕ) where
    number_within : (block : ℕ) → Contains (content_reach s (content_of (inode_at s file number))) block → Contains (reach s file) block
    number_within block among = (reach_parts s file block).1 number (content_within s file number block among)

    pub content_lies : (block : ℕ) → Contains (content_reach s (content_of (inode_at s file number))) block → 8 * block + 8 ≤ sectors
    content_lies block among = lies block (number_within block among)

    pub content_inside : LeadsOutside sectors (content_reach s (content_of (inode_at s file number))) → ⊥
    content_inside = none_outside (content_reach s (content_of (inode_at s file number))) number_within
