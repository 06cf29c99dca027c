-- The record of a number, in its block.
use Rattle.std.proofs.Common.{◌≡◌, ℕ, ◌-◌, ◌*◌, ◌/◌, ◌%◌, ◌<◌, Bool, true, false, if◌then◌else◌, List, take, drop, Option, None, Some, IfOk, OnOk, Result, Ok, Err, sym, ap, subst, ◌∙◌, arith}
use Rattle.std.specs.Prelude.{IfErr, nat_le, nat_lt}
use Rattle.std.proofs.lemmas.Bool.{true≢false, and_parts, ltb-true}
use Rattle.std.proofs.lemmas.List.{take-replicate, drop-replicate}
use Rattle.sn_limits.specs.declared.limits.Limits.{Limits}
use Rattle.sn_layout.specs.Bytes.{zeros}
use Rattle.sn_layout.specs.declared.tree.BlockTree.{BlockTree}
use Rattle.sn_layout_node.specs.Inode.{IsInode, IsRecord, record_bytes}
use Rattle.sn_layout_node.specs.declared.inode.Inode.{Inode}
use Rattle.sn_layout_node.specs.declared.inode.InodeRecord.{InodeRecord}
use Rattle.sn_layout_node.specs.declared.inode.InodeRecord.TheVariants.{Unused, Used}
use Rattle.sn_ondisk.specs.Trees.{Store, data_block}
use Rattle.sn_image.specs.Inodes.{is_number, inode_of, record_at, inode_at}
use Rattle.sn_image.specs.Sound.{SpellsRecord, HasRecords}
use Rattle.sn_image.proofs.DecodeLemmas.{inode_read, unused_read}
use Rattle.sn_tree_read.specs.Paths.{block_lies_on}
use Rattle.sn_tree_read.specs.declared.fault.TreeFault.{TreeFault}
use Rattle.sn_tree_read.specs.declared.fault.TreeFault.TheVariants.{Damaged}
use Rattle.sn_inode.specs.Reads.{CanReadRecord}

-- ---- a record

module _ (limits : Limits) (bytes : List ℕ) (r : InodeRecord) (fits : IsRecord limits r) (same : bytes ≡ record_bytes r) where
  pub used_is : (inode : Inode) → r ≡ Used inode → Some inode ≡ inode_of bytes
  used_is inode is =
      let its : IsInode limits inode = subst (λ (x : InodeRecord). IsRecord limits x) is fits in
      sym (ap inode_of (same ∙ ap record_bytes is) ∙ inode_read limits inode its)

  pub unused_is : r ≡ Unused → None ≡ inode_of bytes
  unused_is is = sym (ap inode_of (same ∙ ap record_bytes is) ∙ unused_read)

pub zeros_in : (index : ℕ) → index < 32 → take 128 (drop (128 * index) (zeros 4096)) ≡ zeros 128
unfolding zeros
zeros_in index within =
    ap (take 128) (drop-replicate (128 * index) 4096 0) ∙ take-replicate 128 (4096 - 128 * index) 0 (omega (arith, within))

-- ---- of a number

module _ (s : Store) (inodes : BlockTree) (number : ℕ) where
  pub no_number : is_number inodes number ≡ false → None ≡ inode_at s inodes number
  unfolding inode_at
  no_number not = sym (ap (λ (b : Bool). if b then inode_of (record_at s inodes number) else None) not)

  its_inode : is_number inodes number ≡ true → inode_of (record_at s inodes number) ≡ inode_at s inodes number
  unfolding inode_at
  its_inode is = sym (ap (λ (b : Bool). if b then inode_of (record_at s inodes number) else None) is)

  pub not_needed : (limits : Limits) (sectors : ℕ) → is_number inodes number ≡ false → CanReadRecord limits sectors s inodes number
  not_needed limits sectors not = record { lies = λ is. absurd (true≢false (sym is ∙ not)); spelled = λ is. absurd (true≢false (sym is ∙ not)) }

  module _ (index : ℕ) (at : index ≡ number) where
    its_record : (block : List ℕ) → block ≡ data_block s inodes (index / 32) → take 128 (drop (128 * (index % 32)) block) ≡ record_at s inodes number
    unfolding record_at
    its_record block same =
        ap (λ (n : ℕ). take 128 (drop (128 * (n % 32)) block)) at
        ∙ ap (λ (b : List ℕ). take 128 (drop (128 * (number % 32)) b)) (same ∙ ap (λ (n : ℕ). data_block s inodes (n / 32)) at)

    -- under a hole all records are unused
    hole_record : data_block s inodes (index / 32) ≡ zeros 4096 → record_at s inodes number ≡ zeros 128
    hole_record hole = sym (its_record (zeros 4096) (sym hole)) ∙ zeros_in (index % 32) (omega arith)

    pub hole_inode : data_block s inodes (index / 32) ≡ zeros 4096 → is_number inodes number ≡ true → None ≡ inode_at s inodes number
    hole_inode hole is = sym (ap inode_of (hole_record hole) ∙ unused_read) ∙ its_inode is

    module _ (limits : Limits) (sectors : ℕ) where
      can_read : block_lies_on sectors s inodes (index / 32) ≡ true → SpellsRecord limits (record_at s inodes number) → CanReadRecord limits sectors s inodes number
      can_read lies spelled = record { lies = λ is. ap (λ (n : ℕ). block_lies_on sectors s inodes (n / 32)) (sym at) ∙ lies; spelled = λ is. spelled }

      pub hole_read : block_lies_on sectors s inodes (index / 32) ≡ true → data_block s inodes (index / 32) ≡ zeros 4096 → CanReadRecord limits sectors s inodes number
      hole_read lies hole = can_read lies (Unused, tt, hole_record hole)

      pub off_not_read : is_number inodes number ≡ true → block_lies_on sectors s inodes (index / 32) ≡ false → CanReadRecord limits sectors s inodes number → ⊥
      off_not_read is off can = true≢false (sym (can.lies is) ∙ ap (λ (n : ℕ). block_lies_on sectors s inodes (n / 32)) (sym at) ∙ off)

      -- what a record of the block is decoded to
      module _ (block : List ℕ) (same : block ≡ data_block s inodes (index / 32)) (is : is_number inodes number ≡ true) where
        pub decoded_inode : (result : Result (Option Inode) TreeFault) → IfOk result (λ (inode : Option Inode). inode ≡ inode_of (take 128 (drop (128 * (index % 32)) block)))
            → IfOk result (λ (inode : Option Inode). inode ≡ inode_at s inodes number)
        decoded_inode (Ok inode) decoded = decoded ∙ ap inode_of (its_record block same) ∙ its_inode is
        decoded_inode (Err fault) decoded = tt

        pub decoded_read : (result : Result (Option Inode) TreeFault) → block_lies_on sectors s inodes (index / 32) ≡ true
            → OnOk result (SpellsRecord limits (take 128 (drop (128 * (index % 32)) block))) → OnOk result (CanReadRecord limits sectors s inodes number)
        decoded_read (Ok inode) lies spelled = can_read lies (subst (λ (b : List ℕ). SpellsRecord limits b) (its_record block same) spelled)
        decoded_read (Err fault) lies spelled = tt

        pub decoded_damaged : (in_block : Option ℕ) (result : Result (Option Inode) TreeFault)
            → IfErr result (λ (fault : TreeFault). (fault ≡ Damaged in_block) × (SpellsRecord limits (take 128 (drop (128 * (index % 32)) block)) → ⊥))
            → (at_block : Option ℕ) → result ≡ Err (Damaged at_block) → (CanReadRecord limits sectors s inodes number → ⊥) × (at_block ≡ in_block)
        decoded_damaged in_block (Ok inode) none at_block damaged = absurd cc
        decoded_damaged in_block (Err fault) none at_block damaged =
            (λ can. none.1 (subst (λ (b : List ℕ). SpellsRecord limits b) (sym (its_record block same)) (can.spelled is)), cc (damaged, none.0))

-- ---- of a sound image

pub sound_record : (limits : Limits) (sectors : ℕ) (s : Store) (inodes : BlockTree) → HasRecords limits s inodes
    → ((i : ℕ) → block_lies_on sectors s inodes i ≡ true) → (number : ℕ) → CanReadRecord limits sectors s inodes number
sound_record limits sectors s inodes sound lie number = record {
  lies = λ is. lie (number / 32);
  spelled = λ is. sound.spelled number (ltb-true number (inodes.size / 128) (and_parts (nat_le 2 number) (nat_lt number (inodes.size / 128)) is).1);
}
