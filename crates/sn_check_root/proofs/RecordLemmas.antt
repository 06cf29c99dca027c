-- Records of the first block of an inode file.
use Rattle.std.proofs.Common.{◌≡◌, ℕ, ◌+◌, ◌-◌, ◌*◌, ◌/◌, ◌%◌, ◌<◌, List, take, drop, Option, Some, None, IfSome, sym, ap, ◌∙◌, arith}
use Rattle.std.specs.Prelude.{IsSome}
use Rattle.sn_layout.specs.Bytes.{zeros}
use Rattle.sn_layout.specs.declared.tree.BlockTree.{BlockTree}
use Rattle.sn_ondisk.specs.Trees.{Store, data_block}
use Rattle.sn_image.specs.Inodes.{record_at}
use Rattle.std.proofs.lemmas.List.{take-replicate, drop-replicate}

-- a part of a block, as it is cut out
pub part_is : (index : ℕ) (block : List ℕ) → take ((128 * index + 128) - 128 * index) (drop (128 * index) block) ≡ take 128 (drop (128 * index) block)
part_is index block = let size : (128 * index + 128) - 128 * index ≡ 128 = omega arith in ap (λ (n : ℕ). take n (drop (128 * index) block)) size

zeros_in : (index : ℕ) → index < 32 → take 128 (drop (128 * index) (zeros 4096)) ≡ zeros 128
unfolding zeros
zeros_in index within =
    ap (take 128) (drop-replicate (128 * index) 4096 0) ∙ take-replicate 128 (4096 - 128 * index) 0 (omega (arith, within))

-- what is known of the number of a lent block is known of its bytes
pub lent_is : (number : Option ℕ) (store : ℕ → List ℕ) (bytes wanted : List ℕ) → IsSome number
    → IfSome number (λ n. bytes ≡ store n) → IfSome number (λ n. store n ≡ wanted) → bytes ≡ wanted
lent_is None store bytes wanted some lent is = absurd cc
lent_is (Some n) store bytes wanted some lent is = lent ∙ is

module _ (s : Store) (inodes : BlockTree) (number : ℕ) (within : number < 32) where
  pub record_first : (block : List ℕ) → block ≡ data_block s inodes 0 → take 128 (drop (128 * number) block) ≡ record_at s inodes number
  unfolding record_at
  record_first block same =
      let row : 0 ≡ number / 32 = omega (arith, within) in
      let place : number ≡ number % 32 = omega (arith, within) in
      ap (λ (n : ℕ). take 128 (drop (128 * n) block)) place
      ∙ ap (λ (b : List ℕ). take 128 (drop (128 * (number % 32)) b)) (same ∙ ap (data_block s inodes) row)

  pub hole_first : data_block s inodes 0 ≡ zeros 4096 → record_at s inodes number ≡ zeros 128
  hole_first hole = sym (record_first (zeros 4096) (sym hole)) ∙ zeros_in number within
