-- What a root reaches is what its parts reach.
use Rattle.std.proofs.Common.{◌≡◌, ◌⊎◌, inl, inr, ⊎_elim, ℕ, ◌+◌, ◌==◌, flat_map, Option, Some, None, Contains, sum_by, refl, ◌∙◌, ap}
use Rattle.std.proofs.lemmas.List.Elements.{Contains-append_left, Contains-append_right, Contains-append_cases}
use Rattle.sn_layout.specs.declared.tree.BlockTree.{BlockTree}
use Rattle.sn_layout_node.specs.declared.inode.Inode.{Inode}
use Rattle.sn_ondisk.specs.Counts.{times}
use Rattle.sn_ondisk.specs.Trees.{Store, tree_reach}
use Rattle.sn_image.specs.Inodes.{inode_at}
use Rattle.sn_image.specs.Reach.{inode_reach, reach_at, numbers, reach}
use Rattle.sn_image.proofs.ListLemmas.{none_in, flat_map-has, flat_map-from, count-append, count-flat_map}
use Rattle.sn_image.proofs.PointLemmas.{used_in}

module _ (s : Store) (inodes : BlockTree) (block : ℕ) where
  pub reach_sum : times block (reach s inodes)
      ≡ times block (tree_reach s inodes) + sum_by (λ number. times block (reach_at s inodes number)) (numbers inodes)
  unfolding reach
  reach_sum = count-append (λ b. b == block) (tree_reach s inodes) (flat_map (reach_at s inodes) (numbers inodes))
      ∙ ap (λ n. times block (tree_reach s inodes) + n) (count-flat_map (λ b. b == block) (reach_at s inodes) (numbers inodes))

  -- what reaches a block is in use
  reached_number : (number : ℕ) → Contains (reach_at s inodes number) block → Contains (numbers inodes) number
  unfolding reach_at
  reached_number number among = told (inode_at s inodes number) refl among
    where
      told : (o : Option Inode) → inode_at s inodes number ≡ o → Contains (inode_reach s o) block → Contains (numbers inodes) number
      told None e in_none = none_in block in_none
      told (Some inode) e a = used_in s inodes number inode e

  pub reach_parts : (Contains (tree_reach s inodes) block → Contains (reach s inodes) block) × ((number : ℕ) → Contains (reach_at s inodes number) block → Contains (reach s inodes) block)
  unfolding reach
  reach_parts = (
    λ among. Contains-append_left (tree_reach s inodes) (flat_map (reach_at s inodes) (numbers inodes)) block among,
    λ number among. Contains-append_right (tree_reach s inodes) (flat_map (reach_at s inodes) (numbers inodes)) block (flat_map-has (reach_at s inodes) (numbers inodes) number block (reached_number number among) among),
  )

  pub reach_part : Contains (reach s inodes) block → Contains (tree_reach s inodes) block ⊎ ((number : ℕ) × Contains (reach_at s inodes number) block)
  unfolding reach
  reach_part among = ⊎_elim
      (λ of_file. inl of_file)
      (λ of_inode. let w = flat_map-from (reach_at s inodes) (numbers inodes) block of_inode in inr (w.0, w.2))
      (Contains-append_cases (tree_reach s inodes) (flat_map (reach_at s inodes) (numbers inodes)) block among)
