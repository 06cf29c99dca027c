-- What a new inode file reaches: what the old one reached with what was added, but for what was released.
use Rattle.std.proofs.Common.{◌≡◌, ⊎_elim, ℕ, ◌+◌, ◌-◌, ◌*◌, ◌/◌, ◌<◌, ◌≤◌, List, [], ◌∷◌, ◌++◌, sum_by, Option, None, Some, refl, sym, ap, subst, ◌∙◌, arith}
use Rattle.std.specs.Prelude.{Contains}
use Rattle.std.specs.List.{AllByRecursion}
use Rattle.std.proofs.lemmas.Bool.{cases_lt}
use Rattle.std.proofs.lemmas.List.{map-append}
use Rattle.std.proofs.lemmas.List.Sums.{sum_by-cons}
use Rattle.sn_image.specs.Contents.{content_reach}
use Rattle.sn_image.specs.Inodes.{inode_at}
use Rattle.sn_image.specs.Reach.{block_reach, inode_reach, numbers, reach, reach_at}
use Rattle.sn_image.proofs.FootprintLemmas.{inodes_depend}
use Rattle.sn_image.proofs.PointLemmas.{in_numbers, used_in}
use Rattle.sn_image.proofs.ListLemmas.{none_in, range-has}
use Rattle.sn_image.proofs.ReachLemmas.{reach_sum, reach_parts}
use Rattle.sn_inode.specs.Changes.{IsChanged, acl_pointer, acl_times, numbers_in}
use Rattle.sn_inode.specs.declared.changes.InodeChange.{InodeChange}
use Rattle.sn_inode.specs.declared.changes.RecordChange.{RecordChange}
use Rattle.sn_inode.specs.declared.changes.RecordChange.TheVariants.{Unused, Used}
use Rattle.sn_layout.specs.declared.tree.BlockTree.{BlockTree}
use Rattle.sn_layout_node.specs.declared.inode.Inode.{Inode}
use Rattle.sn_ondisk.specs.Counts.{times}
use Rattle.sn_ondisk.specs.TreeLaws.{SameIn}
use Rattle.sn_ondisk.specs.Trees.{Store, tree_reach}
use Rattle.sn_ondisk.proofs.CountLemmas.{times_among, times-append}
use Rattle.sn_tree.specs.Drafts.{numbers_of as blocks_of}
use Rattle.sn_tree.specs.declared.new_block.NewBlock.{NewBlock}
use Rattle.sn_cp_nodes.specs.Inodes.{content_in}
use Rattle.sn_cp_nodes.specs.Parts.{content_of}
use Rattle.sn_cp_build.proofs.BuiltLemmas.{new_contents, old_contents}
use Rattle.sn_cp_build.proofs.ListedLemmas.{not_among, range_once}
use Rattle.sn_cp_build.proofs.SumLemmas.{sum_alike, sum_both, sum_over, sums_differ}

-- ---- the blocks of an inode: its ACL block, and those of its content

inode_times : (t : Store) (block : ℕ) (o : Option Inode) → times block (inode_reach t o) ≡ times block (block_reach (acl_pointer o)) + times block (content_reach t (content_of o))
inode_times t block None = refl
inode_times t block (Some inode) = times-append block (block_reach inode.acl_block) (content_reach t inode.content)

-- what reaches a block is in use
reached_number : (t : Store) (inodes : BlockTree) (block number : ℕ) → Contains (reach_at t inodes number) block → Contains (numbers inodes) number
unfolding reach_at
reached_number t inodes block number among = told (inode_at t inodes number) refl among
  where
    told : (o : Option Inode) → inode_at t inodes number ≡ o → Contains (inode_reach t o) block → Contains (numbers inodes) number
    told None e nowhere = none_in block nowhere
    told (Some inode) e there = used_in t inodes number inode e

-- the content that a change gives
made_content : (r : Store) (was : Option Inode) (change : RecordChange) (new : Option Inode) → IsChanged r was change new → content_of new ≡ content_in change
made_content r was Unused new is = ap content_of is
made_content r was (Used inode acls) new (pointer, is, has) = ap content_of is

-- sums over numbers of changes
sum_numbers : (f : ℕ → ℕ) (changes : List InodeChange) → sum_by f (numbers_in changes) ≡ sum_by (λ (c : InodeChange). f c.number) changes
sum_numbers f [] = refl
sum_numbers f (c ∷ cs) = omega (arith, sum_by-cons f c.number (numbers_in cs), sum_by-cons (λ (x : InodeChange). f x.number) c cs, sum_numbers f cs)

sum_given : (P : InodeChange → Type 0) (f g : InodeChange → ℕ) → ((c : InodeChange) → P c → f c ≡ g c) → (changes : List InodeChange) → AllByRecursion P changes → sum_by f changes ≡ sum_by g changes
sum_given P f g each [] all = refl
sum_given P f g each (c ∷ cs) all = omega (arith, sum_by-cons f c cs, sum_by-cons g c cs, each c all.0, sum_given P f g each cs all.1)

module _ (s r : Store) (file new : BlockTree) (changes : List InodeChange) (block : ℕ) where
  abbrev reached_new : ℕ → ℕ
  reached_new number = times block (reach_at r new number)

  abbrev reached_old : ℕ → ℕ
  reached_old number = times block (reach_at s file number)

  unused_out : (t : Store) (inodes : BlockTree) (number : ℕ) → times number (numbers inodes) ≡ 0 → times block (reach_at t inodes number) ≡ 0
  unused_out t inodes number out = ⊎_elim
      (λ (some : 0 < times block (reach_at t inodes number)). absurd (not_among number (numbers inodes) out (reached_number t inodes block number (times_among block (reach_at t inodes number) some))))
      (λ (nothing : times block (reach_at t inodes number) ≤ 0). omega (arith, nothing))
      (cases_lt 0 (times block (reach_at t inodes number)))

  pub numbers_once : (inodes : BlockTree) (number : ℕ) → times number (numbers inodes) ≤ 1
  unfolding numbers
  numbers_once inodes number = range_once 2 (inodes.size / 128 - 2) number

  module _ (larger : file.size ≤ new.size) where
    wider : (number : ℕ) → Contains (numbers file) number → Contains (numbers new) number
    unfolding numbers
    wider number among =
        let w = in_numbers file number among in
        range-has 2 (new.size / 128 - 2) number w.0 (omega (arith, w.0, w.1, larger))

    old_out : (number : ℕ) → times number (numbers new) ≡ 0 → reached_old number ≡ 0
    old_out number out = unused_out s file number (⊎_elim
        (λ (some : 0 < times number (numbers file)). absurd (not_among number (numbers new) out (wider number (times_among number (numbers file) some))))
        (λ (nothing : times number (numbers file) ≤ 0). omega (arith, nothing))
        (cases_lt 0 (times number (numbers file))))

    as_one : (number : ℕ) → reached_old number * times number (numbers file) ≡ reached_old number
    as_one number = ⊎_elim
        (λ (some : 0 < times number (numbers file)).
        let one : times number (numbers file) ≡ 1 = omega (arith, some, numbers_once file number) in
        omega (arith, ap (λ (t : ℕ). reached_old number * t) one))
        (λ (nothing : times number (numbers file) ≤ 0).
        let none : times number (numbers file) ≡ 0 = omega (arith, nothing) in
        omega (arith, ap (λ (t : ℕ). reached_old number * t) none, unused_out s file number none))
        (cases_lt 0 (times number (numbers file)))

    -- the old file's numbers, among those of the new one
    old_sum : sum_by reached_old (numbers file) ≡ sum_by reached_old (numbers new)
    old_sum = omega (
      arith,
      sum_over (numbers new) (numbers_once new) reached_old old_out (numbers file),
      sum_alike (λ (number : ℕ). reached_old number * times number (numbers file)) reached_old (numbers new) as_one,
    )

    module _ (same : SameIn (reach s file) s r) (others : (number : ℕ) → ¬ Contains (numbers_in changes) number → inode_at r new number ≡ inode_at s file number)
        (changed : AllByRecursion (λ (c : InodeChange). IsChanged r (inode_at s file c.number) c.record (inode_at r new c.number)) changes)
        (once : (number : ℕ) → times number (numbers_in changes) ≤ 1) where
      reads_alike : (number : ℕ) (o : Option Inode) → inode_at s file number ≡ o → inode_reach r o ≡ inode_reach s o
      unfolding reach_at
      reads_alike number None e = refl
      reads_alike number (Some inode) e =
          (inodes_depend s r inode (λ b among. same b ((reach_parts s file b).1 number (subst (λ (o : Option Inode). Contains (inode_reach s o) b) (sym e) among)))).reach

      alike : (number : ℕ) → times number (numbers_in changes) ≡ 0 → reached_new number ≡ reached_old number
      unfolding reach_at
      alike number out =
          ap (λ (o : Option Inode). times block (inode_reach r o)) (others number (not_among number (numbers_in changes) out))
          ∙ ap (times block) (reads_alike number (inode_at s file number) refl)

      differ : sum_by reached_new (numbers new) + sum_by reached_old (numbers_in changes) ≡ sum_by reached_old (numbers new) + sum_by reached_new (numbers_in changes)
      differ = sums_differ (numbers new) (numbers_once new) reached_new reached_old (unused_out r new) old_out (numbers_in changes) once alike

      new_parts : sum_by reached_new (numbers_in changes) ≡ acl_times r new block changes + new_contents r block changes
      unfolding reach_at
      new_parts = omega (
        arith,
        sum_numbers reached_new changes,
        sum_given (λ (c : InodeChange). IsChanged r (inode_at s file c.number) c.record (inode_at r new c.number)) (λ (c : InodeChange). reached_new c.number)
            (λ (c : InodeChange). times block (block_reach (acl_pointer (inode_at r new c.number))) + times block (content_reach r (content_in c.record)))
            (λ c is. inode_times r block (inode_at r new c.number) ∙ ap (λ content. times block (block_reach (acl_pointer (inode_at r new c.number))) + times block (content_reach r content)) (made_content r (inode_at s file c.number) c.record (inode_at r new c.number) is))
            changes changed,
        sum_both (λ (c : InodeChange). times block (block_reach (acl_pointer (inode_at r new c.number)))) (λ (c : InodeChange). times block (content_reach r (content_in c.record))) changes,
      )

      old_parts : sum_by reached_old (numbers_in changes) ≡ acl_times s file block changes + old_contents s file block changes
      unfolding reach_at
      old_parts = omega (
        arith,
        sum_numbers reached_old changes,
        sum_alike (λ (c : InodeChange). reached_old c.number) (λ (c : InodeChange). times block (block_reach (acl_pointer (inode_at s file c.number))) + times block (content_reach s (content_of (inode_at s file c.number)))) changes
            (λ c. inode_times s block (inode_at s file c.number)),
        sum_both (λ (c : InodeChange). times block (block_reach (acl_pointer (inode_at s file c.number)))) (λ (c : InodeChange). times block (content_reach s (content_of (inode_at s file c.number)))) changes,
      )

      -- What it reaches with what was released is what the old one reached with what was added.
      pub adds_up : (first second : List NewBlock) (gone left : List ℕ)
          → new_contents r block changes + times block gone ≡ old_contents s file block changes + times block (blocks_of first)
          → times block (tree_reach r new) + acl_times r new block changes + times block left ≡ times block (tree_reach s file) + acl_times s file block changes + times block (blocks_of second)
          → times block (reach r new) + times block (gone ++ left) ≡ times block (reach s file) + times block (blocks_of (first ++ second))
      adds_up first second gone left contents tree = omega (
        arith,
        contents,
        tree,
        differ,
        new_parts,
        old_parts,
        old_sum,
        reach_sum r new block,
        reach_sum s file block,
        times-append block gone left,
        ap (times block) (map-append (λ (b : NewBlock). b.number) first second),
        times-append block (blocks_of first) (blocks_of second),
      )
