-- What was planned of a whole tree.
use Rattle.std.proofs.Common.{◌≡◌, ◌≢◌, ◌⊎◌, inl, inr, ⊎_elim, ℕ, ◌+◌, ◌<◌, ◌≤◌, ◌==◌, Bool, true, false, if◌then◌else◌, List, [], ◌∷◌, ◌++◌, length, Option, None, Some, refl, sym, ap, ◌∙◌, arith}
use Rattle.std.specs.Prelude.{All, Contains, slice_index}
use Rattle.std.specs.Int.{bit_at}
use Rattle.std.specs.List.Sorted.{IsStrictlyIncreasing}
use Rattle.std.proofs.lemmas.Nat.Bits.{bit_at-zero}
use Rattle.std.proofs.lemmas.Bool.{cases_lt, cases_eq}
use Rattle.std.proofs.lemmas.List.Elements.{All-contains}
use Rattle.sn_alloc.specs.Taking.{IsFreeData}
use Rattle.sn_image.specs.Contents.{content_reach}
use Rattle.sn_image.specs.Image.{image}
use Rattle.sn_image.specs.Inodes.{inode_at}
use Rattle.sn_image.specs.Reach.{block_reach, inode_reach, reach, reach_at}
use Rattle.sn_image.specs.Sound.{IsPlaced, IsSound}
use Rattle.sn_image.proofs.ListLemmas.{none_in}
use Rattle.sn_image.proofs.ReachLemmas.{reach_part}
use Rattle.sn_layout.specs.Geometry.{start_of}
use Rattle.sn_layout.specs.declared.geometry.Area.TheVariants.{Data}
use Rattle.sn_layout.specs.declared.tree.BlockTree.{BlockTree}
use Rattle.sn_layout_node.specs.declared.content.Content.{Content}
use Rattle.sn_layout_node.specs.declared.content.Content.TheVariants.{Inline, Tree}
use Rattle.sn_layout_node.specs.declared.inode.Inode.{Inode}
use Rattle.sn_limits.specs.declared.limits.Limits.{Limits}
use Rattle.sn_ondisk.specs.Counts.{times}
use Rattle.sn_ondisk.specs.TreeLaws.{SameIn}
use Rattle.sn_ondisk.specs.Trees.{Store, tree_reach}
use Rattle.sn_ondisk.proofs.CountLemmas.{among_times, times_among}
use Rattle.sn_ondisk.proofs.TreeLemmas.{reach_has_none}
use Rattle.std.proofs.lemmas.List.Elements.{Contains-append_cases}
use Rattle.sn_device.proofs.SectorLemmas.{Contains-cases}
use Rattle.sn_overlay.specs.Layers.{Layer, through}
use Rattle.sn_tree.specs.Drafts.{Draft, numbers_of as blocks_of, grown}
use Rattle.sn_tree.specs.Plans.{Holds}
use Rattle.sn_tree.specs.declared.new_block.NewBlock.{NewBlock}
use Rattle.sn_tree.proofs.StepLemmas.{grown-grown}
use Rattle.sn_cp_nodes.specs.Built.{IsGround}
use Rattle.sn_cp_nodes.proofs.PutLemmas.{holds_parts}
use Rattle.sn_cp_nodes.proofs.RiseLemmas.{rising_once}
use Rattle.sn_cp_build.specs.Bits.{MakesUp, TellsBit}
use Rattle.sn_cp_build.specs.Building.{IsTreePlanned}
use Rattle.sn_cp_build.specs.Planned.{numbers_of}
use Rattle.sn_cp_build.proofs.BuiltLemmas.{HasGrown, has_grown}
use Rattle.sn_cp_build.proofs.PlaceLemmas.{adds_up}
use Rattle.sn_cp_build.proofs.RiseLemmas.{changes_rise, layer_rises}
use Rattle.sn_cp_build.proofs.SeenLemmas.{denotes, same_file, sound_new}

-- ---- block 0 is reached by nothing

none_behind : (pointer : ℕ) → Contains (block_reach pointer) 0 → ⊥
none_behind pointer among = told (pointer == 0) refl among
  where
    told : (b : Bool) → (pointer == 0) ≡ b → Contains (if b then [] else pointer ∷ []) 0 → ⊥
    told true e nowhere = none_in 0 nowhere
    told false e here = ⊎_elim
        (λ (same : 0 ≡ pointer). let zero : (pointer == 0) ≡ true = ap (λ (p : ℕ). p == 0) (sym same) in absurd (let never : true ≡ false = sym zero ∙ e in cc))
        (λ (nowhere : Contains [] 0). none_in 0 nowhere)
        (Contains-cases pointer [] 0 here)

none_of_content : (t : Store) (content : Content) → Contains (content_reach t content) 0 → ⊥
none_of_content t (Inline bytes) among = none_in 0 among
none_of_content t (Tree tree) among = reach_has_none t tree 0 among refl

none_of_inode : (t : Store) (o : Option Inode) → Contains (inode_reach t o) 0 → ⊥
none_of_inode t None among = none_in 0 among
none_of_inode t (Some inode) among = ⊎_elim
    (λ (of_acls : Contains (block_reach inode.acl_block) 0). none_behind inode.acl_block of_acls)
    (λ (of_content : Contains (content_reach t inode.content) 0). none_of_content t inode.content of_content)
    (Contains-append_cases (block_reach inode.acl_block) (content_reach t inode.content) 0 among)

no_zero : (t : Store) (inodes : BlockTree) → times 0 (reach t inodes) ≡ 0
unfolding reach_at
no_zero t inodes = ⊎_elim
    (λ (some : 0 < times 0 (reach t inodes)). absurd (⊎_elim
    (λ (of_file : Contains (tree_reach t inodes) 0). reach_has_none t inodes 0 of_file refl)
    (λ (of_inode : (number : ℕ) × Contains (reach_at t inodes number) 0). none_of_inode t (inode_at t inodes of_inode.0) of_inode.1)
    (reach_part t inodes 0 (times_among 0 (reach t inodes) some))))
    (λ (nothing : times 0 (reach t inodes) ≤ 0). omega (arith, nothing))
    (cases_lt 0 (times 0 (reach t inodes)))

-- ---- what a map says

-- none of the blocks with this bit can be taken
pub told_kept : (k : ℕ) (words reached : List ℕ) (first block : ℕ) → TellsBit k words reached → Contains reached block → IsFreeData words first block → ⊥
told_kept k words reached first block tells among free =
    let one : bit_at (slice_index words block) k ≡ 1 = (tells block).1 among in
    let none : bit_at (slice_index words block) k ≡ 0 = ap (λ (word : ℕ). bit_at word k) free.free ∙ bit_at-zero k in
    let never : 0 ≡ 1 = sym none ∙ one in
    omega (arith, never)

-- ---- what was planned

module _ (Told : Type 0) (limits : Limits) (s : Store) (file : BlockTree) (layer : Layer) (new : BlockTree) (old after : Draft) (plan : IsTreePlanned Told limits s file layer new old after) where
  abbrev pub first : HasGrown limits s file layer Told old (numbers_of layer) plan.changes plan.between
  first = has_grown limits s file layer Told old (numbers_of layer) plan.changes plan.between plan.nodes

  abbrev pub added : List NewBlock
  added = first.added ++ plan.inodes.added

  abbrev pub released : List ℕ
  released = first.released ++ plan.inodes.released

  pub grew : after ≡ grown old added released
  grew = plan.inodes.grew ∙ ap (λ (d : Draft). grown d plan.inodes.added plan.inodes.released) first.grew ∙ grown-grown old first.added plan.inodes.added first.released plan.inodes.released

  module _ (k n : ℕ) (words : List ℕ) (told : Told) (ground : IsGround limits n s file layer) (tells : TellsBit k words (reach s file))
      (free : All (IsFreeData words (start_of n Data)) (blocks_of added)) (rise : IsStrictlyIncreasing (blocks_of added)) (long : length words ≡ n) where
    -- what was added was reached by nothing
    pub apart : (block : ℕ) → 0 < times block (blocks_of added) → times block (reach s file) ≡ 0
    apart block some =
        let is = All-contains (IsFreeData words (start_of n Data)) (blocks_of added) block free (times_among block (blocks_of added) some) in
        ⊎_elim
        (λ (reached : 0 < times block (reach s file)). absurd (told_kept k words (reach s file) (start_of n Data) block tells (times_among block (reach s file) reached) is))
        (λ (nothing : times block (reach s file) ≤ 0). omega (arith, nothing))
        (cases_lt 0 (times block (reach s file)))

    once : (block : ℕ) → times block (reach s file) + times block (blocks_of added) ≤ 1
    once block = ⊎_elim
        (λ (some : 0 < times block (blocks_of added)). omega (arith, apart block some, rising_once (blocks_of added) rise block))
        (λ (nothing : times block (blocks_of added) ≤ 0). omega (arith, nothing, ground.sound.placed.once block))
        (cases_lt 0 (times block (blocks_of added)))

    none_added : times 0 (blocks_of added) ≡ 0
    none_added = ⊎_elim
        (λ (some : 0 < times 0 (blocks_of added)).
        let is = All-contains (IsFreeData words (start_of n Data)) (blocks_of added) 0 free (times_among 0 (blocks_of added) some) in
        absurd (omega (arith, is.in_data_area)))
        (λ (nothing : times 0 (blocks_of added) ≤ 0). omega (arith, nothing))
        (cases_lt 0 (times 0 (blocks_of added)))

    module _ (r : Store) (same : SameIn (reach s file) s r) (holds : Holds r added) where
      parts : Holds r first.added × Holds r plan.inodes.added
      parts = holds_parts r first.added plan.inodes.added holds

      adds : (block : ℕ) → block ≢ 0 → times block (reach r new) + times block released ≡ times block (reach s file) + times block (blocks_of added)
      adds block some =
          let changed = plan.inodes.changes_inodes told in
          let there = same_file limits n s r file layer ground same in
          adds_up s r file new plan.changes block plan.larger same (λ number apart. changed.others r there parts.1 number apart) (changed.changed r there parts.1)
          (rising_once _ (changes_rise Told limits s file layer old (numbers_of layer) plan.changes plan.between plan.nodes (layer_rises layer)))
          first.added plan.inodes.added first.released plan.inodes.released
          (first.reaches told r same parts.0 block some)
          (changed.reach r there parts.1 block some)

      pub makes_up : MakesUp (reach s file) (reach r new) (blocks_of added) released
      makes_up = record {
        sum = adds;
        once = once;
        no_zero = omega (arith, no_zero r new, no_zero s file, none_added);
      }

      -- it reaches what the old one reached, or what was added
      counted : (block : ℕ) → Contains (reach r new) block → 0 < times block (reach s file) + times block (blocks_of added)
      counted block among =
          let some = among_times block (reach r new) among in
          let is_block : block ≢ 0 = λ zero. omega (arith, some, ap (λ (b : ℕ). times b (reach r new)) zero, no_zero r new) in
          omega (arith, adds block is_block, some)

      pub within : (block : ℕ) → Contains (reach r new) block → Contains (reach s file) block ⊎ Contains (blocks_of added) block
      within block among = ⊎_elim
          (λ (before : 0 < times block (reach s file)). inl (times_among block (reach s file) before))
          (λ (not : times block (reach s file) ≤ 0). inr (times_among block (blocks_of added) (omega (arith, counted block among, not))))
          (cases_lt 0 (times block (reach s file)))

      placed : IsPlaced n r new
      placed = record {
        within = λ block among. ⊎_elim
            (λ (before : Contains (reach s file) block). ground.sound.placed.within block before)
            (λ (newly : Contains (blocks_of added) block).
            let is = All-contains (IsFreeData words (start_of n Data)) (blocks_of added) block free newly in
            record { from = is.in_data_area; below = omega (arith, is.within, long) })
            (within block among);
        once = λ block. ⊎_elim
            (λ (zero : block ≡ 0). omega (arith, ap (λ (b : ℕ). times b (reach r new)) zero, no_zero r new))
            (λ (is_block : block ≢ 0). omega (arith, adds block is_block, once block))
            (cases_eq block 0);
      }

      none_then : plan.changes ≡ [] → new ≡ file
      none_then none = (plan.inodes.none none).0

      pub tree : image r new ≡ through layer (image s file)
      tree = denotes limits n s r file layer ground same new plan.changes plan.inodes.added plan.inodes.released plan.file_is first.can (plan.inodes.changes_inodes told) parts.1 none_then
          (first.stands told n ground r same parts.0) (first.unused told n ground r same parts.0)

      pub sound : IsSound limits n r new
      sound = sound_new limits n s r file layer ground same new plan.changes plan.inodes.added plan.inodes.released plan.file_is first.can (plan.inodes.changes_inodes told) parts.1 none_then
          (first.stands told n ground r same parts.0) (first.unused told n ground r same parts.0) placed
