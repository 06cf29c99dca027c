-- A whole tree is built, by what was planned of it and by how the map was put.
use Rattle.std.proofs.Common.{◌≡◌, ◌≢◌, ◌⊎◌, ⊎_elim, ℕ, ◌+◌, ◌%◌, ◌<◌, ◌≤◌, List, [], length, Result, Ok, Err, IfOk, Some, sym, ap, subst, ◌∙◌, arith}
use Rattle.std.specs.Prelude.{All, Contains}
use Rattle.std.specs.List.Sorted.{IsStrictlyIncreasing}
use Rattle.std.proofs.lemmas.Bool.{cases_eq, cases_lt}
use Rattle.std.proofs.lemmas.List.Elements.{All-contains, All-contains_itself, All-weaker}
use Rattle.sn_alloc.specs.Taking.{IsFreeData, Taking, nothing_taken}
use Rattle.sn_image.specs.Reach.{reach}
use Rattle.sn_image.specs.Sound.{IsInodeFile}
use Rattle.sn_limits.proofs.VersionLemmas.{fixed}
use Rattle.sn_inode.specs.Changes.{ChangesInodes, IsWith}
use Rattle.sn_inode.specs.declared.changes.InodeChange.{InodeChange}
use Rattle.sn_layout.specs.Geometry.{start_of}
use Rattle.sn_layout.specs.declared.geometry.Area.TheVariants.{Data}
use Rattle.sn_layout.specs.declared.tree.BlockTree.{BlockTree}
use Rattle.sn_limits.specs.Versions.{limits_of}
use Rattle.sn_limits.specs.declared.limits.Limits.{Limits}
use Rattle.sn_ondisk.specs.Counts.{times}
use Rattle.sn_ondisk.specs.TreeLaws.{SameIn}
use Rattle.sn_ondisk.specs.Trees.{Store}
use Rattle.sn_ondisk.proofs.CountLemmas.{among_times, times_among}
use Rattle.sn_overlay.specs.Layers.{Layer}
use Rattle.sn_overlay.specs.Needs.{need}
use Rattle.sn_tree.specs.Drafts.{Draft, numbers_of as blocks_of}
use Rattle.sn_tree.specs.Plans.{Holds}
use Rattle.sn_tree.specs.declared.fault.PlanFault.{PlanFault}
use Rattle.sn_tree.specs.declared.new_block.NewBlock.{NewBlock}
use Rattle.sn_cp_nodes.specs.Built.{IsGround}
use Rattle.sn_cp_nodes.proofs.PutLemmas.{put_elsewhere, put_holds, put_in}
use Rattle.sn_cp_build.specs.Bits.{BitsFollow, MakesUp, TellsBit}
use Rattle.sn_cp_build.specs.Edits.{base_bit}
use Rattle.sn_cp_build.specs.Building.{Builds, IsFrozen, IsTreePlanned, IsWellBuilt}
use Rattle.sn_cp_build.specs.Planned.{AreBuilt, numbers_of}
use Rattle.sn_cp_build.specs.declared.building.Built.{Built}
use Rattle.sn_cp_build.specs.declared.edits.SnapshotEdit.{SnapshotEdit}
use Rattle.sn_cp_build.proofs.FrozenLemmas.{added, grew, makes_up, released, sound, told_kept, tree, within}
use Rattle.sn_cp_build.proofs.NeedLemmas.{few_needed}

-- ---- the inode file

whole_blocks : (limits : Limits) → limits_of limits.version ≡ Some limits → (limits.largest_number + 1) % 32 ≡ 0
whole_blocks limits version = ap (λ (k : ℕ). (k + 1) % 32) (fixed limits.version limits version).number

module _ (Told : Type 0) (limits : Limits) (s t : Store) (file : BlockTree) (layer : Layer) (old between after : Draft) (planned sliced : List InodeChange) where
  with_there : (new : BlockTree) → (Told → t ≡ s) → sliced ≡ planned → IsWith Told limits t file new sliced between after → IsWith Told limits s file new planned between after
  with_there new same slice is = subst (λ (cs : List InodeChange). IsWith Told limits s file new cs between after) slice (record {
    added = is.added;
    released = is.released;
    grew = is.grew;
    few = is.few;
    none = is.none;
    changes_inodes = λ told. subst (λ (u : Store). ChangesInodes limits u file new sliced is.added is.released) (same told) (is.changes_inodes told);
  })

  pub tree_planned : (result : Result BlockTree PlanFault) → (Told → t ≡ s) → limits_of limits.version ≡ Some limits → sliced ≡ planned → AreBuilt Told limits s file layer old (numbers_of layer) planned between
      → IfOk result (λ (new : BlockTree). IsWith Told limits t file new sliced between after) → IfOk result (λ (new : BlockTree). file.size ≤ new.size)
      → ((limits.largest_number + 1) % 32 ≡ 0 → IfOk result (λ (new : BlockTree). IsInodeFile limits new))
      → IfOk result (λ (new : BlockTree). IsTreePlanned Told limits s file layer new old after)
  tree_planned (Err fault) same version slice built is larger file_is = tt
  tree_planned (Ok new) same version slice built is larger file_is = record {
    changes = planned;
    between = between;
    nodes = built;
    inodes = with_there new same slice is;
    larger = larger;
    file_is = file_is (whole_blocks limits version);
  }

-- ---- the tree

abbrev pub begun : List ℕ → ℕ → Draft
begun words first = record { words = words; first = first; added = []; released = [] }

module _ (Told : Type 0) (n : ℕ) (limits : Limits) (s : Store) (file : BlockTree) (layer : Layer) (new : BlockTree) (words : List ℕ) (after : Draft)
    (plan : IsTreePlanned Told limits s file layer new (begun words (start_of n Data)) after)
    (free : All (IsFreeData after.words after.first) (blocks_of after.added)) (rise : IsStrictlyIncreasing (blocks_of after.added)) where
  abbrev blocks : List NewBlock
  blocks = added Told limits s file layer new (begun words (start_of n Data)) after plan

  abbrev gone : List ℕ
  gone = released Told limits s file layer new (begun words (start_of n Data)) after plan

  grown_is : after ≡ record { words = words; first = start_of n Data; added = blocks; released = gone }
  grown_is = grew Told limits s file layer new (begun words (start_of n Data)) after plan

  added_is : after.added ≡ blocks
  added_is = ap (λ (d : Draft). d.added) grown_is

  free_blocks : All (IsFreeData words (start_of n Data)) (blocks_of blocks)
  free_blocks = subst (λ (d : Draft). All (IsFreeData d.words d.first) (blocks_of d.added)) grown_is free

  rising_blocks : IsStrictlyIncreasing (blocks_of blocks)
  rising_blocks = subst (λ (d : Draft). IsStrictlyIncreasing (blocks_of d.added)) grown_is rise

  -- each block that was released was reached or added
  pub released_within : (k : ℕ) → Told → length words ≡ n → 0 < n → IsGround limits n s file layer → TellsBit k words (reach s file) → All (λ (b : ℕ). b < length after.words) after.released
  released_within k told long some ground tells =
      subst (λ (d : Draft). All (λ (b : ℕ). b < length d.words) d.released) (sym grown_is)
      (All-weaker (Contains gone) (λ (b : ℕ). b < length words) (λ block among. ⊎_elim
      (λ (zero : block ≡ 0). omega (arith, zero, some, long))
      (λ (is_block : block ≢ 0). known block (omega (arith, makes.sum block is_block, among_times block gone among)))
      (cases_eq block 0)) gone (All-contains_itself gone))
    where
      r : Store
      r = put_in blocks s

      same : SameIn (reach s file) s r
      same block among = put_elsewhere blocks s block (λ newly. told_kept k words (reach s file) (start_of n Data) block tells among (All-contains (IsFreeData words (start_of n Data)) (blocks_of blocks) block free_blocks newly))

      makes : MakesUp (reach s file) (reach r new) (blocks_of blocks) gone
      makes = makes_up Told limits s file layer new (begun words (start_of n Data)) after plan k n words told ground tells free_blocks rising_blocks long r same (put_holds blocks s rising_blocks)

      known : (block : ℕ) → 0 < times block (reach s file) + times block (blocks_of blocks) → block < length words
      known block some = ⊎_elim
          (λ (before : 0 < times block (reach s file)).
          let below : block < n = (ground.sound.placed.within block (times_among block (reach s file) before)).below in
          omega (arith, below, long))
          (λ (not : times block (reach s file) ≤ 0).
          (All-contains (IsFreeData words (start_of n Data)) (blocks_of blocks) block free_blocks (times_among block (blocks_of blocks) (omega (arith, not, some)))).within)
          (cases_lt 0 (times block (reach s file)))

  module _ (edit : SnapshotEdit) (built : Built) (file_is : built.inode_file ≡ new) (blocks_are : built.blocks.items ≡ after.added) (bits : BitsFollow (blocks_of after.added) after.released edit after.words built.map) where
    items_are : built.blocks.items ≡ blocks
    items_are = blocks_are ∙ added_is

    follow : BitsFollow (blocks_of blocks) gone edit words built.map
    follow = subst (λ (d : Draft). BitsFollow (blocks_of d.added) d.released edit d.words built.map) grown_is bits

    one_well : IsWellBuilt n limits words layer edit built
    one_well = record {
      free = subst (λ (bs : List NewBlock). All (IsFreeData words (start_of n Data)) (blocks_of bs)) (sym items_are) free_blocks;
      rise = subst (λ (bs : List NewBlock). IsStrictlyIncreasing (blocks_of bs)) (sym items_are) rising_blocks;
      few = subst (λ (bs : List NewBlock). length bs ≤ need limits layer) (sym items_are) (few_needed limits layer Told s file new (begun words (start_of n Data)) after plan);
      as_many = follow.as_many;
      snapshots = follow.snapshots;
    }

    one_builds : Told → length words ≡ n → Builds n limits s file (base_bit edit) words layer built
    one_builds told long ground tells r same holds =
        let there : Holds r blocks = subst (λ (bs : List NewBlock). Holds r bs) items_are holds in
        let makes = makes_up Told limits s file layer new (begun words (start_of n Data)) after plan (base_bit edit) n words told ground tells free_blocks rising_blocks long r same there in
        let frozen : IsFrozen n limits s file layer (record built { inode_file = new }) r = record {
          tree = tree Told limits s file layer new (begun words (start_of n Data)) after plan (base_bit edit) n words told ground tells free_blocks rising_blocks long r same there;
          sound = sound Told limits s file layer new (begun words (start_of n Data)) after plan (base_bit edit) n words told ground tells free_blocks rising_blocks long r same there;
          bits = follow.tells (reach s file) (reach r new) makes tells;
          within = λ block among. subst (λ (bs : List NewBlock). Contains (reach s file) block ⊎ Contains (blocks_of bs) block) (sym items_are)
              (within Told limits s file layer new (begun words (start_of n Data)) after plan (base_bit edit) n words told ground tells free_blocks rising_blocks long r same there block among);
        } in
        subst (λ (file_then : BlockTree). IsFrozen n limits s file layer (record built { inode_file = file_then }) r) (sym file_is) frozen

  pub well_built : (edit : SnapshotEdit) (result : Result Built PlanFault) → IfOk result (λ (built : Built). built.inode_file ≡ new) → IfOk result (λ (built : Built). built.blocks.items ≡ after.added)
      → IfOk result (λ (built : Built). BitsFollow (blocks_of after.added) after.released edit after.words built.map) → IfOk result (IsWellBuilt n limits words layer edit)
  well_built edit (Err fault) file_is blocks_are bits = tt
  well_built edit (Ok built) file_is blocks_are bits = one_well edit built file_is blocks_are bits

  pub all_builds : Told → length words ≡ n → (edit : SnapshotEdit) (result : Result Built PlanFault) → IfOk result (λ (built : Built). built.inode_file ≡ new) → IfOk result (λ (built : Built). built.blocks.items ≡ after.added)
      → IfOk result (λ (built : Built). BitsFollow (blocks_of after.added) after.released edit after.words built.map) → IfOk result (Builds n limits s file (base_bit edit) words layer)
  all_builds told long edit (Err fault) file_is blocks_are bits = tt
  all_builds told long edit (Ok built) file_is blocks_are bits = one_builds edit built file_is blocks_are bits told long

-- the draft with which a build begins
pub begun_is : (words cloned : List ℕ) (place first : ℕ) (t : Taking) (draft : Draft) → cloned ≡ words → first ≡ place → t ≡ nothing_taken cloned first → draft ≡ record { words = t.words; first = t.first; added = []; released = [] } → draft ≡ begun words place
begun_is words cloned place first t draft same at taken is =
    is ∙ ap (λ (u : Taking). begun u.words u.first) taken ∙ (λ i. begun (same i) (at i))
