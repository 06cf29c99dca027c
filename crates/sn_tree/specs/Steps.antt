-- What a step of a plan does, and why one fails.
use Rattle.std.specs.Prelude.{◌≡◌, ◌≢◌, ℕ, ◌+◌, ◌<◌, ◌≤◌, ◌⊎◌, false, List, [], ◌∷◌, length, Result, Err, Option}
use Rattle.std.specs.List.{AllByRecursion}
use Rattle.sn_block.specs.Counts.{FailsRead}
use Rattle.sn_block.specs.declared.fault.ReadFault.TheVariants.{Device}
use Rattle.sn_device.specs.declared.status.Status.{Status}
use Rattle.sn_alloc.specs.Taking.{free_data}
use Rattle.sn_image.specs.Reach.{block_reach}
use Rattle.sn_layout_node.specs.Indirect.{ArePointers, pointers_bytes}
use Rattle.sn_ondisk.specs.Trees.{Store}
use Rattle.sn_tree_read.specs.Paths.{lies_on, block_named}
use Rattle.sn_tree_read.specs.declared.fault.TreeFault.TheVariants.{Read}
use Rattle.sn_tree.specs.Drafts.{Draft, grown}
use Rattle.sn_tree.specs.Dirty.{after}
use Rattle.sn_ondisk.specs.Counts.{times}
use Rattle.sn_tree.specs.Plans.{DataBlocks, PlansTo, most_added}
use Rattle.sn_tree.specs.declared.fault.PlanFault.{PlanFault}
use Rattle.sn_tree.specs.declared.fault.PlanFault.TheVariants.{Tree, Full}
use Rattle.sn_tree.specs.declared.new_block.NewBlock.{NewBlock}
use Rattle.sn_tree.specs.declared.new_block.DirtyBlock.{DirtyBlock}

-- Each of these pointers is a hole.
abbrev pub AreHoles : List ℕ → Type 0
AreHoles pointers = AllByRecursion (λ (p : ℕ). p ≡ 0) pointers

-- Pointers for data blocks from `base` to `end` were planned, which used up the dirty blocks before `end`. Over a device that tells its bytes they are those of a plan.
pub record Planned (Told : Type 0) (s : Store) (was : List ℕ) (had : DataBlocks) (depth base end keep : ℕ) (dirty left : List DirtyBlock) (new : List ℕ) (old_draft new_draft : Draft) : Type 0 where
  pub added : List NewBlock
  pub released : List ℕ
  pub grew : new_draft ≡ grown old_draft added released
  pub few : length added ≤ most_added depth base end keep dirty
  pub rest : left ≡ after end dirty
  -- where nothing stays and nothing is dirty, all are holes
  pub cut : keep ≤ base → length (after end dirty) ≡ length dirty → AreHoles new
  pub plans : Told → PlansTo s was had depth base keep dirty new added released

-- A new block with these bytes was put in place of the one at a pointer.
pub record IsPut (old new : Draft) (pointer number : ℕ) (bytes : List ℕ) : Type 0 where
  pub block : NewBlock
  pub number_is : block.number ≡ number
  pub some : block.number ≢ 0
  pub bytes_are : block.bytes.value ≡ bytes
  pub grew : new ≡ grown old (block ∷ []) (block_reach pointer)

-- A block of these pointers was put in place of the one at a pointer, or a hole where all of them are holes.
abbrev pub IsReplaced : Draft → Draft → ℕ → List ℕ → ℕ → Type 0
IsReplaced old new pointer pointers number =
    ArePointers pointers × ((AreHoles pointers × (number ≡ 0) × (new ≡ grown old [] (block_reach pointer)))
    ⊎ ((¬ AreHoles pointers) × IsPut old new pointer number (pointers_bytes pointers)))

-- There is no block left, and fewer were than a plan may take.
abbrev pub IsTooFull : {T : Type 0} → Result T PlanFault → Draft → ℕ → Type 0
IsTooFull result draft most = result ≡ Err Full → free_data draft.words draft.first < length draft.added + most

-- one of these pointers names a block that isn't on a device of so many sectors
pub record LeadsOutside (sectors : ℕ) (pointers : List ℕ) : Type 0 where
  pub block : ℕ
  pub some : block ≢ 0
  pub among : 0 < times block pointers
  pub outside : lies_on sectors block ≡ false

-- and the fault names that block
pub record LeadsOutsideAt (sectors : ℕ) (pointers : List ℕ) (told : Option ℕ) : Type 0 where
  pub block : ℕ
  pub some : block ≢ 0
  pub among : 0 < times block pointers
  pub outside : lies_on sectors block ≡ false
  pub met : told ≡ block_named block

-- Nothing is counted but the failure of the device, and that where it isn't at its end.
pub record CountsPlan {T : Type 0} (result : Result T PlanFault) (old new : Status) : Type 0 where
  pub sectors : new.sectors ≡ old.sectors
  pub device : result ≡ Err (Tree (Read Device)) → FailsRead old new
  pub other : result ≢ Err (Tree (Read Device)) → new ≡ old
