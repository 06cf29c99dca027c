-- A directory that can't be read, and the block that the fault names.
use Rattle.std.proofs.Common.{◌≡◌, inl, inr, ℕ, ◌/◌, ◌<◌, Option, Result, Err, subst}
use Rattle.std.specs.Prelude.{⊤, IsErrAnd}
use Rattle.sn_device.specs.Disk.{Disk, reads}
use Rattle.sn_device.specs.declared.status.Status.{Status}
use Rattle.sn_layout.specs.declared.tree.BlockTree.{BlockTree}
use Rattle.sn_ondisk.specs.Trees.{Store, store_of}
use Rattle.sn_tree.proofs.FaultLemmas.{leads_outside}
use Rattle.sn_tree_read.specs.declared.fault.TreeFault.{TreeFault}
use Rattle.sn_tree_read.specs.declared.fault.TreeFault.TheVariants.{Damaged}
use Rattle.sn_dir.specs.Blocks.{IsUnread, IsDamagedAt}
use Rattle.sn_dir.proofs.BlockLemmas.{somewhere, was_damaged}
use Rattle.sn_dir_change.specs.Planned.{CannotRead, CannotReadAt}

-- block i can't be read, which is passed on, over a device that is as it was at the start
pub damaged_here : {T : Type 0} {block : Option ℕ} (result : Result T TreeFault) (fault : TreeFault) → IsErrAnd result (λ answered. answered ≡ fault) → result ≡ Err (Damaged block)
    → (tree : BlockTree) (i : ℕ) (old new : Status) (before now : Disk) → new ≡ old → now ≡ before → i < tree.size / 4096
    → ((at : Option ℕ) → fault ≡ Damaged at → IsUnread new.sectors (store_of (reads now)) tree i at)
    → IsDamagedAt (λ names. ⊤) old.sectors (store_of (reads before)) tree block
damaged_here {block = block} result fault answered is tree i old new before now status same within unread = (
  i,
  within,
  tt,
  subst (λ (t : Status). IsUnread t.sectors (store_of (reads before)) tree i block) status
      (subst (λ (d : Disk). IsUnread new.sectors (store_of (reads d)) tree i block) same (unread block (was_damaged result fault answered is))),
)

-- without the block that it names
pub cannot_read : (sectors : ℕ) (s : Store) (tree : BlockTree) (block : Option ℕ) → CannotReadAt sectors s tree block → CannotRead sectors s tree
cannot_read sectors s tree block (inl damaged) = inl (somewhere (λ names. ⊤) sectors s tree block damaged)
cannot_read sectors s tree block (inr outside) = inr (leads_outside outside)
