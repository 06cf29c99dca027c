-- What a mount makes of a tree that can't be read.
use Rattle.std.proofs.Common.{◌≡◌, inl, inr, ℕ, Option, Result, Err, refl, ap}
use Rattle.sn_block.specs.declared.fault.ReadFault.TheVariants.{Device, Memory}
use Rattle.sn_device.specs.Status.{has_ended}
use Rattle.sn_device.specs.declared.status.Status.{Status}
use Rattle.sn_tree_read.specs.Counts.{CountsTree}
use Rattle.sn_tree_read.specs.declared.fault.TreeFault.{TreeFault}
use Rattle.sn_tree_read.specs.declared.fault.TreeFault.TheVariants.{Read, Damaged}
use Rattle.sn_examine.specs.Failing.{IsSoOf, WritesNothing}
use Rattle.sn_examine.specs.Loading.{fault_of_tree}
use Rattle.sn_examine.specs.Rooms.{IsNoDamage}
use Rattle.sn_examine.proofs.ReplayLemmas.{failed_read, fails_reading, idle}

-- ---- the device

-- nothing was written
pub tree_reads : {T : Type 0} (result : Result T TreeFault) (old new : Status) (fault : TreeFault) → result ≡ Err fault → CountsTree result old new → WritesNothing old new
tree_reads result old new (Read Device) is counts = fails_reading (has_ended old) old new (counts.device is)
tree_reads result old new (Read Memory) is counts = idle old new (counts.memory is)
tree_reads result old new (Damaged block) is counts = idle old new (counts.damaged block is)

-- the device is reported to have failed where it has
pub tree_fails : {T : Type 0} (result : Result T TreeFault) (old new : Status) (body : ℕ) (fault : TreeFault) → result ≡ Err fault → CountsTree result old new → IsSoOf (fault_of_tree fault body) old new
tree_fails result old new body (Read Device) is counts = failed_read (has_ended old) old new refl (counts.device is)
tree_fails result old new body (Read Memory) is counts = ap (λ (s : Status). s.failures) (counts.memory is)
tree_fails result old new body (Damaged block) is counts = ap (λ (s : Status). s.failures) (counts.damaged block is)

-- ---- what is reported

-- a tree that is never damaged is no damage
pub tree_undamaged : {T : Type 0} (result : Result T TreeFault) (body : ℕ) (fault : TreeFault) → result ≡ Err fault → ((block : Option ℕ) → result ≡ Err (Damaged block) → ⊥) → IsNoDamage (fault_of_tree fault body)
tree_undamaged result body (Read Device) is never = inr refl
tree_undamaged result body (Read Memory) is never = inl refl
tree_undamaged result body (Damaged block) is never = absurd (never block is)
