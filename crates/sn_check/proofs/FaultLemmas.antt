-- What faults of the parts make of a check.
use Rattle.std.proofs.Common.{◌≡◌, ℕ, Err, refl, ap}
use Rattle.sn_device.specs.declared.status.Status.{Status}
use Rattle.sn_block.specs.Counts.{CountsRead}
use Rattle.sn_block.specs.declared.fault.ReadFault.{ReadFault}
use Rattle.sn_block.specs.declared.fault.ReadFault.TheVariants as read
use Rattle.sn_block.proofs.CountLemmas.{later-same}
use Rattle.sn_marks.specs.Fault.{CountsCheck, Tells}
use Rattle.sn_marks.specs.declared.fault.CheckFault.{CheckFault}
use Rattle.sn_marks.specs.declared.fault.CheckFault.TheVariants as of_check
use Rattle.sn_model.specs.declared.fault.Damage.{Damage}
use Rattle.sn_examine.specs.Failing.{IsSoOf, WritesNothing, read_fault}
use Rattle.sn_examine.proofs.ReplayLemmas.{read_failed, reads_only}
use Rattle.sn_check.specs.Faults.{IsDamageOf, fault_of_check}

-- ---- of the roots

read_tells : (f : ReadFault) (P : Damage → ℕ → Type 0) → IsDamageOf P (read_fault f)
read_tells read.Device P = tt
read_tells read.Memory P = tt

-- what is reported stays so
pub check_tells : (f : CheckFault) (P : Damage → ℕ → Type 0) → Tells f P → IsDamageOf P (fault_of_check f)
check_tells (of_check.Damaged damage block) P tells = tells
check_tells (of_check.Read f) P tells = read_tells f P

-- it counts as one read does
as_read : (T : Type 0) (f : ReadFault) (old new : Status) → CountsCheck {T = T} (Err (of_check.Read f)) old new → CountsRead {T = T} (Err f) old new
as_read T f old new counts = record {
  done = tt;
  sectors = counts.sectors;
  memory = λ is. let same : f ≡ read.Memory = cc in counts.memory (ap (λ (r : ReadFault). Err (of_check.Read r)) same);
  device = λ is. let same : f ≡ read.Device = cc in counts.device (ap (λ (r : ReadFault). Err (of_check.Read r)) same);
}

-- where nothing is counted, nothing is written
pub same_reads : (old new : Status) → new ≡ old → WritesNothing old new
same_reads old new same = record { later = later-same old new same; writes = ap (λ (s : Status). s.writes) same; syncs = ap (λ (s : Status). s.syncs) same }

pub check_reads : (T : Type 0) (f : CheckFault) (old new : Status) → CountsCheck {T = T} (Err f) old new → WritesNothing old new
check_reads T (of_check.Damaged damage block) old new counts = same_reads old new (counts.damaged damage block refl)
check_reads T (of_check.Read f) old new counts = reads_only {T = T} (Err f) old new (as_read T f old new counts)

pub check_fails : (T : Type 0) (f : CheckFault) (old new : Status) → CountsCheck {T = T} (Err f) old new → IsSoOf (fault_of_check f) old new
check_fails T (of_check.Damaged damage block) old new counts = ap (λ (s : Status). s.failures) (counts.damaged damage block refl)
check_fails T (of_check.Read f) old new counts = read_failed {T = T} (Err f) f old new (as_read T f old new counts) refl
