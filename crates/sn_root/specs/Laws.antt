-- Laws of what is found, and of what holds between the parts.
use Rattle.std.specs.Prelude.{◌≡◌, ℕ, Result}
use Rattle.sn_device.specs.Sectors.{Contents, AreSectors}
use Rattle.sn_device.specs.Disk.{Disk, Always, reads}
use Rattle.sn_device.specs.Crash.{Touches}
use Rattle.sn_layout.specs.declared.gate.Gate.{Gate}
use Rattle.sn_layout.specs.declared.geometry.Slot.{Slot}
use Rattle.sn_layout.specs.declared.root.RootBody.{RootBody}
use Rattle.sn_layout.specs.Geometry.{gate_sector}
use Rattle.sn_ondisk.specs.Gates.{IsClosed}
use Rattle.sn_ondisk.specs.LogHalf.{InHalf, base_of}
use Rattle.sn_ondisk.specs.Roots.{HasRoot}
use Rattle.sn_root.specs.Slots.{gate_in}
use Rattle.sn_root.specs.Finding.{Finds, IsRead}
use Rattle.sn_root.specs.declared.fault.RootFault.{RootFault}
use Rattle.sn_root.specs.declared.finding.NewestRoot.{NewestRoot}

-- A disk has one answer, so that each fault comes exactly where it is.
abbrev pub FindingIsOne : Type 0
FindingIsOne = (c : Contents) (one other : Result NewestRoot RootFault) → IsRead one → IsRead other → Finds c one → Finds c other → one ≡ other

-- Calls of the log leave the gate of a slot as it always was.
abbrev pub LogKeepsGates : Type 0
LogKeepsGates = (n epoch : ℕ) (slot : Slot) (gate : Gate) (old new : Disk) → AreSectors (reads old) → Touches (InHalf (base_of n epoch)) old new
    → Always old (λ c. gate_in c slot ≡ gate) → Always new (λ c. gate_in c slot ≡ gate)

-- A gate that was closed after every crash stays so.
abbrev pub LogKeepsClosed : Type 0
LogKeepsClosed = (n epoch : ℕ) (slot : Slot) (old new : Disk) → AreSectors (reads old) → Touches (InHalf (base_of n epoch)) old new
    → Always old (λ c. IsClosed c (gate_sector slot)) → Always new (λ c. IsClosed c (gate_sector slot))

-- And so does the body of a root.
abbrev pub LogKeepsBodies : Type 0
LogKeepsBodies = (n epoch : ℕ) (slot : Slot) (root : RootBody) (old new : Disk) → AreSectors (reads old) → Touches (InHalf (base_of n epoch)) old new
    → Always old (λ c. HasRoot c slot root) → Always new (λ c. HasRoot c slot root)
