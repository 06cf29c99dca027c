-- What a write to the log leaves of a slot.
use Rattle.std.proofs.Common.{◌≡◌, ℕ, ◌≤◌, sym, subst, arith}
use Rattle.sn_device.specs.Sectors.{AreSectors, Single}
use Rattle.sn_device.specs.Disk.{Disk, Always, reads, IsSynced}
use Rattle.sn_device.specs.Crash.{Touches}
use Rattle.sn_device.proofs.CrashLemmas.{Always-kept, Always-synced}
use Rattle.sn_layout.specs.declared.gate.Gate.{Gate}
use Rattle.sn_layout.specs.declared.geometry.Slot.{Slot}
use Rattle.sn_layout.specs.declared.root.RootBody.{RootBody}
use Rattle.sn_layout.specs.Geometry.{gate_sector}
use Rattle.sn_ondisk.specs.Blocks.{InBlock}
use Rattle.sn_ondisk.specs.Gates.{IsClosed}
use Rattle.sn_ondisk.specs.Roots.{body_block, HasRoot}
use Rattle.sn_ondisk.proofs.RootLemmas.{gate_below, body_below}
use Rattle.sn_root.specs.Slots.{gate_in}
use Rattle.sn_root.proofs.ReplacingLemmas.{closed_depends, root_depends}

module _ (slot : Slot) (at : ℕ) (old new : Disk) (behind : 26 ≤ at) (whole : AreSectors (reads old)) (touched : Touches (Single at) old new) where
  pub closed_beside : Always old (λ c. IsClosed c (gate_sector slot)) → Always new (λ c. IsClosed c (gate_sector slot))
  closed_beside here =
      Always-kept (Single at) (Single (gate_sector slot)) (λ c. IsClosed c (gate_sector slot)) (closed_depends slot) (λ i is_at is_gate. omega (arith, behind, is_at, is_gate, gate_below slot)) old new whole here touched

  pub body_beside : (root : RootBody) → Always old (λ c. HasRoot c slot root) → Always new (λ c. HasRoot c slot root)
  body_beside root here =
      Always-kept (Single at) (InBlock (body_block slot)) (λ c. HasRoot c slot root) (root_depends slot root) (λ i is_at inside. omega (arith, behind, is_at, inside.1, body_below slot)) old new whole here touched

-- what is read of a gate while nothing is unsynced stands there
pub gate_synced : (slot : Slot) (gate : Gate) (old new : Disk) → IsSynced old → new ≡ old → gate_in (reads old) slot ≡ gate → Always new (λ c. gate_in c slot ≡ gate)
gate_synced slot gate old new is_synced same is = subst (λ (d : Disk). Always d (λ c. gate_in c slot ≡ gate)) (sym same) (Always-synced old (λ c. gate_in c slot ≡ gate) is_synced is)
