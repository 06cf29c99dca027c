-- What each of the two slots holds.
use Rattle.std.specs.Prelude.{◌≡◌, ℕ, None}
use Rattle.byteorder.specs.Endian.{little_number}
use Rattle.sn_limits.specs.Versions.{limits_of}
use Rattle.sn_device.specs.Sectors.{Contents, sector_at}
use Rattle.sn_layout.specs.declared.gate.Gate.{Gate}
use Rattle.sn_layout.specs.declared.geometry.Slot.{Slot}
use Rattle.sn_layout.specs.declared.root.RootBody.{RootBody}
use Rattle.sn_layout.specs.Gate.{gate_of}
use Rattle.sn_layout.specs.Geometry.{gate_sector}
use Rattle.sn_ondisk.specs.Blocks.{block_at}
use Rattle.sn_ondisk.specs.Gates.{IsOpen}
use Rattle.sn_ondisk.specs.Roots.{body_block, HasRoot}

-- the gate of a slot
abbrev pub gate_in : Contents → Slot → Gate
gate_in c slot = gate_of (sector_at c (gate_sector slot))

-- the version that a slot's block names
abbrev pub version_at : Contents → Slot → ℕ
version_at c slot = little_number 4 (block_at c (body_block slot))

-- The slot is open, and its block names a version that isn't read.
pub record IsUnknown (c : Contents) (slot : Slot) : Type 0 where
  pub is_open : IsOpen c (gate_sector slot)
  pub version : limits_of (version_at c slot) ≡ None

-- The slot is open, and its block spells no root body.
pub record IsMisspelt (c : Contents) (slot : Slot) : Type 0 where
  pub is_open : IsOpen c (gate_sector slot)
  pub none : (root : RootBody) → HasRoot c slot root → ⊥
