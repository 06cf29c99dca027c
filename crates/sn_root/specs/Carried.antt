-- What was read of a slot.
use Rattle.std.specs.Prelude.{◌≡◌, ◌≢◌, ⊤, ℕ, List, None}
use Rattle.byteorder.specs.Endian.{little_number}
use Rattle.sn_limits.specs.Versions.{limits_of}
use Rattle.sn_device.specs.Sectors.{Contents}
use Rattle.sn_layout.specs.declared.geometry.Slot.{Slot}
use Rattle.sn_layout.specs.declared.root.RootBody.{RootBody}
use Rattle.sn_layout.specs.Geometry.{gate_sector}
use Rattle.sn_layout.specs.RootBody.{IsRootBody, root_body_bytes}
use Rattle.sn_ondisk.specs.Blocks.{block_at}
use Rattle.sn_ondisk.specs.Gates.{IsOpen, IsClosed}
use Rattle.sn_ondisk.specs.Roots.{body_block}
use Rattle.sn_root.specs.declared.slots.Carried.{Carried}
use Rattle.sn_root.specs.declared.slots.Carried.TheVariants.{Nothing, UnknownVersion, Misspelt, Root}

-- the bytes of a block are of this kind
abbrev pub Spells : List ℕ → Carried → Type 0
Spells bytes Nothing = ⊥
Spells bytes UnknownVersion = limits_of (little_number 4 bytes) ≡ None
Spells bytes Misspelt = (limits_of (little_number 4 bytes) ≢ None) × ((root : RootBody) → IsRootBody root → bytes ≡ root_body_bytes root → ⊥)
Spells bytes (Root root) = IsRootBody root × (bytes ≡ root_body_bytes root)

-- what a slot holds
abbrev pub Holds : Contents → Slot → Carried → Type 0
Holds c slot Nothing = IsClosed c (gate_sector slot)
Holds c slot UnknownVersion = IsOpen c (gate_sector slot) × Spells (block_at c (body_block slot)) UnknownVersion
Holds c slot Misspelt = IsOpen c (gate_sector slot) × Spells (block_at c (body_block slot)) Misspelt
Holds c slot (Root root) = IsOpen c (gate_sector slot) × Spells (block_at c (body_block slot)) (Root root)

-- a root that is held can be written
abbrev pub Fits : Carried → Type 0
Fits Nothing = ⊤
Fits UnknownVersion = ⊤
Fits Misspelt = ⊤
Fits (Root root) = IsRootBody root
