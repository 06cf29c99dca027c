-- What tells one end of an image from all others.
use Rattle.std.specs.Prelude.{ℕ, ◌*◌, ◌/◌, List, ◌++◌, length}
use Rattle.sha2.specs.Sha256.{sha256}
use Rattle.sn_device.specs.Sectors.{Contents, sector_at}
use Rattle.sn_layout.specs.Geometry.{start_of}
use Rattle.sn_layout.specs.declared.geometry.Area.TheVariants.{Gates, Log, RootBody}
use Rattle.sn_layout.specs.declared.geometry.LogHalf.{LogHalf}
use Rattle.sn_layout.specs.declared.geometry.LogHalf.TheVariants.{Zero, One}
use Rattle.sn_layout.specs.declared.geometry.Slot.{Slot}
use Rattle.sn_layout.specs.declared.geometry.Slot.TheVariants.{A, B}
use Rattle.sn_ondisk.specs.Blocks.{block_at}

-- how many blocks a disk has
abbrev pub blocks_of : Contents → ℕ
blocks_of c = length c / 8

-- the block of a slot's root body
abbrev pub body_of : Slot → Contents → List ℕ
body_of slot c = block_at c (start_of (blocks_of c) (RootBody slot))

-- the block of the roots' gates
abbrev pub gates_of : Contents → List ℕ
gates_of c = block_at c (start_of (blocks_of c) Gates)

-- the sector of the first gate of a half of the log
abbrev pub first_gate_of : LogHalf → Contents → List ℕ
first_gate_of half c = sector_at c (8 * start_of (blocks_of c) (Log half))

-- what a point or a record changes: both roots, their gates, and the first gate of each half of the log
abbrev pub marks_of : Contents → List ℕ
marks_of c = body_of A c ++ body_of B c ++ gates_of c ++ first_gate_of Zero c ++ first_gate_of One c

-- the identity of an image as it is
unfoldable pub identity_of : Contents → List ℕ
identity_of c = sha256 (marks_of c)
