-- The two slots of roots, and which of them counts.
use Rattle.std.specs.Prelude.{◌≡◌, ◌⊎◌, ℕ, ◌<◌}
use Rattle.sn_device.specs.Sectors.{Contents, Stretch}
use Rattle.sn_layout.specs.declared.geometry.Slot.{Slot}
use Rattle.sn_layout.specs.declared.geometry.Slot.TheVariants.{A, B}
use Rattle.sn_layout.specs.declared.root.RootBody.{RootBody}
use Rattle.sn_layout.specs.Geometry.{gate_sector, other_slot}
use Rattle.sn_layout.specs.RootBody.{IsRootBody, root_body_bytes}
use Rattle.sn_ondisk.specs.Blocks.{block_at}
use Rattle.sn_ondisk.specs.Gates.{IsOpen, IsClosed}

-- the block of a slot's root body
abbrev pub body_block : Slot → ℕ
body_block A = 1
body_block B = 2

-- The slot's block spells this root body, whether or not its gate is open.
pub record HasRoot (c : Contents) (slot : Slot) (root : RootBody) : Type 0 where
  pub fits : IsRootBody root
  pub bytes : block_at c (body_block slot) ≡ root_body_bytes root

-- The slot is closed, or has a root of an earlier generation.
abbrev pub IsOlder : Contents → Slot → ℕ → Type 0
IsOlder c slot generation = IsClosed c (gate_sector slot) ⊎ ((root : RootBody) × HasRoot c slot root × (root.generation < generation))

-- The newest root is this one, in this slot: of the slots that are open it has the greatest generation. An open slot whose body is misspelt or of the same generation leaves a disk without a newest root.
pub record IsNewest (c : Contents) (slot : Slot) (root : RootBody) : Type 0 where
  pub is_open : IsOpen c (gate_sector slot)
  pub body : HasRoot c slot root
  pub other : IsOlder c (other_slot slot) root.generation

-- The newest root is this one, and in the other slot is the body of a later one. Once that slot's gate opens, the later one is the newest.
pub record HasNext (c : Contents) (slot : Slot) (root next : RootBody) : Type 0 where
  pub newest : IsNewest c slot root
  pub body : HasRoot c (other_slot slot) next
  pub later : root.generation < next.generation

-- the sectors of the two root bodies and of their gates
abbrev pub InRoots : ℕ → Type 0
InRoots = Stretch 8 18
