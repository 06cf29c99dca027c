-- Where roots, map copies and log halves lie.
use Rattle.std.specs.Prelude.{◌≡◌, ◌≢◌, ℕ, ◌+◌, ◌*◌, ◌/◌}
use Rattle.sn_device.specs.Sectors.{AreDisjoint}
use Rattle.sn_layout.specs.declared.geometry.Slot.{Slot}
use Rattle.sn_layout.specs.declared.geometry.Area.TheVariants.{RootBody, Gates, Log}
use Rattle.sn_layout.specs.Geometry.{IsIn, start_of, end_of, gate_sector, half_of_epoch, other_slot}
use Rattle.sn_ondisk.specs.LogHalf.{InHalf, base_of}
use Rattle.sn_ondisk.specs.MapCopy.{InMap}
use Rattle.sn_ondisk.specs.Roots.{body_block, InRoots}

-- A slot's root body is the block of that area, and its gate a sector of the gates' block.
abbrev pub RootsLieInTheirAreas : Type 0
RootsLieInTheirAreas = (n : ℕ) (slot : Slot) → (body_block slot ≡ start_of n (RootBody slot)) × IsIn n Gates (gate_sector slot / 8)

-- A half is the whole of its area.
abbrev pub HalvesAreTheirAreas : Type 0
HalvesAreTheirAreas = (n epoch : ℕ) → (base_of n epoch ≡ 8 * start_of n (Log (half_of_epoch epoch))) × (base_of n epoch + 256 ≡ 8 * end_of n (Log (half_of_epoch epoch)))

-- An epoch and the next one have different halves.
abbrev pub EpochsAlternate : Type 0
EpochsAlternate = (epoch : ℕ) → half_of_epoch (epoch + 1) ≢ half_of_epoch epoch

-- The roots, the copies of the map and the halves of the log have no sector in common.
pub record AreApart (n : ℕ) : Type 0 where
  pub roots_and_maps : (slot : Slot) → AreDisjoint InRoots (InMap n slot)
  pub roots_and_log : (epoch : ℕ) → AreDisjoint InRoots (InHalf (base_of n epoch))
  pub maps : (slot : Slot) → AreDisjoint (InMap n slot) (InMap n (other_slot slot))
  pub maps_and_log : (slot : Slot) (epoch : ℕ) → AreDisjoint (InMap n slot) (InHalf (base_of n epoch))
  pub halves : (epoch : ℕ) → AreDisjoint (InHalf (base_of n epoch)) (InHalf (base_of n (epoch + 1)))

abbrev pub AreasAreApart : Type 0
AreasAreApart = (n : ℕ) → AreApart n
