-- The words of a copy of the map, beside those that are wanted.
use Rattle.std.specs.Prelude.{◌≡◌, ◌≢◌, ℕ, ◌+◌, ◌*◌, ◌<◌, List, length, slice_index}
use Rattle.sn_device.specs.Sectors.{Contents}
use Rattle.sn_layout.specs.declared.geometry.Slot.{Slot}
use Rattle.sn_layout.specs.Geometry.{map_blocks}
use Rattle.sn_model.specs.declared.fault.Damage.{Damage}
use Rattle.sn_model.specs.declared.fault.Damage.TheVariants.{MapWord}
use Rattle.sn_ondisk.specs.MapCopy.{map_word}

-- Each word of a slot's copy is the wanted one, and 0 past the last block of the disk.
abbrev pub HasWords : ℕ → Contents → Slot → List ℕ → Type 0
HasWords n c slot wanted = (block : ℕ) → block < 1024 * map_blocks n → map_word n c slot block ≡ slice_index wanted block

-- the same of the words of its first blocks
abbrev pub HasFirst : ℕ → Contents → Slot → List ℕ → ℕ → Type 0
HasFirst n c slot wanted i = (block : ℕ) → block < 1024 * i → map_word n c slot block ≡ slice_index wanted block

-- One isn't, and is reported at the block that it is the word of.
pub data HasOtherWord (n : ℕ) (c : Contents) (slot : Slot) (wanted : List ℕ) : Damage → ℕ → Type 0 where
  other : (block : ℕ) → block < 1024 * map_blocks n → map_word n c slot block ≢ slice_index wanted block → HasOtherWord n c slot wanted MapWord block

-- One of these words isn't the wanted one. The first of them is that of the block `from`.
pub record HasOther (words wanted : List ℕ) (from block : ℕ) : Type 0 where
  pub k : ℕ
  pub within : k < length words
  pub here : block ≡ from + k
  pub apart : slice_index words k ≢ slice_index wanted block

-- the same, as it is reported
pub data IsOther (words wanted : List ℕ) (from : ℕ) : Damage → ℕ → Type 0 where
  in_block : (block : ℕ) → HasOther words wanted from block → IsOther words wanted from MapWord block
