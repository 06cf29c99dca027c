-- What `Blocks` shows.
use Rattle.std.specs.Prelude.{◌≡◌, ℕ, Bool, List, Option, Result, IsTrue, ⊤}
use Rattle.std.specs.Borrow.{Fml, RattleType, MutBor, follows_so}
use Rattle.sn_device.specs.declared.device.Device.{Ghosts}
use Rattle.sn_block.specs.Cache.{entries_of, has, first_number as first_number_of, first_bytes}
use Rattle.sn_block.specs.Counts.{CountsRead}
use Rattle.sn_block.specs.declared.fault.ReadFault.{ReadFault}
use Rattle.sn_block.specs.declared.blocks.Blocks.{Blocks}
use Rattle.sn_block.specs.contracts.blocks.Blocks.{the_row}
use mathlib.Core.Option.{none}

module _ {D : Type 0} {g : Ghosts D} where
  -- the device that it owns
  abbrev pub device_of : Blocks D g → D
  device_of it = it.device

  -- whether it keeps the block
  abbrev pub keeps : Blocks D g → ℕ → Bool
  keeps it number = has number (entries_of it.cache)

  -- the number of the block that is lent, if one is
  abbrev pub fetched_number : Blocks D g → Option ℕ
  fetched_number it = first_number_of (entries_of it.cache)

  -- its bytes
  abbrev pub fetched_bytes : Blocks D g → List ℕ
  fetched_bytes it = first_bytes (entries_of it.cache)

-- the device has the bytes that it had, and the counts rose by the failure of the read alone
abbrev pub ends_as_read : {T : Type 0} (D : RattleType) (g : Ghosts D.Denot) → Result T ReadFault → (it : MutBor (Blocks D.Denot g)) → Fml
ends_as_read D g result it =
    follows_so (the_row D g) (the_row D g) it.ghost_name none (λ _ _. ⊤)
    (λ n. CountsRead result (g.status (device_of it.now)) (g.status (device_of n)) × (IsTrue g.tells_bytes → g.disk (device_of n) ≡ g.disk (device_of it.now)))
