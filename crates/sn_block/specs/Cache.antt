-- The blocks that are kept.
use Rattle.std.specs.Prelude.{◌≡◌, ◌≢◌, ◌⊎◌, ℕ, Bool, List, [], ◌∷◌, nat_eq, Contains, Option, None, Some, is_some}
use Rattle.std.specs.Map.{lookup}
use Rattle.std.specs.declared.boxed.Box.{Box}
use Rattle.std.specs.Global.{Global}
use Rattle.sn_device.specs.Sectors.{Contents}
use Rattle.sn_ondisk.specs.Blocks.{block_at}
use Rattle.sn_block.specs.declared.cache.Cache.{Cache}

-- a block's number, and where it is kept
abbrev pub Entry : Type 0
Entry = ℕ × Box (List ℕ) Global

-- the blocks that are kept, the one used last first
abbrev pub entries_of : Cache → List Entry
entries_of it = it.blocks.entries

abbrev pub has : ℕ → List Entry → Bool
has number entries = is_some (lookup (nat_eq number) entries)

abbrev pub first_number : List Entry → Option ℕ
first_number [] = None
first_number (e ∷ es) = Some e.0

abbrev pub first_bytes : List Entry → List ℕ
first_bytes [] = []
first_bytes (e ∷ es) = e.1.value

-- each one kept was kept before
abbrev pub HasOnly : List Entry → List Entry → Type 0
HasOnly old new = (e : Entry) → Contains new e → Contains old e

-- each one kept was kept before, or is this one
abbrev pub HasOnlyWith : ℕ → List ℕ → List Entry → List Entry → Type 0
HasOnlyWith number bytes old new = (e : Entry) → Contains new e → Contains old e ⊎ ((e.0 ≡ number) × (e.1.value ≡ bytes))

-- each one kept was kept before, and isn't this one
abbrev pub HasOnlyOthers : ℕ → List Entry → List Entry → Type 0
HasOnlyOthers number old new = (e : Entry) → Contains new e → Contains old e × (e.0 ≢ number)

-- each one kept is what reads give
abbrev pub Coheres : Contents → List Entry → Type 0
Coheres c entries = (e : Entry) → Contains entries e → e.1.value ≡ block_at c e.0
