-- The indexes that are kept.
use Rattle.std.specs.Prelude.{ℕ, All}
use Rattle.sn_ondisk.specs.Trees.{Store}
use Rattle.sn_names.specs.declared.kept.KeptIndex.{KeptIndex}
use Rattle.sn_names.specs.declared.indexes.NameIndexes.{NameIndexes}
use Rattle.sn_names.specs.Index.{Tells}

-- all that they say is true of these blocks, on a device of so many sectors
abbrev pub AllTell : ℕ → Store → NameIndexes → Type 0
AllTell sectors s it = All (λ (kept : KeptIndex). Tells sectors s kept.index) it.list.items
