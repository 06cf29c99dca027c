-- How long an index stays true.
use Rattle.std.specs.Prelude.{◌≡◌, ℕ}
use Rattle.sn_ondisk.specs.Trees.{Store}
use Rattle.sn_names.specs.declared.index.NameIndex.{NameIndex}
use Rattle.sn_names.specs.Index.{RestsOn, Tells}

-- What an index says stays true while the blocks that it rests on stay.
abbrev pub TellingStays : Type 0
TellingStays = (sectors : ℕ) (s r : Store) (index : NameIndex) → Tells sectors s index
    → ((block : ℕ) → RestsOn index block → r block ≡ s block) → Tells sectors r index
