-- What a list of the files without names records.
use Rattle.std.specs.Prelude.{◌≡◌, ℕ, Bool, false, slice_index_or}
use Rattle.std.specs.FinMap as map
use Rattle.sn_model.specs.Settling.{is_nameless}
use Rattle.sn_model.specs.Tree.{Tree}
use Rattle.sn_number_table.specs.declared.nameless.NamelessFiles.{NamelessFiles}

-- whether a number is listed
abbrev pub is_listed : NamelessFiles → ℕ → Bool
is_listed files number = slice_index_or files.listed.items number false

-- Exactly those numbers are listed that are those of files without names.
abbrev pub TellsNameless : Tree → NamelessFiles → Type 0
TellsNameless tree files = (number : ℕ) → is_listed files number ≡ is_nameless tree number (map.get tree.nodes number)
