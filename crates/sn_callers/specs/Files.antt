-- What a handle stands for.
use Rattle.std.specs.Prelude.{ℕ, List, Option, None, slice_index_or}
use Rattle.sn_callers.specs.declared.open_files.OpenFile.{OpenFile}

-- nothing past the last place
abbrev pub file_at : List (Option OpenFile) → ℕ → Option OpenFile
file_at files handle = slice_index_or files handle None
