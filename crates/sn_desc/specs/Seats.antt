-- Open files in a slab, and the keys of the seats that have one.
use Rattle.std.specs.Prelude.{◌≡◌, ℕ, true, List, map, Option, None, Some, is_some, slice_index_or}
use Rattle.slab.specs.Slab.{Slab, get}
use Rattle.sn_desc.specs.declared.open_file.OpenFile.{OpenFile}

abbrev pub file_under : Slab OpenFile → Option ℕ → Option OpenFile
file_under files None = None
file_under files (Some key) = get files key

abbrev pub files_under : Slab OpenFile → List (Option ℕ) → List (Option OpenFile)
files_under files keys = map (file_under files) keys

-- each key of a seat has a file, and no two seats have one key
pub record IsSeatd (files : Slab OpenFile) (keys : List (Option ℕ)) : Type 0 where
  pub there : (seat key : ℕ) → slice_index_or keys seat None ≡ Some key → is_some (get files key) ≡ true
  pub apart : (a b key : ℕ) → slice_index_or keys a None ≡ Some key → slice_index_or keys b None ≡ Some key → a ≡ b
