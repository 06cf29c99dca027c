-- How many descriptors each live file has.
use Rattle.std.specs.Prelude.{◌≡◌, ℕ, ◌<◌, Bool, true, false, List, Option, None, Some, count_by, length, slice_index, if◌then◌else◌}
use Rattle.sn_walk.specs.declared.object.Home.{Home}
use Rattle.sn_walk.specs.declared.object.Home.TheVariants.{Live, Frozen}
use Rattle.sn_model.specs.Settling.{is_of_live}
use Rattle.sn_desc.specs.declared.open_file.OpenFile.{OpenFile}

abbrev pub is_live_file : ℕ → Option OpenFile → Bool
is_live_file number None = false
is_live_file number (Some file) = is_of_live number file.home file.number

-- a file counts once where it is the live file with a number
abbrev pub one : ℕ → Option OpenFile → ℕ
one number o = if is_live_file number o then 1 else 0

-- a file of the live tree
abbrev pub is_live : Home → Bool
is_live Live = true
is_live (Frozen name) = false

abbrev pub has_live : Option OpenFile → Bool
has_live None = false
has_live (Some file) = is_live file.home

-- so many seats have it
abbrev pub holders_of : ℕ → List (Option OpenFile) → ℕ
holders_of number files = count_by (is_live_file number) files

-- so many seats have a file of the live tree
abbrev pub live_seats : List (Option OpenFile) → ℕ
live_seats files = count_by has_live files

pub record IsCounted (files : List (Option OpenFile)) (holders : List ℕ) : Type 0 where
  pub seats : length files ≡ 4096
  pub numbers : length holders ≡ 65536
  pub counted : (number : ℕ) → number < 65536 → slice_index holders number ≡ holders_of number files
