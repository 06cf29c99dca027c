-- How a file is opened and made.
use Rattle.std.specs.Prelude.{ℕ, ◌==◌, ◌||◌, Bool, true, false, not, bit_and}
use Rattle.sn_fuse_flags.specs.declared.OpenFlags.{OpenFlags}
use Rattle.sn_model.specs.declared.argument.OpenFlags.{OpenFlags as CallFlags}

abbrev pub has : ℕ → ℕ → Bool
has bits bit = bit_and bits bit == bit

-- the lowest two bits: 0 to read, 1 to write, 2 both, and 3 too
abbrev pub reads : OpenFlags → Bool
reads flags = not (has flags.0 1) || has flags.0 2

abbrev pub writes : OpenFlags → Bool
writes flags = has flags.0 1 || has flags.0 2

abbrev pub for_access : Bool → Bool → CallFlags
for_access read write = record { read = read; write = write; append = false; create = false; exclusive = false; truncate = false }

-- what who asks opens a file with: O_TRUNC, which is 512, needs the right to write
abbrev pub asked : OpenFlags → CallFlags
asked flags = record (for_access (reads flags) (writes flags || has flags.0 512)) { truncate = has flags.0 512 }

-- what user 0 opens it with then
abbrev pub owned : OpenFlags → CallFlags
owned flags = for_access (reads flags) (writes flags)

-- what makes a file that is opened: O_EXCL is 128
abbrev pub making : OpenFlags → CallFlags
making flags = record (asked flags) { create = true; exclusive = has flags.0 128 }

abbrev pub to_write : CallFlags
to_write = for_access false true

-- what makes a file that may not be there
abbrev pub making_new : CallFlags
making_new = record to_write { create = true; exclusive = true }

-- `st_mode` of a regular file
abbrev pub is_regular : ℕ → Bool
is_regular mode = bit_and mode 0xF000 == 0x8000
