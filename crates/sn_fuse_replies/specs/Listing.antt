-- The entries of a listing.
use Rattle.std.specs.Prelude.{ℕ, ◌-◌, ◌%◌, List, ◌++◌, length}
use Rattle.sn_bytes.specs.Bytes.{number_bytes, zeros}
use Rattle.sn_fuse_replies.specs.declared.listing.EntryKind.{EntryKind}
use Rattle.sn_fuse_replies.specs.declared.listing.EntryKind.TheVariants.{Directory, File}

-- the numbers of readdir(3), `DT_DIR` and `DT_REG`
abbrev pub kind_number : EntryKind → ℕ
kind_number Directory = 4
kind_number File = 8

-- from the end of a name of so many bytes to a multiple of 8
abbrev pub padding : ℕ → ℕ
padding length = (8 - length % 8) % 8

abbrev pub listed_bytes : ℕ → ℕ → EntryKind → List ℕ → List ℕ
listed_bytes number offset kind name = number_bytes 8 number ++ number_bytes 8 offset ++ number_bytes 4 (length name) ++ number_bytes 4 (kind_number kind)
    ++ name ++ zeros (padding (length name))
