-- What an entry makes, and why it may make nothing.
use Rattle.std.specs.Prelude.{ℕ, Bool, true, false, not, ◌&&◌, ◌||◌, ◌==◌, nat_lt, bit_and, if◌then◌else◌, Result, Ok, Err}
use Rattle.sn_tar.specs.declared.kind.Kind.{Kind}
use Rattle.sn_tar.specs.declared.kind.Kind.TheVariants as kind
use Rattle.sn_untar.specs.declared.members.Member.{Member}
use Rattle.sn_import_entry.specs.declared.fault.EntryFault.{EntryFault}
use Rattle.sn_import_entry.specs.declared.fault.EntryFault.TheVariants as fault
use Rattle.sn_import_entry.specs.declared.form.Form.{Form}
use Rattle.sn_import_entry.specs.declared.form.Form.TheVariants.{File, Directory, HardLink}

-- what another letter tells: 2 a symbolic link, 3 and 4 devices, 6 a pipe, S a sparse file
abbrev pub fault_of : ℕ → EntryFault
fault_of letter =
    if letter == 50 then fault.SymbolicLink else
    if (letter == 51) || (letter == 52) then fault.Device else
    if letter == 54 then fault.Pipe else
    if letter == 83 then fault.Sparse else fault.Kind

-- a file has at most 2 ^ 36 bytes
abbrev pub file_form : ℕ → Result Form EntryFault
file_form size = if nat_lt 68719476736 size then Err fault.TooLarge else Ok File

abbrev pub kind_form : Kind → ℕ → Result Form EntryFault
kind_form kind.File size = file_form size
kind_form kind.HardLink size = Ok HardLink
kind_form kind.Directory size = Ok Directory
kind_form (kind.Other letter) size = Err (fault_of letter)
kind_form _ size = Err fault.Kind

-- what an entry makes
abbrev pub form_of : Member → Result Form EntryFault
form_of member = if member.is_sparse then Err fault.Sparse else kind_form member.kind member.size

abbrev pub has_mode : Kind → Bool
has_mode kind.File = true
has_mode kind.Directory = true
has_mode _ = false

-- S_ISUID, which no object of an image has
abbrev pub has_set_uid : Member → Bool
has_set_uid member = has_mode member.kind && not (bit_and member.mode 2048 == 0)
