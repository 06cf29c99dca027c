-- What each operation is spelled as, in the order of the fields of protocol 7.31.
use Rattle.std.specs.Prelude.{ℕ, List, [], ◌∷◌, length}
use Rattle.sn_fuse.specs.declared.opcode.Opcode.{Opcode}
use Rattle.sn_fuse.specs.declared.opcode.Opcode.TheVariants as code
use Rattle.sn_fuse.specs.declared.operation.NewAttributes.{NewAttributes}
use Rattle.sn_fuse.specs.declared.operation.Span.{Span}
use Rattle.sn_fuse.specs.declared.operation.Op.{Op}
use Rattle.sn_fuse.specs.declared.operation.Op.TheVariants.{Lookup, Forget, GetAttr, SetAttr, Symlink, Mknod, Mkdir, Unlink, Rmdir, Rename, Link, Open, Read, Write, Statfs, Release, Fsync, SetXattr, GetXattr, ListXattr, RemoveXattr, Flush, Init, OpenDir, ReadDir, ReleaseDir, FsyncDir, Access, Create, Interrupt, BatchForget, Rename2}
use Rattle.sn_fuse.specs.Body.{Field, Number, Unread, Text, End, Nothing, Data, Pairs, Anything, Spells}

abbrev pub opcode_of : Op → Opcode
opcode_of (Lookup name) = code.Lookup
opcode_of (Forget lookups) = code.Forget
opcode_of (GetAttr flags handle) = code.GetAttr
opcode_of (SetAttr attributes) = code.SetAttr
opcode_of (Symlink name target) = code.Symlink
opcode_of (Mknod mode device umask name) = code.Mknod
opcode_of (Mkdir mode umask name) = code.Mkdir
opcode_of (Unlink name) = code.Unlink
opcode_of (Rmdir name) = code.Rmdir
opcode_of (Rename directory old_name new_name) = code.Rename
opcode_of (Link node name) = code.Link
opcode_of (Open flags) = code.Open
opcode_of (Read span) = code.Read
opcode_of (Write handle offset flags bytes) = code.Write
opcode_of Statfs = code.Statfs
opcode_of (Release handle) = code.Release
opcode_of (Fsync handle flags) = code.Fsync
opcode_of (SetXattr flags name value) = code.SetXattr
opcode_of (GetXattr size name) = code.GetXattr
opcode_of (ListXattr size) = code.ListXattr
opcode_of (RemoveXattr name) = code.RemoveXattr
opcode_of (Flush handle) = code.Flush
opcode_of (Init major minor readahead flags) = code.Init
opcode_of (OpenDir flags) = code.OpenDir
opcode_of (ReadDir span) = code.ReadDir
opcode_of (ReleaseDir handle) = code.ReleaseDir
opcode_of (FsyncDir handle flags) = code.FsyncDir
opcode_of (Access mask) = code.Access
opcode_of (Create flags mode umask name) = code.Create
opcode_of (Interrupt unique) = code.Interrupt
opcode_of (BatchForget forgets) = code.BatchForget
opcode_of (Rename2 directory flags old_name new_name) = code.Rename2

-- which bytes are read: handle, offset and size
abbrev pub span_fields : Span → List Field
span_fields span = Number 8 span.handle ∷ Number 8 span.offset ∷ Number 4 span.size ∷ Unread 20 ∷ []

-- the time of the last change, and who holds a lock, aren't read
abbrev pub attribute_fields : NewAttributes → List Field
attribute_fields new = Number 4 new.flags.0 ∷ Unread 4 ∷ Number 8 new.handle ∷ Number 8 new.size ∷ Unread 8
    ∷ Number 8 new.accessed.seconds ∷ Number 8 new.modified.seconds ∷ Unread 8
    ∷ Number 4 new.accessed.nanoseconds ∷ Number 4 new.modified.nanoseconds ∷ Unread 4
    ∷ Number 4 new.mode ∷ Unread 4 ∷ Number 4 new.user ∷ Number 4 new.group ∷ Unread 4 ∷ []

-- the fields of a body
abbrev pub fields_of : Op → List Field
fields_of (Lookup name) = Text name ∷ []
fields_of (Forget lookups) = Number 8 lookups ∷ []
fields_of (GetAttr flags handle) = Number 4 flags ∷ Unread 4 ∷ Number 8 handle ∷ []
fields_of (SetAttr attributes) = attribute_fields attributes
fields_of (Symlink name target) = Text name ∷ Text target ∷ []
fields_of (Mknod mode device umask name) = Number 4 mode ∷ Number 4 device ∷ Number 4 umask ∷ Unread 4 ∷ Text name ∷ []
fields_of (Mkdir mode umask name) = Number 4 mode ∷ Number 4 umask ∷ Text name ∷ []
fields_of (Unlink name) = Text name ∷ []
fields_of (Rmdir name) = Text name ∷ []
fields_of (Rename directory old_name new_name) = Number 8 directory ∷ Text old_name ∷ Text new_name ∷ []
fields_of (Link node name) = Number 8 node ∷ Text name ∷ []
fields_of (Open flags) = Number 4 flags.0 ∷ Unread 4 ∷ []
fields_of (Read span) = span_fields span
fields_of (Write handle offset flags bytes) = Number 8 handle ∷ Number 8 offset ∷ Number 4 (length bytes) ∷ Number 4 flags ∷ Unread 16 ∷ []
fields_of Statfs = []
fields_of (Release handle) = Number 8 handle ∷ Unread 16 ∷ []
fields_of (Fsync handle flags) = Number 8 handle ∷ Number 4 flags ∷ Unread 4 ∷ []
fields_of (SetXattr flags name value) = Number 4 (length value) ∷ Number 4 flags.0 ∷ Text name ∷ []
fields_of (GetXattr size name) = Number 4 size ∷ Unread 4 ∷ Text name ∷ []
fields_of (ListXattr size) = Number 4 size ∷ Unread 4 ∷ []
fields_of (RemoveXattr name) = Text name ∷ []
fields_of (Flush handle) = Number 8 handle ∷ Unread 16 ∷ []
fields_of (Init major minor readahead flags) = Number 4 major ∷ Number 4 minor ∷ Number 4 readahead ∷ Number 4 flags.0 ∷ []
fields_of (OpenDir flags) = Number 4 flags.0 ∷ Unread 4 ∷ []
fields_of (ReadDir span) = span_fields span
fields_of (ReleaseDir handle) = Number 8 handle ∷ Unread 16 ∷ []
fields_of (FsyncDir handle flags) = Number 8 handle ∷ Number 4 flags ∷ Unread 4 ∷ []
fields_of (Access mask) = Number 4 mask ∷ Unread 4 ∷ []
fields_of (Create flags mode umask name) = Number 4 flags.0 ∷ Number 4 mode ∷ Number 4 umask ∷ Unread 4 ∷ Text name ∷ []
fields_of (Interrupt unique) = Number 8 unique ∷ []
fields_of (BatchForget forgets) = Number 4 (length forgets) ∷ Unread 4 ∷ []
fields_of (Rename2 directory flags old_name new_name) = Number 8 directory ∷ Number 4 flags.0 ∷ Unread 4 ∷ Text old_name ∷ Text new_name ∷ []

-- what is after them
abbrev pub end_of : Op → End
end_of (Lookup name) = Nothing
end_of (Forget lookups) = Nothing
end_of (GetAttr flags handle) = Nothing
end_of (SetAttr attributes) = Nothing
end_of (Symlink name target) = Nothing
end_of (Mknod mode device umask name) = Nothing
end_of (Mkdir mode umask name) = Nothing
end_of (Unlink name) = Nothing
end_of (Rmdir name) = Nothing
end_of (Rename directory old_name new_name) = Nothing
end_of (Link node name) = Nothing
end_of (Open flags) = Nothing
end_of (Read span) = Nothing
end_of (Write handle offset flags bytes) = Data bytes
end_of Statfs = Nothing
end_of (Release handle) = Nothing
end_of (Fsync handle flags) = Nothing
end_of (SetXattr flags name value) = Data value
end_of (GetXattr size name) = Nothing
end_of (ListXattr size) = Nothing
end_of (RemoveXattr name) = Nothing
end_of (Flush handle) = Nothing
end_of (Init major minor readahead flags) = Anything
end_of (OpenDir flags) = Nothing
end_of (ReadDir span) = Nothing
end_of (ReleaseDir handle) = Nothing
end_of (FsyncDir handle flags) = Nothing
end_of (Access mask) = Nothing
end_of (Create flags mode umask name) = Nothing
end_of (Interrupt unique) = Nothing
end_of (BatchForget forgets) = Pairs forgets
end_of (Rename2 directory flags old_name new_name) = Nothing

-- the body is one of the spellings of the operation
abbrev pub IsBody : Op → List ℕ → Type 0
IsBody op body = Spells (fields_of op) (end_of op) body
