-- An operation is made again of its opcode, its fields and its end: so the same of these is the same operation.
use Rattle.std.proofs.Common.{◌≡◌, ℕ, ◌==◌, List, [], get_or, refl, sym, ap, ◌∙◌, subst, if◌then◌else◌}
use Rattle.sn_fuse.specs.declared.forgets.Forget.{Forget as TheForget}
use Rattle.sn_fuse.specs.declared.opcode.Opcode.{Opcode}
use Rattle.sn_fuse.specs.declared.opcode.Opcode.TheVariants as code
use Rattle.sn_fuse.specs.declared.operation.Op.{Op}
use Rattle.sn_fuse.specs.declared.operation.Op.TheVariants.{Lookup, Forget, GetAttr, SetAttr, Symlink, Mknod, Mkdir, Unlink, Rmdir, Rename, Link, Open, Read, Write, Statfs, Release, Fsync, SetXattr, GetXattr, ListXattr, RemoveXattr, Flush, Init, OpenDir, ReadDir, ReleaseDir, FsyncDir, Access, Create, Interrupt, BatchForget, Rename2}
use Rattle.sn_fuse.specs.Body.{Field, Number, Unread, Text, End, Nothing, Data, Pairs, Anything}
use Rattle.sn_fuse.specs.Opcode.{opcode_number}
use Rattle.sn_fuse.specs.Operation.{opcode_of, fields_of, end_of}

abbrev value_of : Field → ℕ
value_of (Number width value) = value
value_of (Unread width) = 0
value_of (Text name) = 0

abbrev text_of : Field → List ℕ
text_of (Number width value) = []
text_of (Unread width) = []
text_of (Text name) = name

-- the number, or the name, at a place of the fields
abbrev pub number_at : ℕ → List Field → ℕ
number_at place fields = value_of (get_or fields place (Unread 0))

abbrev pub text_at : ℕ → List Field → List ℕ
text_at place fields = text_of (get_or fields place (Unread 0))

abbrev pub data_of : End → List ℕ
data_of Nothing = []
data_of (Data bytes) = bytes
data_of (Pairs forgets) = []
data_of Anything = []

abbrev pub pairs_of : End → List TheForget
pairs_of Nothing = []
pairs_of (Data bytes) = []
pairs_of (Pairs forgets) = forgets
pairs_of Anything = []

abbrev pub op_from : Opcode → List Field → End → Op
op_from code.Lookup fields end = Lookup (text_at 0 fields)
op_from code.Forget fields end = Forget (number_at 0 fields)
op_from code.GetAttr fields end = GetAttr (number_at 0 fields) (number_at 2 fields)
op_from code.SetAttr fields end = SetAttr (record { flags = record { 0 = number_at 0 fields }; handle = number_at 2 fields; size = number_at 3 fields; accessed = record { seconds = number_at 5 fields; nanoseconds = number_at 8 fields }; modified = record { seconds = number_at 6 fields; nanoseconds = number_at 9 fields }; mode = number_at 11 fields; user = number_at 13 fields; group = number_at 14 fields })
op_from code.Symlink fields end = Symlink (text_at 0 fields) (text_at 1 fields)
op_from code.Mknod fields end = Mknod (number_at 0 fields) (number_at 1 fields) (number_at 2 fields) (text_at 4 fields)
op_from code.Mkdir fields end = Mkdir (number_at 0 fields) (number_at 1 fields) (text_at 2 fields)
op_from code.Unlink fields end = Unlink (text_at 0 fields)
op_from code.Rmdir fields end = Rmdir (text_at 0 fields)
op_from code.Rename fields end = Rename (number_at 0 fields) (text_at 1 fields) (text_at 2 fields)
op_from code.Link fields end = Link (number_at 0 fields) (text_at 1 fields)
op_from code.Open fields end = Open (record { 0 = number_at 0 fields })
op_from code.Read fields end = Read (record { handle = number_at 0 fields; offset = number_at 1 fields; size = number_at 2 fields })
op_from code.Write fields end = Write (number_at 0 fields) (number_at 1 fields) (number_at 3 fields) (data_of end)
op_from code.Statfs fields end = Statfs
op_from code.Release fields end = Release (number_at 0 fields)
op_from code.Fsync fields end = Fsync (number_at 0 fields) (number_at 1 fields)
op_from code.SetXattr fields end = SetXattr (record { 0 = number_at 1 fields }) (text_at 2 fields) (data_of end)
op_from code.GetXattr fields end = GetXattr (number_at 0 fields) (text_at 2 fields)
op_from code.ListXattr fields end = ListXattr (number_at 0 fields)
op_from code.RemoveXattr fields end = RemoveXattr (text_at 0 fields)
op_from code.Flush fields end = Flush (number_at 0 fields)
op_from code.Init fields end = Init (number_at 0 fields) (number_at 1 fields) (number_at 2 fields) (record { 0 = number_at 3 fields })
op_from code.OpenDir fields end = OpenDir (record { 0 = number_at 0 fields })
op_from code.ReadDir fields end = ReadDir (record { handle = number_at 0 fields; offset = number_at 1 fields; size = number_at 2 fields })
op_from code.ReleaseDir fields end = ReleaseDir (number_at 0 fields)
op_from code.FsyncDir fields end = FsyncDir (number_at 0 fields) (number_at 1 fields)
op_from code.Access fields end = Access (number_at 0 fields)
op_from code.Create fields end = Create (record { 0 = number_at 0 fields }) (number_at 1 fields) (number_at 2 fields) (text_at 4 fields)
op_from code.Interrupt fields end = Interrupt (number_at 0 fields)
op_from code.BatchForget fields end = BatchForget (pairs_of end)
op_from code.Rename2 fields end = Rename2 (number_at 0 fields) (record { 0 = number_at 1 fields }) (text_at 3 fields) (text_at 4 fields)

pub made_again : (op : Op) → op_from (opcode_of op) (fields_of op) (end_of op) ≡ op
made_again (Lookup name) = refl
made_again (Forget lookups) = refl
made_again (GetAttr flags handle) = refl
made_again (SetAttr attributes) = refl
made_again (Symlink name target) = refl
made_again (Mknod mode device umask name) = refl
made_again (Mkdir mode umask name) = refl
made_again (Unlink name) = refl
made_again (Rmdir name) = refl
made_again (Rename directory old_name new_name) = refl
made_again (Link node name) = refl
made_again (Open flags) = refl
made_again (Read span) = refl
made_again (Write handle offset flags bytes) = refl
made_again Statfs = refl
made_again (Release handle) = refl
made_again (Fsync handle flags) = refl
made_again (SetXattr flags name value) = refl
made_again (GetXattr size name) = refl
made_again (ListXattr size) = refl
made_again (RemoveXattr name) = refl
made_again (Flush handle) = refl
made_again (Init major minor readahead flags) = refl
made_again (OpenDir flags) = refl
made_again (ReadDir span) = refl
made_again (ReleaseDir handle) = refl
made_again (FsyncDir handle flags) = refl
made_again (Access mask) = refl
made_again (Create flags mode umask name) = refl
made_again (Interrupt unique) = refl
made_again (BatchForget forgets) = refl
made_again (Rename2 directory flags old_name new_name) = refl

-- what holds of whatever is made of an opcode holds of each operation that has it
pub at_opcode : (P : Op → Type 0) (opcode : Opcode) → ((fields : List Field) (end : End) → P (op_from opcode fields end)) → (op : Op) → opcode_of op ≡ opcode → P op
at_opcode P opcode each op e =
    subst P (ap (λ (o : Opcode). op_from o (fields_of op) (end_of op)) (sym e) ∙ made_again op) (each (fields_of op) (end_of op))

-- the opcode that has a number
abbrev opcode_at : ℕ → Opcode
opcode_at number =
    if number == 1 then code.Lookup else
    if number == 2 then code.Forget else
    if number == 3 then code.GetAttr else
    if number == 4 then code.SetAttr else
    if number == 6 then code.Symlink else
    if number == 8 then code.Mknod else
    if number == 9 then code.Mkdir else
    if number == 10 then code.Unlink else
    if number == 11 then code.Rmdir else
    if number == 12 then code.Rename else
    if number == 13 then code.Link else
    if number == 14 then code.Open else
    if number == 15 then code.Read else
    if number == 16 then code.Write else
    if number == 17 then code.Statfs else
    if number == 18 then code.Release else
    if number == 20 then code.Fsync else
    if number == 21 then code.SetXattr else
    if number == 22 then code.GetXattr else
    if number == 23 then code.ListXattr else
    if number == 24 then code.RemoveXattr else
    if number == 25 then code.Flush else
    if number == 26 then code.Init else
    if number == 27 then code.OpenDir else
    if number == 28 then code.ReadDir else
    if number == 29 then code.ReleaseDir else
    if number == 30 then code.FsyncDir else
    if number == 34 then code.Access else
    if number == 35 then code.Create else
    if number == 36 then code.Interrupt else
    if number == 42 then code.BatchForget else
    code.Rename2

numbered : (opcode : Opcode) → opcode_at (opcode_number opcode) ≡ opcode
numbered code.Lookup = refl
numbered code.Forget = refl
numbered code.GetAttr = refl
numbered code.SetAttr = refl
numbered code.Symlink = refl
numbered code.Mknod = refl
numbered code.Mkdir = refl
numbered code.Unlink = refl
numbered code.Rmdir = refl
numbered code.Rename = refl
numbered code.Link = refl
numbered code.Open = refl
numbered code.Read = refl
numbered code.Write = refl
numbered code.Statfs = refl
numbered code.Release = refl
numbered code.Fsync = refl
numbered code.SetXattr = refl
numbered code.GetXattr = refl
numbered code.ListXattr = refl
numbered code.RemoveXattr = refl
numbered code.Flush = refl
numbered code.Init = refl
numbered code.OpenDir = refl
numbered code.ReadDir = refl
numbered code.ReleaseDir = refl
numbered code.FsyncDir = refl
numbered code.Access = refl
numbered code.Create = refl
numbered code.Interrupt = refl
numbered code.BatchForget = refl
numbered code.Rename2 = refl

pub same_opcodes : (a b : Opcode) → opcode_number a ≡ opcode_number b → a ≡ b
same_opcodes a b e = sym (numbered a) ∙ ap opcode_at e ∙ numbered b
