-- The numbers of the operations, as the protocol has them.
use Rattle.std.specs.Prelude.{ℕ}
use Rattle.sn_fuse.specs.declared.opcode.Opcode.{Opcode}
use Rattle.sn_fuse.specs.declared.opcode.Opcode.TheVariants.{Lookup, Forget, GetAttr, SetAttr, Symlink, Mknod, Mkdir, Unlink, Rmdir, Rename, Link, Open, Read, Write, Statfs, Release, Fsync, SetXattr, GetXattr, ListXattr, RemoveXattr, Flush, Init, OpenDir, ReadDir, ReleaseDir, FsyncDir, Access, Create, Interrupt, BatchForget, Rename2}

abbrev pub opcode_number : Opcode → ℕ
opcode_number Lookup = 1
opcode_number Forget = 2
opcode_number GetAttr = 3
opcode_number SetAttr = 4
opcode_number Symlink = 6
opcode_number Mknod = 8
opcode_number Mkdir = 9
opcode_number Unlink = 10
opcode_number Rmdir = 11
opcode_number Rename = 12
opcode_number Link = 13
opcode_number Open = 14
opcode_number Read = 15
opcode_number Write = 16
opcode_number Statfs = 17
opcode_number Release = 18
opcode_number Fsync = 20
opcode_number SetXattr = 21
opcode_number GetXattr = 22
opcode_number ListXattr = 23
opcode_number RemoveXattr = 24
opcode_number Flush = 25
opcode_number Init = 26
opcode_number OpenDir = 27
opcode_number ReadDir = 28
opcode_number ReleaseDir = 29
opcode_number FsyncDir = 30
opcode_number Access = 34
opcode_number Create = 35
opcode_number Interrupt = 36
opcode_number BatchForget = 42
opcode_number Rename2 = 45
