use Rattle.std.proofs.Common.{◌∙◌}
use Rattle.sn_fuse.specs.declared.opcode.Opcode.TheVariants as code
use Rattle.sn_fuse.specs.declared.operation.Op.{Op}
use Rattle.sn_fuse.specs.Operation.{IsBody}
use Rattle.sn_fuse.proofs.Opcodes.{number_at, text_at, data_of, pairs_of, at_opcode}
use Rattle.sn_fuse.proofs.body.read_body.Goals as goal

pub returns-in-Lookup-clause-none : goal.returns-in-Lookup-clause-none
returns-in-Lookup-clause-none c = λ none op e.
    at_opcode (λ (o : Op). IsBody o c.args.body.now → ⊥) code.Lookup (λ fields end. c.read_lookup.ensures.none none (text_at 0 fields)) op (e ∙ c.in-Lookup.is)

pub returns-in-Forget-clause-none : goal.returns-in-Forget-clause-none
returns-in-Forget-clause-none c = λ none op e.
    at_opcode (λ (o : Op). IsBody o c.args.body.now → ⊥) code.Forget (λ fields end. c.read_forget.ensures.none none (number_at 0 fields)) op (e ∙ c.in-Forget.is)

pub returns-in-GetAttr-clause-none : goal.returns-in-GetAttr-clause-none
returns-in-GetAttr-clause-none c = λ none op e.
    at_opcode (λ (o : Op). IsBody o c.args.body.now → ⊥) code.GetAttr (λ fields end. c.read_get_attr.ensures.none none (number_at 0 fields) (number_at 2 fields)) op (e ∙ c.in-GetAttr.is)

pub returns-in-SetAttr-clause-none : goal.returns-in-SetAttr-clause-none
returns-in-SetAttr-clause-none c = λ none op e.
    at_opcode (λ (o : Op). IsBody o c.args.body.now → ⊥) code.SetAttr (λ fields end. c.read_set_attr.ensures.none none (record { flags = record { 0 = number_at 0 fields }; handle = number_at 2 fields; size = number_at 3 fields; accessed = record { seconds = number_at 5 fields; nanoseconds = number_at 8 fields }; modified = record { seconds = number_at 6 fields; nanoseconds = number_at 9 fields }; mode = number_at 11 fields; user = number_at 13 fields; group = number_at 14 fields })) op (e ∙ c.in-SetAttr.is)

pub returns-in-Symlink-clause-none : goal.returns-in-Symlink-clause-none
returns-in-Symlink-clause-none c = λ none op e.
    at_opcode (λ (o : Op). IsBody o c.args.body.now → ⊥) code.Symlink (λ fields end. c.read_symlink.ensures.none none (text_at 0 fields) (text_at 1 fields)) op (e ∙ c.in-Symlink.is)

pub returns-in-Mknod-clause-none : goal.returns-in-Mknod-clause-none
returns-in-Mknod-clause-none c = λ none op e.
    at_opcode (λ (o : Op). IsBody o c.args.body.now → ⊥) code.Mknod (λ fields end. c.read_mknod.ensures.none none (number_at 0 fields) (number_at 1 fields) (number_at 2 fields) (text_at 4 fields)) op (e ∙ c.in-Mknod.is)

pub returns-in-Mkdir-clause-none : goal.returns-in-Mkdir-clause-none
returns-in-Mkdir-clause-none c = λ none op e.
    at_opcode (λ (o : Op). IsBody o c.args.body.now → ⊥) code.Mkdir (λ fields end. c.read_mkdir.ensures.none none (number_at 0 fields) (number_at 1 fields) (text_at 2 fields)) op (e ∙ c.in-Mkdir.is)

pub returns-in-Unlink-clause-none : goal.returns-in-Unlink-clause-none
returns-in-Unlink-clause-none c = λ none op e.
    at_opcode (λ (o : Op). IsBody o c.args.body.now → ⊥) code.Unlink (λ fields end. c.read_unlink.ensures.none none (text_at 0 fields)) op (e ∙ c.in-Unlink.is)

pub returns-in-Rmdir-clause-none : goal.returns-in-Rmdir-clause-none
returns-in-Rmdir-clause-none c = λ none op e.
    at_opcode (λ (o : Op). IsBody o c.args.body.now → ⊥) code.Rmdir (λ fields end. c.read_rmdir.ensures.none none (text_at 0 fields)) op (e ∙ c.in-Rmdir.is)

pub returns-in-Rename-clause-none : goal.returns-in-Rename-clause-none
returns-in-Rename-clause-none c = λ none op e.
    at_opcode (λ (o : Op). IsBody o c.args.body.now → ⊥) code.Rename (λ fields end. c.read_rename.ensures.none none (number_at 0 fields) (text_at 1 fields) (text_at 2 fields)) op (e ∙ c.in-Rename.is)

pub returns-in-Link-clause-none : goal.returns-in-Link-clause-none
returns-in-Link-clause-none c = λ none op e.
    at_opcode (λ (o : Op). IsBody o c.args.body.now → ⊥) code.Link (λ fields end. c.read_link.ensures.none none (number_at 0 fields) (text_at 1 fields)) op (e ∙ c.in-Link.is)

pub returns-in-Open-clause-none : goal.returns-in-Open-clause-none
returns-in-Open-clause-none c = λ none op e.
    at_opcode (λ (o : Op). IsBody o c.args.body.now → ⊥) code.Open (λ fields end. c.read_open.ensures.none none (number_at 0 fields)) op (e ∙ c.in-Open.is)

pub returns-in-Read-clause-none : goal.returns-in-Read-clause-none
returns-in-Read-clause-none c = λ none op e.
    at_opcode (λ (o : Op). IsBody o c.args.body.now → ⊥) code.Read (λ fields end. c.read_read.ensures.none none (record { handle = number_at 0 fields; offset = number_at 1 fields; size = number_at 2 fields })) op (e ∙ c.in-Read.is)

pub returns-in-Write-clause-none : goal.returns-in-Write-clause-none
returns-in-Write-clause-none c = λ none op e.
    at_opcode (λ (o : Op). IsBody o c.args.body.now → ⊥) code.Write (λ fields end. c.read_write.ensures.none none (number_at 0 fields) (number_at 1 fields) (number_at 3 fields) (data_of end)) op (e ∙ c.in-Write.is)

pub returns-in-Statfs-clause-none : goal.returns-in-Statfs-clause-none
returns-in-Statfs-clause-none c = λ none op e.
    at_opcode (λ (o : Op). IsBody o c.args.body.now → ⊥) code.Statfs (λ fields end. c.read_statfs.ensures.none none) op (e ∙ c.in-Statfs.is)

pub returns-in-Release-clause-none : goal.returns-in-Release-clause-none
returns-in-Release-clause-none c = λ none op e.
    at_opcode (λ (o : Op). IsBody o c.args.body.now → ⊥) code.Release (λ fields end. c.read_release.ensures.none none (number_at 0 fields)) op (e ∙ c.in-Release.is)

pub returns-in-Fsync-clause-none : goal.returns-in-Fsync-clause-none
returns-in-Fsync-clause-none c = λ none op e.
    at_opcode (λ (o : Op). IsBody o c.args.body.now → ⊥) code.Fsync (λ fields end. c.read_fsync.ensures.none none (number_at 0 fields) (number_at 1 fields)) op (e ∙ c.in-Fsync.is)

pub returns-in-SetXattr-clause-none : goal.returns-in-SetXattr-clause-none
returns-in-SetXattr-clause-none c = λ none op e.
    at_opcode (λ (o : Op). IsBody o c.args.body.now → ⊥) code.SetXattr (λ fields end. c.read_set_xattr.ensures.none none (number_at 1 fields) (text_at 2 fields) (data_of end)) op (e ∙ c.in-SetXattr.is)

pub returns-in-GetXattr-clause-none : goal.returns-in-GetXattr-clause-none
returns-in-GetXattr-clause-none c = λ none op e.
    at_opcode (λ (o : Op). IsBody o c.args.body.now → ⊥) code.GetXattr (λ fields end. c.read_get_xattr.ensures.none none (number_at 0 fields) (text_at 2 fields)) op (e ∙ c.in-GetXattr.is)

pub returns-in-ListXattr-clause-none : goal.returns-in-ListXattr-clause-none
returns-in-ListXattr-clause-none c = λ none op e.
    at_opcode (λ (o : Op). IsBody o c.args.body.now → ⊥) code.ListXattr (λ fields end. c.read_list_xattr.ensures.none none (number_at 0 fields)) op (e ∙ c.in-ListXattr.is)

pub returns-in-RemoveXattr-clause-none : goal.returns-in-RemoveXattr-clause-none
returns-in-RemoveXattr-clause-none c = λ none op e.
    at_opcode (λ (o : Op). IsBody o c.args.body.now → ⊥) code.RemoveXattr (λ fields end. c.read_remove_xattr.ensures.none none (text_at 0 fields)) op (e ∙ c.in-RemoveXattr.is)

pub returns-in-Flush-clause-none : goal.returns-in-Flush-clause-none
returns-in-Flush-clause-none c = λ none op e.
    at_opcode (λ (o : Op). IsBody o c.args.body.now → ⊥) code.Flush (λ fields end. c.read_flush.ensures.none none (number_at 0 fields)) op (e ∙ c.in-Flush.is)

pub returns-in-Init-clause-none : goal.returns-in-Init-clause-none
returns-in-Init-clause-none c = λ none op e.
    at_opcode (λ (o : Op). IsBody o c.args.body.now → ⊥) code.Init (λ fields end. c.read_init.ensures.none none (number_at 0 fields) (number_at 1 fields) (number_at 2 fields) (number_at 3 fields)) op (e ∙ c.in-Init.is)

pub returns-in-OpenDir-clause-none : goal.returns-in-OpenDir-clause-none
returns-in-OpenDir-clause-none c = λ none op e.
    at_opcode (λ (o : Op). IsBody o c.args.body.now → ⊥) code.OpenDir (λ fields end. c.read_open_dir.ensures.none none (number_at 0 fields)) op (e ∙ c.in-OpenDir.is)

pub returns-in-ReadDir-clause-none : goal.returns-in-ReadDir-clause-none
returns-in-ReadDir-clause-none c = λ none op e.
    at_opcode (λ (o : Op). IsBody o c.args.body.now → ⊥) code.ReadDir (λ fields end. c.read_read_dir.ensures.none none (record { handle = number_at 0 fields; offset = number_at 1 fields; size = number_at 2 fields })) op (e ∙ c.in-ReadDir.is)

pub returns-in-ReleaseDir-clause-none : goal.returns-in-ReleaseDir-clause-none
returns-in-ReleaseDir-clause-none c = λ none op e.
    at_opcode (λ (o : Op). IsBody o c.args.body.now → ⊥) code.ReleaseDir (λ fields end. c.read_release_dir.ensures.none none (number_at 0 fields)) op (e ∙ c.in-ReleaseDir.is)

pub returns-in-FsyncDir-clause-none : goal.returns-in-FsyncDir-clause-none
returns-in-FsyncDir-clause-none c = λ none op e.
    at_opcode (λ (o : Op). IsBody o c.args.body.now → ⊥) code.FsyncDir (λ fields end. c.read_fsync_dir.ensures.none none (number_at 0 fields) (number_at 1 fields)) op (e ∙ c.in-FsyncDir.is)

pub returns-in-Access-clause-none : goal.returns-in-Access-clause-none
returns-in-Access-clause-none c = λ none op e.
    at_opcode (λ (o : Op). IsBody o c.args.body.now → ⊥) code.Access (λ fields end. c.read_access.ensures.none none (number_at 0 fields)) op (e ∙ c.in-Access.is)

pub returns-in-Create-clause-none : goal.returns-in-Create-clause-none
returns-in-Create-clause-none c = λ none op e.
    at_opcode (λ (o : Op). IsBody o c.args.body.now → ⊥) code.Create (λ fields end. c.read_create.ensures.none none (number_at 0 fields) (number_at 1 fields) (number_at 2 fields) (text_at 4 fields)) op (e ∙ c.in-Create.is)

pub returns-in-Interrupt-clause-none : goal.returns-in-Interrupt-clause-none
returns-in-Interrupt-clause-none c = λ none op e.
    at_opcode (λ (o : Op). IsBody o c.args.body.now → ⊥) code.Interrupt (λ fields end. c.read_interrupt.ensures.none none (number_at 0 fields)) op (e ∙ c.in-Interrupt.is)

pub returns-in-BatchForget-clause-none : goal.returns-in-BatchForget-clause-none
returns-in-BatchForget-clause-none c = λ none op e.
    at_opcode (λ (o : Op). IsBody o c.args.body.now → ⊥) code.BatchForget (λ fields end. c.read_batch_forget.ensures.none none (pairs_of end)) op (e ∙ c.in-BatchForget.is)

pub returns-in-Rename2-clause-none : goal.returns-in-Rename2-clause-none
returns-in-Rename2-clause-none c = λ none op e.
    at_opcode (λ (o : Op). IsBody o c.args.body.now → ⊥) code.Rename2 (λ fields end. c.read_rename2.ensures.none none (number_at 0 fields) (number_at 1 fields) (text_at 3 fields) (text_at 4 fields)) op (e ∙ c.in-Rename2.is)
