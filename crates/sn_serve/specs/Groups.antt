-- Which messages are answered in one place.
use Rattle.sn_fuse.specs.declared.operation.Op.{Op}
use Rattle.sn_fuse.specs.declared.operation.Op.TheVariants as op
use Rattle.sn_serve.specs.declared.groups.Group.{Group}
use Rattle.sn_serve.specs.declared.groups.Group.TheVariants as group

abbrev pub group_of : Op → Group
group_of (op.Lookup name) = group.Names
group_of (op.Symlink name target) = group.Names
group_of (op.Mkdir mode umask name) = group.Names
group_of (op.Unlink name) = group.Names
group_of (op.Rmdir name) = group.Names
group_of (op.Rename directory name other) = group.Names
group_of (op.Rename2 directory flags name other) = group.Names
group_of (op.Link other name) = group.Names
group_of (op.Access mask) = group.Names
group_of (op.Mknod mode device umask name) = group.Files
group_of (op.Open flags) = group.Files
group_of (op.Create flags mode umask name) = group.Files
group_of (op.Read span) = group.Files
group_of (op.Write handle offset flags bytes) = group.Files
group_of (op.Release handle) = group.Files
group_of (op.GetAttr flags handle) = group.Attributes
group_of (op.SetAttr new) = group.Attributes
group_of (op.GetXattr size name) = group.Attributes
group_of (op.SetXattr flags name value) = group.Attributes
group_of (op.ListXattr size) = group.Attributes
group_of (op.RemoveXattr name) = group.Attributes
group_of (op.OpenDir flags) = group.Directories
group_of (op.ReadDir span) = group.Directories
group_of (op.ReleaseDir handle) = group.Directories
group_of (op.Forget lookups) = group.Mount
group_of (op.BatchForget forgets) = group.Mount
group_of op.Statfs = group.Mount
group_of (op.Init major minor readahead flags) = group.Mount
group_of (op.Flush handle) = group.Mount
group_of (op.Fsync handle flags) = group.Mount
group_of (op.FsyncDir handle flags) = group.Mount
group_of (op.Interrupt unique) = group.Mount
