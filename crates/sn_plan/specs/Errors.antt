-- The errors of calls and looks, as answers have them.
use Rattle.sn_fuse_replies.specs.declared.errno.Errno.{Errno}
use Rattle.sn_fuse_replies.specs.declared.errno.Errno.TheVariants as errno
use Rattle.sn_model.specs.declared.reply.Errno.{Errno as Refused}
use Rattle.sn_model.specs.declared.reply.Errno.TheVariants as refused
use Rattle.sn_plan.specs.declared.errors.LookFault.{LookFault}
use Rattle.sn_plan.specs.declared.errors.LookFault.TheVariants.{Memory, Read}

abbrev pub fault_errno : LookFault → Errno
fault_errno Memory = errno.ENOMEM
fault_errno Read = errno.EIO

-- ELIMIT and ESTOPPED are this file system's own
abbrev pub errno_of : Refused → Errno
errno_of refused.Eacces = errno.EACCES
errno_of refused.Eperm = errno.EPERM
errno_of refused.Enoent = errno.ENOENT
errno_of refused.Enotdir = errno.ENOTDIR
errno_of refused.Eisdir = errno.EISDIR
errno_of refused.Eexist = errno.EEXIST
errno_of refused.Enotempty = errno.ENOTEMPTY
errno_of refused.Einval = errno.EINVAL
errno_of refused.Enametoolong = errno.ENAMETOOLONG
errno_of refused.Erofs = errno.EROFS
errno_of refused.Exdev = errno.EXDEV
errno_of refused.Ebusy = errno.EBUSY
errno_of refused.Emlink = errno.EMLINK
errno_of refused.Emfile = errno.EMFILE
errno_of refused.Ebadf = errno.EBADF
errno_of refused.Efbig = errno.EFBIG
errno_of refused.Elimit = errno.ENOSPC
errno_of refused.Enospc = errno.ENOSPC
errno_of refused.Enomem = errno.ENOMEM
errno_of refused.Eio = errno.EIO
errno_of refused.Estopped = errno.EIO
