-- The numbers of the errors, as Linux has them.
use Rattle.std.specs.Prelude.{ℕ}
use Rattle.sn_fuse_replies.specs.declared.errno.Errno.{Errno}
use Rattle.sn_fuse_replies.specs.declared.errno.Errno.TheVariants.{EPERM, ENOENT, EIO, EBADF, EAGAIN, ENOMEM, EACCES, EBUSY, EEXIST, EXDEV, ENOTDIR, EISDIR, EINVAL, ENFILE, EMFILE, EFBIG, ENOSPC, EROFS, EMLINK, ERANGE, ENAMETOOLONG, ENOSYS, ENOTEMPTY, ENODATA, EOPNOTSUPP, ESTALE}

abbrev pub errno_number : Errno → ℕ
errno_number EPERM = 1
errno_number ENOENT = 2
errno_number EIO = 5
errno_number EBADF = 9
errno_number EAGAIN = 11
errno_number ENOMEM = 12
errno_number EACCES = 13
errno_number EBUSY = 16
errno_number EEXIST = 17
errno_number EXDEV = 18
errno_number ENOTDIR = 20
errno_number EISDIR = 21
errno_number EINVAL = 22
errno_number ENFILE = 23
errno_number EMFILE = 24
errno_number EFBIG = 27
errno_number ENOSPC = 28
errno_number EROFS = 30
errno_number EMLINK = 31
errno_number ERANGE = 34
errno_number ENAMETOOLONG = 36
errno_number ENOSYS = 38
errno_number ENOTEMPTY = 39
errno_number ENODATA = 61
errno_number EOPNOTSUPP = 95
errno_number ESTALE = 116
