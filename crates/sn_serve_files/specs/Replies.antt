-- What the replies to calls on files give.
use Rattle.std.specs.Prelude.{ℕ, nat_lt, List, Result, Ok, Err, if◌then◌else◌}
use Rattle.sn_fuse_replies.specs.declared.errno.Errno.{Errno}
use Rattle.sn_fuse_replies.specs.declared.errno.Errno.TheVariants.{EFBIG, EIO}
use Rattle.sn_model.specs.declared.reply.Errno.{Errno as RefusedErrno}
use Rattle.sn_model.specs.declared.reply.Errno.TheVariants.{Einval}
use Rattle.sn_model.specs.declared.reply.Reply.{Reply}
use Rattle.sn_model.specs.declared.reply.Reply.TheVariants.{Content, Number, Refused}
use Rattle.sn_plan.specs.Errors.{errno_of}

-- descriptors and counts have 32 bits
abbrev pub small : ℕ → Result ℕ Errno
small n = if nat_lt n 4294967296 then Ok n else Err EIO

-- the descriptor of open, the count of write
abbrev pub number : Reply → Result ℕ Errno
number (Number n) = small n
number (Refused refusal) = Err (errno_of refusal.errno)
number _ = Err EIO

-- that open or lseek is done
abbrev pub numbered : Reply → Result (Unit {0}) Errno
numbered (Number n) = Ok tt
numbered (Refused refusal) = Err (errno_of refusal.errno)
numbered _ = Err EIO

-- an offset past the largest file is EINVAL to lseek, and EFBIG to write (POSIX.1-2017, write())
abbrev pub seek_errno : RefusedErrno → Errno
seek_errno Einval = EFBIG
seek_errno errno = errno_of errno

-- that lseek is done before a write
abbrev pub sought : Reply → Result (Unit {0}) Errno
sought (Number n) = Ok tt
sought (Refused refusal) = Err (seek_errno refusal.errno)
sought _ = Err EIO

-- the bytes of read
abbrev pub content : Reply → Result (List ℕ) Errno
content (Content bytes) = Ok bytes
content (Refused refusal) = Err (errno_of refusal.errno)
content _ = Err EIO
