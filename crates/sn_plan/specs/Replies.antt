-- What a reply gives.
use Rattle.std.specs.Prelude.{Result, Ok, Err}
use Rattle.sn_fuse_replies.specs.declared.errno.Errno.{Errno}
use Rattle.sn_fuse_replies.specs.declared.errno.Errno.TheVariants.{EIO}
use Rattle.sn_model.specs.declared.reply.FileStatus.{FileStatus}
use Rattle.sn_model.specs.declared.reply.Reply.{Reply}
use Rattle.sn_model.specs.declared.reply.Reply.TheVariants.{Done, Refused, Status}
use Rattle.sn_plan.specs.Errors.{errno_of}

-- that it is done
abbrev pub done : Reply → Result (Unit {0}) Errno
done Done = Ok tt
done (Refused refusal) = Err (errno_of refusal.errno)
done _ = Err EIO

-- what stat told
abbrev pub status : Reply → Result FileStatus Errno
status (Status s) = Ok s
status (Refused refusal) = Err (errno_of refusal.errno)
status _ = Err EIO
