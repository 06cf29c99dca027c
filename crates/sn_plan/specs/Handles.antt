-- The handles of nodes and of open files.
use Rattle.std.specs.Prelude.{ℕ, is_none, ok_or, position}
use Rattle.sn_callers.specs.Files.{file_at}
use Rattle.sn_callers.specs.declared.open_files.OpenFile.{OpenFile}
use Rattle.sn_fuse_replies.specs.declared.errno.Errno.TheVariants.{EBADF, ENFILE}
use Rattle.sn_plan.specs.Plans.{Change, Gives, Keeps, Knows, Plan, given}

-- a change, with nothing to tell
abbrev pub turned : Change → Plan (Unit {0})
turned change = Keeps change (Gives tt)

-- the handle that the next open file gets
unfoldable pub vacant : Plan ℕ
vacant = Knows (λ kept. given (ok_or (position is_none kept.files) ENFILE))

-- what a handle stands for
unfoldable pub open_file : ℕ → Plan OpenFile
open_file handle = Knows (λ kept. given (ok_or (file_at kept.files handle) EBADF))
