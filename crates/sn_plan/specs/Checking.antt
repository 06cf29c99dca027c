-- Who checks what a message may do, and whose calls are made for it.
use Rattle.std.specs.Prelude.{ℕ, Bool, false, ◌==◌, ◌&&◌, List, Option, None, Some, Result, if◌then◌else◌}
use Rattle.sn_callers.specs.Logins.{login_of}
use Rattle.sn_callers.specs.declared.login.Caller.{Caller}
use Rattle.sn_fuse_replies.specs.declared.errno.Errno.{Errno}
use Rattle.sn_model.specs.declared.call.Call.{Call}
use Rattle.sn_plan.specs.declared.checker.Checker.{Checker}
use Rattle.sn_plan.specs.declared.checker.Checker.TheVariants.{Server, System}

-- where the system has checked, all calls are user 0's, in group 0
abbrev pub caller_of : Checker → Caller → Caller
caller_of (Server maps_all) sender = sender
caller_of System sender = record { user = 0; group = 0 }

-- to whom is given what was made so: nobody, where it is theirs already
abbrev pub maker_of : Checker → Caller → Option Caller
maker_of (Server maps_all) sender = None
maker_of System sender = if sender.user == 0 && sender.group == 0 then None else Some sender

-- of user 0 no groups are looked at
abbrev pub maps_all : Checker → Bool
maps_all (Server all) = all
maps_all System = false

-- the login for a message of a sender, by what was told of its process
abbrev pub login_from : Checker → Caller → Option (List ℕ) → Result Call Errno
login_from checker sender text = login_of (caller_of checker sender) text (maps_all checker)
