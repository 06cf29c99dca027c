-- Calls and looks as plans.
use Rattle.std.specs.Prelude.{ℕ, List, Option, Result}
use Rattle.std.specs.Option.{option_copied}
use Rattle.sn_callers.specs.declared.login.Caller.{Caller}
use Rattle.sn_fuse_replies.specs.declared.errno.Errno.{Errno}
use Rattle.sn_model.specs.declared.call.Call.{Call}
use Rattle.sn_model.specs.declared.call.Call.TheVariants.{Logout, Umask}
use Rattle.sn_model.specs.declared.reply.Reply.{Reply}
use Rattle.sn_model.specs.declared.reply.Reply.TheVariants.{Refused}
use Rattle.sn_walk.specs.declared.view.Attributes.{Attributes}
use Rattle.sn_plan.specs.Checking.{login_from, maker_of}
use Rattle.sn_plan.specs.Plans.{Plan, Gives, Takes, Calls, Counts, Finds, Sees, given, ◌>>=◌}
use Rattle.sn_plan.specs.declared.asking.Asker.{Asker}
use Rattle.sn_plan.specs.declared.file_system.Space.{Space}

-- a call of a session, which gives its reply
unfoldable pub calls : ℕ → Call → Plan Reply
calls session call = Calls session call (λ reply. Gives reply)

unfoldable pub finds : List ℕ → Plan (Option ℕ)
finds path = Finds path (λ found. Gives found)

unfoldable pub sees : ℕ → Plan (Option Attributes)
sees number = Sees number (λ seen. Gives seen)

unfoldable pub counts : Plan Space
counts = Counts (λ space. Gives space)

-- session 1 is the caller's, for one call
unfoldable pub as_caller : Call → Plan Reply
as_caller call = do
  reply ← calls 1 call
  _ ← calls 1 Logout
  Gives reply

-- what follows a login; where that is refused, its reply is the one that counts
abbrev pub once_in : Plan Reply → Reply → Plan Reply
once_in next (Refused refusal) = Gives (Refused refusal)
once_in next reply = next

-- a login, a call and a logout
unfoldable pub asked : Call → Call → Plan Reply
asked login call = calls 1 login >>= once_in (as_caller call)

-- the same, where the login is known
unfoldable pub asks : Result Call Errno → Call → Plan Reply
asks login call = Takes (given login >>= (λ l. asked l call))

-- the same with the umask of its message
abbrev pub as_masked : ℕ → Call → Plan Reply
as_masked mask call = do
  _ ← calls 1 (Umask mask)
  as_caller call

-- a login, the umask, a call and a logout
unfoldable pub asked_masked : Call → ℕ → Call → Plan Reply
asked_masked login mask call = calls 1 login >>= once_in (as_masked mask call)

unfoldable pub asks_masked : Result Call Errno → ℕ → Call → Plan Reply
asks_masked login mask call = Takes (given login >>= (λ l. asked_masked l mask call))

-- the login of who asks, and to whom is given what is made for them
abbrev pub login_by : Asker → Result Call Errno
login_by asker = login_from asker.checker asker.sender (option_copied asker.status)

abbrev pub maker_by : Asker → Option Caller
maker_by asker = maker_of asker.checker asker.sender
