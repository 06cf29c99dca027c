-- What a reply lets an entry do.
use Rattle.std.specs.Prelude.{ℕ, nat_lt, if◌then◌else◌, Result, Ok, Err}
use Rattle.sn_limits.specs.declared.kind.Kind.{Kind}
use Rattle.sn_limits.specs.declared.kind.Kind.TheVariants.{File, Directory}
use Rattle.sn_model.specs.declared.call.Call.{Call}
use Rattle.sn_model.specs.declared.call.Call.TheVariants as call
use Rattle.sn_model.specs.declared.reply.Errno.TheVariants.{Eperm, Estopped}
use Rattle.sn_model.specs.declared.reply.Reply.{Reply}
use Rattle.sn_model.specs.declared.reply.Reply.TheVariants as reply
use Rattle.sn_import.specs.Refused.{is_expected}
use Rattle.sn_import.specs.declared.object.What.{What}
use Rattle.sn_import_calls.specs.declared.stop.Stop.{Stop}
use Rattle.sn_import_calls.specs.declared.stop.Stop.TheVariants.{Refused}

-- a descriptor has 32 bits
abbrev pub descriptor : ℕ → Result ℕ Stop
descriptor number = if nat_lt number 4294967296 then Ok number else Err (Refused Estopped)

abbrev pub opened : Reply → Result ℕ Stop
opened (reply.Number number) = descriptor number
opened _ = Err (Refused Estopped)

-- what a link is to has to be a file
abbrev pub file_seen : Kind → Result ℕ Stop
file_seen File = Ok 0
file_seen Directory = Err (Refused Eperm)

abbrev pub looked : Reply → Result ℕ Stop
looked (reply.Status status) = file_seen status.kind
looked _ = Err (Refused Estopped)

abbrev pub given : Call → Reply → Result ℕ Stop
given (call.Open path flags mode) told = opened told
given (call.Stat path) told = looked told
given _ told = Ok 0

-- The descriptor that a reply gives, 0 where it gives none; or it stops the entry, as a refusal does that isn't expected.
abbrev pub answer : What → Call → Reply → Result ℕ Stop
answer what c (reply.Refused refusal) = if is_expected what c refusal.errno then Ok 0 else Err (Refused refusal.errno)
answer what c told = given c told
