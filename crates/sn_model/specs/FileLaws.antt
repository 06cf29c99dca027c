-- What follows from the definitions of the calls on descriptors, in the words of their pages of POSIX.1-2017.
use Rattle.std.specs.Prelude.{◌≡◌, ℕ, ◌≤◌, true, [], List, Ok, Err, length}
use Rattle.sn_limits.specs.declared.limits.Limits.{Limits}
use Rattle.sn_model.specs.declared.reply.Errno.TheVariants.{Ebadf}
use Rattle.sn_model.specs.declared.reply.Refusal.{Refusal}
use Rattle.sn_model.specs.declared.reply.Reply.TheVariants.{Number}
use Rattle.sn_model.specs.Descriptors.{readable_at, writable_at}
use Rattle.sn_model.specs.FileCalls.{open_bytes, read_outcome, reads, write_offset, write_outcome}
use Rattle.sn_model.specs.Outcomes.{tells}
use Rattle.sn_model.specs.Tests.{plain}
use Rattle.sn_model.specs.World.{Descriptor, World}

-- A read is refused for its descriptor alone: what open() granted isn't asked for again.
abbrev pub ReadsAskForNoRight : Type 0
ReadsAskForNoRight = (world : World) (session fd count : ℕ) (r : Refusal) → read_outcome world session fd count ≡ Err r → r ≡ plain Ebadf

-- A read at the end of the file or past it gives no bytes, and leaves the offset.
abbrev pub ReadsPastTheEndGiveNothing : Type 0
ReadsPastTheEndGiveNothing = (world : World) (session fd count : ℕ) (d : Descriptor) → readable_at world.descriptors session fd ≡ Ok d → length (open_bytes world d) ≤ d.offset → read_outcome world session fd count ≡ Ok (reads fd d [])

-- A write of no bytes does nothing.
abbrev pub WritesOfNothingDoNothing : Type 0
WritesOfNothingDoNothing = (limits : Limits) (world : World) (session fd : ℕ) (d : Descriptor) → writable_at world.descriptors session fd ≡ Ok d → write_outcome limits world session fd [] ≡ Ok (tells (Number 0))

-- What appends is written at the end.
abbrev pub AppendsGoToTheEnd : Type 0
AppendsGoToTheEnd = (d : Descriptor) (bytes : List ℕ) → d.appends ≡ true → write_offset d bytes ≡ length bytes
