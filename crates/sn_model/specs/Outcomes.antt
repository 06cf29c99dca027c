-- The outcomes of calls.
use Rattle.std.specs.Prelude.{ℕ, Bool, true, false}
use Rattle.sn_limits.specs.declared.kind.Kind.{Kind}
use Rattle.sn_model.specs.declared.change.Change.{Change}
use Rattle.sn_model.specs.declared.change.Ownership.{Ownership}
use Rattle.sn_model.specs.declared.link.Link.{Link}
use Rattle.sn_model.specs.declared.reply.Reply.{Reply}
use Rattle.sn_model.specs.declared.reply.Reply.TheVariants as reply
pub use Rattle.sn_model.specs.declared.outcome.Pending.{Pending}
pub use Rattle.sn_model.specs.declared.outcome.Pending.TheVariants.{Nothing, Makes, Does}
pub use Rattle.sn_model.specs.declared.outcome.Caller.{Caller}
pub use Rattle.sn_model.specs.declared.outcome.Caller.TheVariants.{Stays, LogsIn, SetsUmask, LogsOut, Opens, OpensNew, Closes, Moves}
pub use Rattle.sn_model.specs.declared.outcome.AskedPoint.{AskedPoint}
pub use Rattle.sn_model.specs.declared.outcome.AskedPoint.TheVariants.{Unasked, Plain, Freezes, Thaws, Restores}
pub use Rattle.sn_model.specs.declared.outcome.Outcome.{Outcome}

-- a descriptor is opened
abbrev pub is_opening : Caller → Bool
is_opening (Opens fd home number flags) = true
is_opening (OpensNew fd flags) = true
is_opening effect = false

-- nothing changes
abbrev pub tells : Reply → Outcome
tells answer = record { charge = 0; change = Nothing; caller = Stays; told = answer; point = Unasked }

-- the session or its descriptors change, and nothing else
abbrev pub asks : Caller → Reply → Outcome
asks caller answer = record { charge = 0; change = Nothing; caller = caller; told = answer; point = Unasked }

-- the live tree changes, at this charge, and nothing else
abbrev pub does : ℕ → Change → Outcome
does charge c = record { charge = charge; change = Does c; caller = Stays; told = reply.Done; point = Unasked }

-- a new node, at this charge
abbrev pub makes : ℕ → Link → Kind → Ownership → Outcome
makes charge link kind o = record { charge = charge; change = Makes link.directory link.name kind o; caller = Stays; told = reply.Done; point = Unasked }

-- a whole point is made, at this charge, and nothing else changes but what it makes of the trees
abbrev pub points_for : ℕ → AskedPoint → Outcome
points_for charge asked = record { charge = charge; change = Nothing; caller = Stays; told = reply.Done; point = asked }

-- it is charged for nothing
abbrev pub points : AskedPoint → Outcome
points asked = points_for 0 asked
