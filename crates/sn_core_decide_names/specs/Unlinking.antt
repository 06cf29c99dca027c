-- The outcome of unlink, once a file was found under a name of a directory.
use Rattle.std.specs.Prelude.{ℕ, ◌+◌, ◌*◌, List, Result, Ok}
use Rattle.sn_limits.specs.declared.limits.Limits.{Limits}
use Rattle.sn_walk.specs.declared.object.Object.{Object}
use Rattle.sn_walk.specs.declared.walking.Found.{Found}
use Rattle.sn_walk.specs.Chains.{◌>>=◌}
use Rattle.sn_walk.specs.Objects.{number_of}
use Rattle.sn_walk.specs.Views.{ViewedTrees}
use Rattle.sn_model.specs.declared.outcome.Outcome.{Outcome}
use Rattle.sn_model.specs.declared.reply.Refusal.{Refusal}
use Rattle.sn_model.specs.declared.session.Session.{Session}
use Rattle.sn_model.specs.Calls.{last_name}
use Rattle.sn_model.specs.declared.change.Change.TheVariants.{Remove}
use Rattle.sn_model.specs.Outcomes.{does}
use Rattle.sn_model.specs.Tests.{sticky, writable_parent}

-- a name that is removed from a directory at a place: w(p); sticky
abbrev pub unlink_in : Limits → ViewedTrees → Session → List (List ℕ) → Object → ℕ → Found → Result Outcome Refusal
unlink_in limits trees session names at place found = do
  parent ← writable_parent trees session.cred 1 place at
  _ ← sticky session.cred 1 parent found
  Ok (does (3 * limits.inode_charge + limits.block_charge) (Remove (number_of at) (last_name names)))
