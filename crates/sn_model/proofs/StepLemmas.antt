-- A refused call leaves the world.
use Rattle.std.proofs.Common.{◌≡◌, ℕ, Result, Ok, Err, refl, inl, inr}
use Rattle.sn_limits.specs.declared.limits.Limits.{Limits}
use Rattle.sn_model.specs.declared.call.Call.{Call}
use Rattle.sn_model.specs.declared.reply.Refusal.{Refusal}
use Rattle.sn_model.specs.declared.reply.Reply.TheVariants.{Refused}
use Rattle.sn_model.specs.Outcomes.{Outcome}
use Rattle.sn_model.specs.World.{World}
use Rattle.sn_model.specs.Steps.{Becomes, Step, decision}
use Rattle.sn_model.proofs.DecidedLemmas.{decided_is}

pub becomes_refused : (limits : Limits) (old new : World) (session : ℕ) (c : Call) (d : Result Outcome Refusal) (refusal : Refusal) → decision limits old session c ≡ d → Becomes limits old session d (Refused refusal) new → new ≡ old
becomes_refused limits old new session c (Err r) refusal e h = h.1
becomes_refused limits old new session c (Ok o) refusal e h = absurd ((decided_is limits old session c o e).answers refusal h.0)

pub step_refused : (limits : Limits) (old new : World) (session : ℕ) (c : Call) (refusal : Refusal) → Step limits old session c (Refused refusal) new → new ≡ old
step_refused limits old new session c refusal (inl h) = becomes_refused limits old new session c (decision limits old session c) refusal refl h
step_refused limits old new session c refusal (inr h) = h.same
