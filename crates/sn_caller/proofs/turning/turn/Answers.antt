use Rattle.std.proofs.Common.{◌+◌, ◌≤◌, ℕ, cond, length, sym, ap, subst, ◌∙◌, arith}
use Rattle.sn_model.specs.declared.outcome.Caller.{Caller}
use Rattle.sn_model.specs.Descriptors.{Descriptors}
use Rattle.sn_model.specs.Outcomes.{is_opening}
use Rattle.sn_model.specs.Steps.{with_caller}
use Rattle.sn_changed.proofs.HoldsLemmas.{StillHolds, moved_holds, same_holds}
use Rattle.sn_desc.specs.InUse.{InUse, in_world, live_in}
use Rattle.sn_desc.specs.Sessions.{in_use_of}
use Rattle.sn_desc.specs.declared.sessions.Sessions.{Sessions}
use Rattle.sn_caller.proofs.CallerLemmas.{none_released}
use Rattle.sn_caller.proofs.LiveLemmas.{moved_live}
use Rattle.sn_caller.proofs.turning.turn.Goals as goal
use Rattle.sn_caller.proofs.turning.turn.Goals.{in-Stays, in-LogsIn, in-SetsUmask, in-Opens, in-Moves}

abbrev table_of : Sessions → Descriptors
table_of s = (in_use_of s).descriptors

-- whoever held a file does so still
holds : (c : goal.After-new) → StillHolds (table_of c.args.sessions.now) (table_of c.match-caller.sessions)
holds c = elim c.match-caller.branch [
  | in-Stays w ↦ same_holds (table_of c.args.sessions.now) _ (ap table_of w.sessions-is)
  | in-LogsIn w ↦ same_holds (table_of c.args.sessions.now) _ (ap table_of w.sessions-is ∙ ap (λ (u : InUse). u.descriptors) w.login.ensures)
  | in-SetsUmask w ↦ same_holds (table_of c.args.sessions.now) _ (ap table_of w.sessions-is ∙ ap (λ (u : InUse). u.descriptors) w.set_umask.ensures)
  | in-Opens w ↦ subst (λ (t : Descriptors). StillHolds (table_of c.args.sessions.now) t) (sym (ap table_of w.sessions-is)) w.open.ensures.holds
  | in-Moves w ↦
      let is = ap table_of w.sessions-is ∙ ap (λ (u : InUse). u.descriptors) w.set_offset.ensures in
      subst (λ (t : Descriptors). StillHolds (table_of c.args.sessions.now) t) (sym is) (moved_holds (table_of c.args.sessions.now) c.args.session w.in-Moves.fd w.in-Moves.offset)
]

pub returns-clause-released : goal.returns-clause-released
returns-clause-released c world = none_released (in_world (in_use_of c.args.sessions.now) world) (in_world (in_use_of c.match-caller.sessions) world) _ (holds c)

-- and how many descriptors of live files there are then
more : (c : goal.After-new) → live_in (table_of c.match-caller.sessions) ≤ live_in (table_of c.args.sessions.now) + cond (is_opening c.args.caller) 1 0
more c = elim c.match-caller.branch [
  | in-Stays w ↦ omega (arith, ap (λ x. live_in (table_of x)) w.sessions-is)
  | in-LogsIn w ↦ omega (arith, ap (λ x. live_in (table_of x)) w.sessions-is, ap (λ (u : InUse). live_in u.descriptors) w.login.ensures)
  | in-SetsUmask w ↦ omega (arith, ap (λ x. live_in (table_of x)) w.sessions-is, ap (λ (u : InUse). live_in u.descriptors) w.set_umask.ensures)
  | in-Opens w ↦ omega (arith, ap (λ x. live_in (table_of x)) w.sessions-is, w.open.ensures.few, ap {B = ℕ} (λ (k : Caller). cond (is_opening k) 1 0) w.in-Opens.is)
  | in-Moves w ↦ omega (arith, ap (λ x. live_in (table_of x)) w.sessions-is, ap (λ (u : InUse). live_in u.descriptors) w.set_offset.ensures, moved_live (table_of c.args.sessions.now) c.args.session w.in-Moves.fd w.in-Moves.offset)
]

pub returns-clause-few : goal.returns-clause-few
returns-clause-few c = omega (arith, more c, ap length c.new.ensures)

pub returns-in-Closes-clause-world : goal.returns-in-Closes-clause-world
returns-in-Closes-clause-world c world can = c.close.ensures.world world ∙ sym (ap (λ (k : Caller). with_caller (in_world (in_use_of c.args.sessions.now) world) c.args.session k) c.in-Closes.is)
