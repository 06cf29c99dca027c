-- What umask leaves.
use Rattle.std.proofs.Common.{◌≡◌, ℕ, Option, Some, Result, Ok, inl, inr, sym, ap, subst, ◌∙◌}
use Rattle.std.specs.Prelude.{slice_set}
use Rattle.sn_acl.specs.declared.modes.Mode.{Mode}
use Rattle.sn_limits.specs.declared.limits.Limits.{Limits}
use Rattle.sn_walk.specs.Chains.{◌>>=◌}
use Rattle.sn_model.specs.declared.call.Call.TheVariants as call
use Rattle.sn_model.specs.declared.reply.Refusal.{Refusal}
use Rattle.sn_model.specs.declared.reply.Reply.{Reply}
use Rattle.sn_model.specs.declared.reply.Reply.TheVariants as answer
use Rattle.sn_model.specs.declared.session.Session.{Session}
use Rattle.sn_model.proofs.Deciding as deciding
use Rattle.sn_model.specs.Calls.{outcome_of}
use Rattle.sn_model.specs.Outcomes.{Outcome, SetsUmask, asks}
use Rattle.sn_model.specs.Steps.{Becomes, Step, decision, masked, with_caller, with_live}
use Rattle.sn_model.specs.Tests.{logged_in, new_mode_argument}
use Rattle.sn_model.specs.Tree.{Tree}
use Rattle.sn_model.specs.World.{World}
use Rattle.sn_model.proofs.ChainLemmas.{some_same}
use Rattle.sn_model.specs.Settling.{dropped}
use Rattle.sn_model.specs.Worlds.{IsWorld}
use Rattle.sn_model.proofs.SeatLemmas.{seat_of}
use Rattle.sn_model.proofs.DroppedLemmas.{all_held, dropped_same}
use Rattle.sn_model.proofs.DecisionLemmas.{ok}

module _ (limits : Limits) (old new : World) (session argument : ℕ) (s : Session) (mask : Mode) (whole : IsWorld limits old) (by : logged_in old session ≡ Ok s) (read : new_mode_argument argument ≡ Ok mask) where
  decides : decision limits old session (call.Umask argument) ≡ ok (asks (SetsUmask mask) (answer.Mode s.umask))
  decides =
      ap (λ (r : Result Session Refusal). (r >>= (λ x. new_mode_argument argument >>= (λ bits. ok (deciding.umask x bits)))) >>= outcome_of limits old) by
      ∙ ap (λ (r : Result Mode Refusal). (r >>= (λ bits. ok (deciding.umask s bits))) >>= outcome_of limits old) read

  pub umask_sets : (reply : Reply) → Step limits old session (call.Umask argument) reply new → (reply ≡ answer.Mode s.umask) × (new ≡ record old { sessions = slice_set old.sessions session (Some (record s { umask = mask })) })
  umask_sets reply (inr h) = absurd h.takes
  umask_sets reply (inl h) =
      let b = subst (λ (d : Result Outcome Refusal). Becomes limits old session d reply new) decides h in
      let live : b.1.tree ≡ old.live = sym (some_same _ _ b.1.applied) in
      let made : new ≡ dropped (with_caller old session (SetsUmask mask)) = b.1.world ∙ ap (λ (t : Tree). dropped (with_caller (with_live old t) session (SetsUmask mask))) live in
      let world : new ≡ with_caller old session (SetsUmask mask) = made ∙ dropped_same limits (with_caller old session (SetsUmask mask)) (all_held limits old whole) in
      (b.0, world ∙ ap (λ (o : Option (Option Session)). record old { sessions = slice_set old.sessions session (masked mask o) }) (seat_of old session s by))
