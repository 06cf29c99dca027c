-- A file with a name is closed.
use Rattle.std.proofs.Common.{◌≡◌, ℕ, Some, Ok, sym, ap, subst, ◌∙◌}
use Rattle.std.specs.FinMap as map
use Rattle.sn_limits.specs.declared.limits.Limits.{Limits}
use Rattle.sn_walk.proofs.ChainLemmas.{bind_ok}
use Rattle.sn_model.specs.declared.call.Call.TheVariants as call
use Rattle.sn_model.specs.declared.link.Link.{Link}
use Rattle.sn_model.specs.declared.outcome.Caller.TheVariants.{Closes}
use Rattle.sn_model.specs.declared.outcome.Outcome.{Outcome}
use Rattle.sn_model.specs.declared.reply.Reply.{Reply}
use Rattle.sn_model.specs.declared.reply.Reply.TheVariants as reply
use Rattle.sn_model.specs.Calls.{Ready, outcome_of, ready}
use Rattle.sn_model.specs.Descriptors.{closed, descriptor_at}
use Rattle.sn_model.specs.FileCalls.{close_outcome}
use Rattle.sn_model.specs.Outcomes.{asks}
use Rattle.sn_model.specs.Settling.{dropped}
use Rattle.sn_model.specs.Steps.{Comes}
use Rattle.sn_model.specs.Tests.{logged_in}
use Rattle.sn_model.specs.Tree.{Tree}
use Rattle.sn_model.specs.World.{Descriptor, World}
use Rattle.sn_model.specs.Worlds.{IsWorld}
use Rattle.sn_model.proofs.DecisionLemmas.{ok, same_ok}
use Rattle.sn_model.proofs.NameLemmas.{is_unnamed}
use Rattle.sn_import_laws.proofs.Held.{held_closed, stays}
use Rattle.sn_import_laws.proofs.Setting.{goes_on, ready_ok}
use Rattle.sn_import_laws.proofs.Steps.{IsDone}

abbrev close_ready : ℕ → Ready
close_ready fd = λ limits w. close_outcome w.descriptors 0 fd

closes_at : (old : World) (fd : ℕ) (o : Outcome) → close_outcome old.descriptors 0 fd ≡ Ok o → o ≡ asks (Closes fd) reply.Done
unfolding close_outcome
closes_at old fd o e =
    let p = bind_ok (descriptor_at old.descriptors 0 fd) (λ _. ok (asks (Closes fd) reply.Done)) o e in
    sym (same_ok (asks (Closes fd) reply.Done) o p.2)

closes : (limits : Limits) (old new : World) (fd : ℕ) (answer : Reply) → (d : IsDone limits old 0 (call.Close fd) answer new) → d.outcome ≡ asks (Closes fd) reply.Done
closes limits old new fd answer d =
    let r = bind_ok (ready old 0 (call.Close fd)) (outcome_of limits old) d.outcome d.decided in
    let p = bind_ok (logged_in old 0) (λ _. ready_ok (close_ready fd)) r.0 r.1 in
    closes_at old fd d.outcome (goes_on limits old (close_ready fd) r.0 d.outcome p.2 r.2)

-- its file has a name, so that it stays
pub close_put : (limits : Limits) (old new : World) (fd : ℕ) (descriptor : Descriptor) (link : Link) (answer : Reply) → IsWorld limits old → map.get old.descriptors (0, fd) ≡ Some descriptor
    → map.get old.live.links link ≡ Some descriptor.number → IsDone limits old 0 (call.Close fd) answer new → new ≡ record old { descriptors = closed old.descriptors 0 fd }
close_put limits old new fd descriptor link answer w opened_so named d =
    let c = subst (λ (o : Outcome). Comes limits old 0 o new) (closes limits old new fd answer d) d.comes in
    let tree : c.tree ≡ old.live = one_tree c.tree old.live (sym c.applied) in
    c.world ∙ ap (λ (t : Tree). dropped (record old { live = t; descriptors = closed old.descriptors 0 fd })) tree
    ∙ stays limits old old.live (closed old.descriptors 0 fd) w (record {
      files = λ m k z. (k, z);
      held = λ m z h. held_closed old.descriptors 0 fd descriptor opened_so m (λ is. is_unnamed old.live m z link (named ∙ ap (λ (n : ℕ). Some n) is)) h;
    })
  where
    one_tree : (a b : Tree) → Some a ≡ Some b → a ≡ b
    one_tree a b e = cc
