use Rattle.std.proofs.Common.{◌≡◌, ℕ, false, List, None, refl, inl, inr, subst}
use Rattle.sn_model.specs.declared.call.Event.{Event}
use Rattle.sn_model.specs.declared.reply.Reply.{Reply}
use Rattle.sn_model.specs.declared.reply.Reply.TheVariants.{Done}
use Rattle.sn_model.specs.Machine.{Running}
use Rattle.sn_model.specs.World.{new_world}
use Rattle.sn_plain_world.specs.Plain.{numbered_of, world_of}
use Rattle.sn_plain_world.specs.PlainRuns.{Numbered, PlainRun, new_numbered}
use Rattle.sn_plain_world.proofs.StepLemmas.{machine_run}
use Rattle.sn_plain_world.proofs.plain.run_plain.Goals as goal

from_new : (first last : Numbered) (events : List Event) (replies : List Reply) → first.world ≡ new_world → ((n : ℕ) → first.kept n ≡ false) → PlainRun first events replies last → PlainRun new_numbered events replies last
from_new first last events replies world kept run = subst (λ (w : Numbered). PlainRun w events replies last) (λ i. record { world = world i; kept = λ n. kept n i }) run

pub returns-clause-run : goal.returns-clause-run
returns-clause-run c =
    let run = from_new _ (numbered_of c.answer.new.world) c.args.events.now c.answer.new.replies.items c.in-Ok-new.ensures.world c.in-Ok-new.ensures.kept c.answer.ensures in
    inr (inr (Running (world_of c.answer.new.world), machine_run _ _ _ _ run, None, inl refl, (Done, refl, refl)))

pub returns-clause-numbers : goal.returns-clause-numbers
returns-clause-numbers c = λ _.
    (numbered_of c.answer.new.world, from_new _ _ c.args.events.now c.answer.new.replies.items c.in-Ok-new.ensures.world c.in-Ok-new.ensures.kept c.answer.ensures)
