use Rattle.std.proofs.Common.{Bool, sym, ap, subst, ◌∙◌}
use Rattle.sn_model.specs.declared.reply.Reply.{Reply}
use Rattle.sn_model.specs.Machine.{refused}
use Rattle.sn_events.specs.Pointing.{errno_of_point}
use Rattle.sn_events.specs.Serving.{ServesAsked}
use Rattle.sn_events.proofs.AskLemmas.{asked_made, asked_unmade, can_make}
use Rattle.sn_fs.specs.Filesystem.{has_stopped, held}
use Rattle.sn_fs.proofs.fs.Fs.point_for.Goals as goal

pub make_asked-requires-clause-can : goal.make_asked-requires-clause-can
make_asked-requires-clause-can g c told =
    let h = held c.args.self.now in
    let asked = c.requires.asked told in
    can_make h asked.session asked.call c.args.outcome asked.asks asked.to (c.requires.sound.meant c.requires.running told).whole

pub returns-in-Ok-clause-answered : goal.returns-in-Ok-clause-answered
returns-in-Ok-clause-answered g c told session call asks to =
    let h = held c.args.self.now in
    let new = held c.make_asked.new.self in
    let o = c.args.outcome in
    subst (λ (b : Bool). ServesAsked o.told h session call new b) (sym c.in-Ok.ensures.stopped)
    (asked_made h new session call o asks to (c.requires.sound.meant c.requires.running told).whole (c.in-Ok.ensures.makes told))

pub returns-in-Err-clause-answered : goal.returns-in-Err-clause-answered
returns-in-Err-clause-answered g c told session call asks to =
    let h = held c.args.self.now in
    let new = held c.make_asked.new.self in
    let o = c.args.outcome in
    let fault = c.in-Err.fault in
    subst (λ (r : Reply). ServesAsked r h session call new (has_stopped c.make_asked.new.self)) (sym (c.refused.ensures ∙ ap refused c.errno_of.ensures))
    (subst (λ (b : Bool). ServesAsked (refused (errno_of_point fault)) h session call new b) (sym c.in-Err.ensures.stopped)
    (asked_unmade h new session call o fault asks to (c.requires.sound.meant c.requires.running told).whole c.requires.between (c.in-Err.ensures.makes told)))
