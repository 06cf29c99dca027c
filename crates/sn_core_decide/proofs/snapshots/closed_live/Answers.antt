use Rattle.std.proofs.Common.{Err, sym, ap, ◌∙◌}
use Rattle.sn_model.specs.declared.reply.Refusal.{Refusal}
use Rattle.sn_desc.specs.InUse.{in_world}
use Rattle.sn_desc.specs.Sessions.{in_use_of}
use Rattle.sn_core_decide.proofs.SnapshotLemmas.{busy_if, closed_live_is}
use Rattle.sn_core_decide.proofs.snapshots.closed_live.Goals as goal

pub returns-then-has_open : goal.returns-then-has_open
returns-then-has_open c world =
    let told = closed_live_is (in_world (in_use_of c.args.sessions.now) world) c.has_open.result c.has_open.ensures in
    ap (λ (r : Refusal). Err r) c.plain.ensures ∙ sym (told ∙ ap busy_if c.if-has_open.true)

pub returns : goal.returns
returns c world =
    let told = closed_live_is (in_world (in_use_of c.args.sessions.now) world) c.has_open.result c.has_open.ensures in
    sym (told ∙ ap busy_if c.if-has_open.false)
