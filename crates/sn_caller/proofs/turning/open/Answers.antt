use Rattle.std.proofs.Common.{◌≡◌, true, sym, ap, subst, arith}
use Rattle.sn_model.specs.Descriptors.{is_held_in}
use Rattle.sn_changed.proofs.HoldsLemmas.{next_vacant, opened_holds}
use Rattle.sn_desc.specs.InUse.{InUse, descriptor_of, live_in}
use Rattle.sn_desc.specs.Sessions.{in_use_of}
use Rattle.sn_caller.proofs.LiveLemmas.{opened_live}
use Rattle.sn_caller.proofs.turning.open.Goals as goal

pub returns-in-Ok-clause-holds : goal.returns-in-Ok-clause-holds
returns-in-Ok-clause-holds c n held =
    let table = (in_use_of c.args.sessions.now).descriptors in
    let fd = c.in-Ok.field-0 in
    subst (λ (u : InUse). is_held_in u.descriptors n ≡ true) (sym c.in-Ok.ensures.ok) (opened_holds table c.args.session fd (descriptor_of c.args.file) (next_vacant table c.args.session fd (sym c.in-Ok.ensures.fd)) n held)

pub returns-in-Ok-clause-few : goal.returns-in-Ok-clause-few
returns-in-Ok-clause-few c =
    let table = (in_use_of c.args.sessions.now).descriptors in
    let fd = c.in-Ok.field-0 in
    omega (arith, ap (λ (u : InUse). live_in u.descriptors) c.in-Ok.ensures.ok, opened_live table c.args.session fd (descriptor_of c.args.file) (next_vacant table c.args.session fd (sym c.in-Ok.ensures.fd)))
