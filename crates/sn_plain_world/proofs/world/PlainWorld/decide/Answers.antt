use Rattle.std.proofs.Common.{refl}
use Rattle.std.proofs.lemmas.Result.{err_from_is_err_and}
use Rattle.sn_plain_world.specs.Plain.{world_of}
use Rattle.sn_plain_world.proofs.ViewLemmas.{none_plain, plain_shows}
use Rattle.sn_plain_world.proofs.world.PlainWorld.decide.Goals as goal

pub returns-clause-decided : goal.returns-clause-decided
returns-clause-decided c = c.in_ok-decide.ensures.decided refl (world_of c.args.self.now) (plain_shows c.args.self.now c.view-view.result c.view-view.ensures)

pub returns-in_err-decide-clause-decided : goal.returns-in_err-decide-clause-decided
returns-in_err-decide-clause-decided c =
    let p = err_from_is_err_and c.from_residual.result c.from_residual.ensures.1 in
    rw (p.1, p.2) (none_plain (world_of c.args.self.now) c.args.session c.args.call.now _ (c.in_err-decide.ensures.decided refl (world_of c.args.self.now) (plain_shows c.args.self.now c.view-view.result c.view-view.ensures)))
