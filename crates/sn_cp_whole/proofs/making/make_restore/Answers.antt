use Rattle.std.proofs.Common.{ap}
use Rattle.sn_model.specs.declared.outcome.AskedPoint.TheVariants.{Restores}
use Rattle.sn_cp_whole.proofs.making.make_restore.Goals as goal

pub returns-clause-point : goal.returns-clause-point
returns-clause-point g c told h world before rr can = c.make.ensures.restores told h world before c.args.name.now rr (ap (λ n. Restores n) c.copy.ensures) can
