use Rattle.std.proofs.Common.{subst}
use Rattle.sn_model.specs.declared.outcome.AskedPoint.{AskedPoint}
use Rattle.sn_events.specs.Pointing.{CanMake}
use Rattle.sn_fs.specs.Filesystem.{held}
use Rattle.sn_fs.proofs.fs.Fs.make_asked.Goals as goal

pub bring_back-requires-clause-there : goal.bring_back-requires-clause-there
bring_back-requires-clause-there g c told = subst (λ (asked : AskedPoint). CanMake asked (held c.args.self.now)) c.in-Restores.is (c.requires.can told)
