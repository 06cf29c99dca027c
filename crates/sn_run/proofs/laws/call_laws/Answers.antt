use Rattle.sn_events.proofs.CountedLemmas.{calls_small}
use Rattle.sn_run.proofs.PointedLemmas.{fits_on_both}
use Rattle.sn_run.proofs.laws.call_laws.Goals as goal

pub returns-clause-small : goal.returns-clause-small
returns-clause-small c old new session call reply whole alone goes = calls_small c.payloads_fit.ensures old.held new.held session call whole alone old.state reply new.has_stopped goes.answers

pub returns-clause-fits : goal.returns-clause-fits
returns-clause-fits c = fits_on_both
