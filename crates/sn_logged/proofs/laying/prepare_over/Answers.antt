use Rattle.sn_logged.proofs.laying.prepare_over.Goals as goal

pub returns-clause-found : goal.returns-clause-found
returns-clause-found g c told = c.prepare.ensures.found told (c.requires.shown told).whole.hierarchy
