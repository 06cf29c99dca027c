use Rattle.sn_snapshot_laws.proofs.ReadLemmas.{reads_alike}
use Rattle.sn_snapshot_laws.proofs.StayLemmas.{crashes_keep, events_keep, lives_keep, runs_keep}
use Rattle.sn_snapshot_laws.proofs.laws.snapshot_laws.Goals as goal

pub returns-clause-events : goal.returns-clause-events
returns-clause-events c = events_keep

pub returns-clause-runs : goal.returns-clause-runs
returns-clause-runs c = runs_keep

pub returns-clause-crashes : goal.returns-clause-crashes
returns-clause-crashes c = crashes_keep

pub returns-clause-lives : goal.returns-clause-lives
returns-clause-lives c = lives_keep

pub returns-clause-reads : goal.returns-clause-reads
returns-clause-reads c = reads_alike
