use Rattle.sn_times_file.proofs.Lasting.{live_times_last, snapshot_times_last}
use Rattle.sn_times_file.proofs.laws.times_laws.Goals as goal

pub returns-clause-live : goal.returns-clause-live
returns-clause-live c = live_times_last

pub returns-clause-snapshots : goal.returns-clause-snapshots
returns-clause-snapshots c = snapshot_times_last
