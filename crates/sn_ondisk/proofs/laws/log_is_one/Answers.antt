use Rattle.sn_ondisk.proofs.OneLemmas.{record_is_one, ready_replays, replay_is_one, epoch_is, later_replays}
use Rattle.sn_ondisk.proofs.laws.log_is_one.Goals as goal

pub returns-clause-record : goal.returns-clause-record
returns-clause-record c = record_is_one

pub returns-clause-ready : goal.returns-clause-ready
returns-clause-ready c = ready_replays

pub returns-clause-replay : goal.returns-clause-replay
returns-clause-replay c a base epoch end stop ps qs on_disk = replay_is_one a base epoch on_disk end stop ps qs

pub returns-clause-epoch : goal.returns-clause-epoch
returns-clause-epoch c a base epoch place sequence p on_disk fits = epoch_is a base epoch on_disk place sequence p fits

pub returns-clause-later : goal.returns-clause-later
returns-clause-later c = later_replays
