use Rattle.sn_core_decide.proofs.deciding.decide_of_session.Goals as goal

pub returns-in-Login-clause-decided : goal.returns-in-Login-clause-decided
returns-in-Login-clause-decided c world = rw c.in-Login.is (c.decide_login.ensures.decided world)

pub returns-in-Logout-clause-decided : goal.returns-in-Logout-clause-decided
returns-in-Logout-clause-decided c world = rw c.in-Logout.is (c.decide_logout.ensures world)

pub returns-in-Umask-clause-decided : goal.returns-in-Umask-clause-decided
returns-in-Umask-clause-decided c world = rw c.in-Umask.is (c.decide_umask.ensures world)

pub returns-in-Close-clause-decided : goal.returns-in-Close-clause-decided
returns-in-Close-clause-decided c world = rw c.in-Close.is (c.decide_close.ensures world)

pub returns-in-Seek-clause-decided : goal.returns-in-Seek-clause-decided
returns-in-Seek-clause-decided c world = rw c.in-Seek.is (c.decide_seek.ensures world)

pub returns-in-Ftruncate-clause-decided : goal.returns-in-Ftruncate-clause-decided
returns-in-Ftruncate-clause-decided c world = rw c.in-Ftruncate.is (c.decide_ftruncate.ensures world)

pub returns-in-Sync-clause-decided : goal.returns-in-Sync-clause-decided
returns-in-Sync-clause-decided c world = rw c.in-Sync.is (c.decide_sync.ensures world)
