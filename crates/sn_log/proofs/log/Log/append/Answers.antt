use Rattle.std.proofs.lemmas.Result.{err_from_is_err_and}
use Rattle.sn_log.proofs.AppendLemmas.{appends_done, appends_failing}
use Rattle.sn_log.proofs.log.Log.append.Goals as goal

pub returns-in_err-sectors-clause-disk : goal.returns-in_err-sectors-clause-disk
returns-in_err-sectors-clause-disk g c told =
    let q = err_from_is_err_and c.from_residual.result c.from_residual.ensures.1 in
    rw (← c.self.view_is) (appends_failing _ _ _ _ _ _ _ c.in_err-sectors.was q.1 (c.append_at.ensures.disk told))

pub returns-clause-disk : goal.returns-clause-disk
returns-clause-disk g c told = rw (← c.self.view_is) (appends_done _ _ _ _ _ _ _ c.in_ok-sectors.was (c.append_at.ensures.disk told))
