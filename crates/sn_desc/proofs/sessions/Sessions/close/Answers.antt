use Rattle.std.proofs.lemmas.Result.{err_from_is_err_and}
use Rattle.sn_desc.specs.Sessions.{in_use_of}
use Rattle.sn_desc.proofs.SessionLemmas.{closing_err, closing_ok}
use Rattle.sn_desc.proofs.sessions.Sessions.close.Goals as goal

pub returns-in_err-get-clause-told : goal.returns-in_err-get-clause-told
returns-in_err-get-clause-told c =
    let p = err_from_is_err_and c.from_residual.result c.from_residual.ensures.1 in
    rw (p.1, p.2) (closing_err (in_use_of c.args.self.now).descriptors c.args.session c.args.fd _ c.in_err-get.ensures)

pub returns-clause-told : goal.returns-clause-told
returns-clause-told c = closing_ok (in_use_of c.args.self.now).descriptors c.args.session c.args.fd _ _ c.in_ok-get.ensures c.close_if_open.ensures.released
