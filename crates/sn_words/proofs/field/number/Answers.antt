use Rattle.std.proofs.Common.{◌^◌, lit≤}
use Rattle.std.proofs.lemmas.Result.{err_from_is_err_and}
use Rattle.sn_words.proofs.Numbers.{fault_narrower, number_narrower, number_too_large}
use Rattle.sn_words.proofs.field.number.Goals as goal

pub returns-in_err-number : goal.returns-in_err-number
returns-in_err-number c =
    let p = err_from_is_err_and c.from_residual.result c.from_residual.ensures.1 in
    rw (p.1, p.2) (fault_narrower c.in_err-number.field-0.0 (2 ^ 32) (2 ^ 64) c.args.word.now (lit≤ tt) (lit≤ tt) c.in_err-number.ensures)

pub returns-in-Ok : goal.returns-in-Ok
returns-in-Ok c =
    let p = c.in-Ok.ensures in
    rw p.1 (number_narrower (2 ^ 32) (2 ^ 64) c.args.word.now c.in_ok-number.number (lit≤ tt) (lit≤ tt) c.in_ok-number.ensures p.0)

pub returns-in-Err : goal.returns-in-Err
returns-in-Err c = number_too_large (2 ^ 32) (2 ^ 64) c.args.word.now c.in_ok-number.number (lit≤ tt) (lit≤ tt) c.in_ok-number.ensures c.in-Err.ensures
