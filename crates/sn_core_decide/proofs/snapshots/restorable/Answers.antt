use Rattle.std.proofs.Common.{Ok, Err, refl}
use Rattle.std.proofs.lemmas.Result.{err_from_is_err_and}
use Rattle.sn_model.specs.SnapshotCalls.{snap_restore_outcome}
use Rattle.sn_core_decide.proofs.snapshots.restorable.Goals as goal

pub returns-in_err-user_0 : goal.returns-in_err-user_0
unfolding snap_restore_outcome
returns-in_err-user_0 g c told world shown =
    let p = err_from_is_err_and c.from_residual-in_err-user_0.result c.from_residual-in_err-user_0.ensures.1 in
    rw (p.1, p.2, c.in_ok-caller.ensures, ← c.in_ok-name.ensures, ← c.in_err-user_0.ensures) (refl {a = Err c.in_err-user_0.field-0.0})

pub returns-in_err-present : goal.returns-in_err-present
unfolding snap_restore_outcome
returns-in_err-present g c told world shown =
    let p = err_from_is_err_and c.from_residual-in_err-present.result c.from_residual-in_err-present.ensures.1 in
    let given = rw shown at (c.in_err-present.ensures told) in
    rw (p.1, p.2, c.in_ok-caller.ensures, ← c.in_ok-name.ensures, ← c.in_ok-user_0.ensures, ← given) (refl {a = Err c.in_err-present.field-0.0})

pub returns-in_err-closed_live : goal.returns-in_err-closed_live
unfolding snap_restore_outcome
returns-in_err-closed_live g c told world shown =
    let p = err_from_is_err_and c.from_residual-in_err-closed_live.result c.from_residual-in_err-closed_live.ensures.1 in
    let given = rw shown at (c.in_ok-present.ensures told) in
    rw (p.1, p.2, c.in_ok-caller.ensures, ← c.in_ok-name.ensures, ← c.in_ok-user_0.ensures, ← given, ← c.in_err-closed_live.ensures world) (refl {a = Err c.in_err-closed_live.field-0.0})

pub returns : goal.returns
unfolding snap_restore_outcome
returns g c told world shown =
    let given = rw shown at (c.in_ok-present.ensures told) in
    rw (c.in_ok-caller.ensures, ← c.in_ok-name.ensures, ← c.in_ok-user_0.ensures, ← given, ← c.in_ok-closed_live.ensures world) refl
