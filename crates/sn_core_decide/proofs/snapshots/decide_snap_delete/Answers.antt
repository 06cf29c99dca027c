use Rattle.std.proofs.Common.{Ok, Err, refl, sym, ap}
use Rattle.std.proofs.lemmas.Result.{err_from_is_err_and}
use Rattle.sn_model.specs.declared.outcome.Outcome.{Outcome}
use Rattle.sn_model.specs.SnapshotCalls.{snap_delete_outcome}
use Rattle.sn_core_decide.proofs.snapshots.decide_snap_delete.Goals as goal

pub returns-in_err-user_0 : goal.returns-in_err-user_0
unfolding snap_delete_outcome
returns-in_err-user_0 g c told world shown =
    let p = err_from_is_err_and c.from_residual-in_err-user_0.result c.from_residual-in_err-user_0.ensures.1 in
    rw (p.1, p.2, c.in_ok-caller.ensures, ← c.in_ok-name.ensures, ← c.in_err-user_0.ensures) (refl {a = Err c.in_err-user_0.field-0.0})

pub returns-in_err-present : goal.returns-in_err-present
unfolding snap_delete_outcome
returns-in_err-present g c told world shown =
    let p = err_from_is_err_and c.from_residual-in_err-present.result c.from_residual-in_err-present.ensures.1 in
    let given = rw shown at (c.in_err-present.ensures told) in
    rw (p.1, p.2, c.in_ok-caller.ensures, ← c.in_ok-name.ensures, ← c.in_ok-user_0.ensures, ← given) (refl {a = Err c.in_err-present.field-0.0})

pub returns-in_err-closed : goal.returns-in_err-closed
unfolding snap_delete_outcome
returns-in_err-closed g c told world shown =
    let p = err_from_is_err_and c.from_residual-in_err-closed.result c.from_residual-in_err-closed.ensures.1 in
    let given = rw shown at (c.in_ok-present.ensures told) in
    rw (p.1, p.2, c.in_ok-caller.ensures, ← c.in_ok-name.ensures, ← c.in_ok-user_0.ensures, ← given, ← c.in_err-closed.ensures world) (refl {a = Err c.in_err-closed.field-0.0})

pub returns : goal.returns
unfolding snap_delete_outcome
returns g c told world shown =
    let given = rw shown at (c.in_ok-present.ensures told) in
    rw (c.in_ok-caller.ensures, ← c.in_ok-name.ensures, ← c.in_ok-user_0.ensures, ← given, ← c.in_ok-closed.ensures world) (ap (λ (o : Outcome). Ok o) (sym c.points.ensures))
