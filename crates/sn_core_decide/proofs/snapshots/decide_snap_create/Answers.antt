use Rattle.std.proofs.Common.{Ok, Err, refl, sym, ap}
use Rattle.std.proofs.lemmas.Result.{err_from_is_err_and}
use Rattle.sn_model.specs.declared.outcome.Outcome.{Outcome}
use Rattle.sn_model.specs.SnapshotCalls.{snap_create_outcome}
use Rattle.sn_core_decide.proofs.SnapshotLemmas.{listed_count}
use Rattle.sn_core_decide.proofs.snapshots.decide_snap_create.Goals as goal

pub returns-in_err-user_0-clause-decided : goal.returns-in_err-user_0-clause-decided
unfolding snap_create_outcome
returns-in_err-user_0-clause-decided g c told world shows =
    let p = err_from_is_err_and c.from_residual-in_err-user_0.result c.from_residual-in_err-user_0.ensures.1 in
    rw (p.1, p.2, c.in_ok-caller.ensures, ← c.in_ok-name.ensures, ← c.in_err-user_0.ensures) (refl {a = Err c.in_err-user_0.field-0.0})

pub returns-in_err-vacant-clause-decided : goal.returns-in_err-vacant-clause-decided
unfolding snap_create_outcome
returns-in_err-vacant-clause-decided g c told world shows =
    let p = err_from_is_err_and c.from_residual-in_err-vacant.result c.from_residual-in_err-vacant.ensures.1 in
    let given = rw shows.trees_are at (c.in_err-vacant.ensures told) in
    rw (p.1, p.2, c.in_ok-caller.ensures, ← c.in_ok-name.ensures, ← c.in_ok-user_0.ensures, ← given) (refl {a = Err c.in_err-vacant.field-0.0})

pub returns-in_err-room_beside-clause-decided : goal.returns-in_err-room_beside-clause-decided
unfolding snap_create_outcome
returns-in_err-room_beside-clause-decided g c told world shows =
    let p = err_from_is_err_and c.from_residual-in_err-room_beside.result c.from_residual-in_err-room_beside.ensures.1 in
    let given = rw shows.trees_are at (c.in_ok-vacant.ensures told) in
    let count = listed_count world _ _ _ c.as_slice.ensures (c.in_ok-there.ensures.found told) shows.names_are in
    rw (p.1, p.2, c.in_ok-caller.ensures, ← c.in_ok-name.ensures, ← c.in_ok-user_0.ensures, ← given, ← count, ← c.in_err-room_beside.ensures) (refl {a = Err c.in_err-room_beside.field-0.0})

pub returns-clause-decided : goal.returns-clause-decided
unfolding snap_create_outcome
returns-clause-decided g c told world shows =
    let given = rw shows.trees_are at (c.in_ok-vacant.ensures told) in
    let count = listed_count world _ _ _ c.as_slice.ensures (c.in_ok-there.ensures.found told) shows.names_are in
    rw (c.in_ok-caller.ensures, ← c.in_ok-name.ensures, ← c.in_ok-user_0.ensures, ← given, ← count, ← c.in_ok-room_beside.ensures) (ap (λ (o : Outcome). Ok o) (sym c.points.ensures))
