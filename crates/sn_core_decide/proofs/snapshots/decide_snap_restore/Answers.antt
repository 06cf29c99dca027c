use Rattle.std.proofs.Common.{ℕ, ◌*◌, Ok, refl, sym, ap, ◌∙◌}
use Rattle.std.proofs.lemmas.Result.{err_from_is_err_and}
use Rattle.sn_limits.specs.Versions.{limits_written}
use Rattle.sn_model.specs.Seen.{SeenNames}
use Rattle.sn_core_decide.proofs.SnapshotLemmas.{passed_first}
use Rattle.sn_core_decide.proofs.snapshots.decide_snap_restore.Goals as goal

pub returns-in_err-name-clause-decided : goal.returns-in_err-name-clause-decided
returns-in_err-name-clause-decided g c told world shows =
    let p = err_from_is_err_and c.from_residual.result c.from_residual.ensures.1 in
    rw (p.1, p.2) (c.in_err-name.ensures told world shows.trees_are)

pub returns-in_err-name-clause-refused : goal.returns-in_err-name-clause-refused
returns-in_err-name-clause-refused g c told world shown asked =
    let p = err_from_is_err_and c.from_residual.result c.from_residual.ensures.1 in
    rw (p.1, p.2, c.in_err-name.ensures told world shown) refl

pub returns-in-Err-clause-decided : goal.returns-in-Err-clause-decided
returns-in-Err-clause-decided g c told world shows = (tt, passed_first _ _ _ (c.in_ok-name.ensures told world shows.trees_are))

pub returns-in-Err-clause-refused : goal.returns-in-Err-clause-refused
returns-in-Err-clause-refused g c told world shown asked = rw (c.in_ok-name.ensures told world shown) tt

pub returns-clause-decided : goal.returns-clause-decided
returns-clause-decided g c told world shows =
    let count = c.in-Ok.ensures.found told ∙ ap (λ (s : SeenNames). s.nameless c.in_ok-name.name) shows.names_are in
    let charge = c.restore_charge.ensures ∙ ap (λ (n : ℕ). limits_written.inode_charge * n) count in
    c.in_ok-name.ensures told world shows.trees_are ∙ (λ i. Ok (record ((sym c.points.ensures) i) { charge = (sym charge) i }))

pub returns-clause-refused : goal.returns-clause-refused
returns-clause-refused g c told world shown asked = rw (c.in_ok-name.ensures told world shown) tt
