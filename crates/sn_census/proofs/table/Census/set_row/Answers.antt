use Rattle.std.proofs.Common.{arith}
use Rattle.std.specs.Prelude.{slice_set}
use Rattle.sn_census.proofs.RowLemmas.{sets_row, unused_behind}
use Rattle.sn_census.proofs.table.Census.set_row.Goals as goal

pub invariant_of-self : goal.invariant_of-self
invariant_of-self c =
    let rows = c.self.inside.rows in
    let was = c.self.invariant in (
      was.0,
      (
        omega (arith, was.1.0, c.max-self-inside.ensures),
        unused_behind c.self.inside.used c.args.number c.max-self-inside.result c.args.row rows.items (slice_set rows.items c.args.number c.args.row)
            (sets_row rows.items c.args.number c.args.row (omega (arith, was.0, rows.ok.0)))
            (omega (arith, c.max-self-inside.ensures)) (omega (arith, c.max-self-inside.ensures)) was.1.1,
      ),
    )
