use Rattle.std.proofs.Common.{ap, ◌∙◌, refl}
use Rattle.sn_node_table.specs.Tables.{Table}
use Rattle.sn_node_table.specs.Told.{table_of}
use Rattle.sn_node_table.proofs.table.NodeTable.give.Goals as goal

pub undo_add-requires : goal.undo_add-requires
undo_add-requires c = ap (λ (u : Table). u.next) (c.in-Err.ensures.err ∙ c.in_ok-old.ensures.ok)

pub returns-in-Err-clause-err : goal.returns-in-Err-clause-err
returns-in-Err-clause-err c = c.undo_add.ensures (table_of c.args.self.now) (c.in-Err.ensures.err ∙ c.in_ok-old.ensures.ok) c.in_ok-old.ensures.old refl c.in_ok-old.ensures.unused
