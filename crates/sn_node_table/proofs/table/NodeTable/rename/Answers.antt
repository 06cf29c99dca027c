use Rattle.std.proofs.Common.{subst}
use Rattle.sn_node_table.specs.Told.{table_of}
use Rattle.sn_node_table.specs.Tables.{Goes, Table}
use Rattle.sn_node_table.proofs.IdleLemmas.{idle_moved}
use Rattle.sn_node_table.proofs.SweepLemmas.{goes_on}
use Rattle.sn_node_table.proofs.table.NodeTable.rename.Goals as goal

pub returns-clause-goes : goal.returns-clause-goes
returns-clause-goes c =
    let gone = goes_on _ _ _ c.sweep.ensures.goes c.sweep-2.ensures.goes in
    subst (λ (w : Table). Goes w (table_of c.sweep-2.new.self)) c.in_ok-move_name.ensures.ok gone

pub returns-clause-idle : goal.returns-clause-idle
returns-clause-idle c other idle =
    let last = c.sweep-2.ensures.idle other idle in
    let first = c.sweep.ensures.idle other last.0 in
    idle_moved (table_of c.args.self.now) _ c.args.parent c.args.name.now c.args.directory c.args.other.now other first.1 last.1 c.in_ok-move_name.ensures.ok first.0
