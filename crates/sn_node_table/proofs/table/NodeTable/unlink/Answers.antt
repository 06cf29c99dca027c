use Rattle.sn_node_table.specs.Told.{table_of}
use Rattle.sn_node_table.proofs.IdleLemmas.{idle_unlinked}
use Rattle.sn_node_table.proofs.table.NodeTable.unlink.Goals as goal

pub returns-clause-idle : goal.returns-clause-idle
returns-clause-idle c other idle =
    let swept = c.sweep.ensures.idle other idle in
    idle_unlinked (table_of c.args.self.now) _ c.args.parent c.args.name.now other swept.1 c.take_name.ensures swept.0
