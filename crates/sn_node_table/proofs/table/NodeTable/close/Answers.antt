use Rattle.sn_node_table.specs.Told.{table_of}
use Rattle.sn_node_table.proofs.IdleLemmas.{elsewhere}
use Rattle.sn_node_table.proofs.table.NodeTable.close.Goals as goal

pub returns-clause-idle : goal.returns-clause-idle
returns-clause-idle c other idle =
    let swept = c.sweep.ensures.idle other idle in
    elsewhere (table_of c.args.self.now) _ c.args.id _ other swept.1 c.drop_handle.ensures swept.0
