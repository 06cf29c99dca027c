use Rattle.sn_node_table.proofs.PathLemmas.{path_chain}
use Rattle.sn_node_table.proofs.laws.paths_are_chains.Goals as goal

pub returns : goal.returns
returns c t id text is = path_chain t id text is
