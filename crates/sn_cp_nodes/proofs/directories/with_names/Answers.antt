use Rattle.sn_dir_change.proofs.ReadingLemmas.{cannot_read}
use Rattle.sn_cp_nodes.proofs.directories.with_names.Goals as goal

pub returns-clause-damaged : goal.returns-clause-damaged
returns-clause-damaged g c = λ told block is. cannot_read _ _ c.args.tree.now block (c.change.ensures.damaged told block is)
