use Rattle.sn_tree_read.proofs.LawLemmas.{cut_out, paths_lie, blocks_lie}
use Rattle.sn_tree_read.proofs.laws.read_laws.Goals as goal

pub returns-clause-parts : goal.returns-clause-parts
returns-clause-parts c = cut_out

pub returns-clause-paths : goal.returns-clause-paths
returns-clause-paths c = paths_lie

pub returns-clause-blocks : goal.returns-clause-blocks
returns-clause-blocks c = blocks_lie
