use Rattle.sn_node_table.proofs.IdleLemmas.{idle_made, idle_met, idle_opened}
use Rattle.sn_node_table.proofs.laws.nothing_is_idled.Goals as goal

pub returns-clause-made : goal.returns-clause-made
returns-clause-made c t parent name inode other idle = idle_made t parent name inode other idle

pub returns-clause-met : goal.returns-clause-met
returns-clause-met c t parent name inode other idle = idle_met t parent name inode other idle

pub returns-clause-opened : goal.returns-clause-opened
returns-clause-opened c t id other idle = idle_opened t id other idle
