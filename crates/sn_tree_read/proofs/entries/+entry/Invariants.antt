use Rattle.sn_tree_read.proofs.entries.+entry.Given as goal

abbrev pub decreases-entry : goal.decreases-entry
decreases-entry g l = l.level
