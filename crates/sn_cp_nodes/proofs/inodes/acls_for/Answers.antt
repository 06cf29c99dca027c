use Rattle.sn_cp_nodes.proofs.inodes.acls_for.Goals as goal

pub returns-in_default : goal.returns-in_default
returns-in_default c = c.acls_set.ensures c.args.was.now
