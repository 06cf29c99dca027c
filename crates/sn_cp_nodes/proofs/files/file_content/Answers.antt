use Rattle.sn_tree.proofs.FaultLemmas.{leads_outside}
use Rattle.sn_cp_nodes.proofs.files.file_content.Goals as goal

pub returns-clause-damaged : goal.returns-clause-damaged
returns-clause-damaged g c = λ told block is can. can.lies (leads_outside (c.plan.ensures.damaged told block is))
