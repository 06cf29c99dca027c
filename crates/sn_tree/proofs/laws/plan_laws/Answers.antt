use Rattle.sn_tree.proofs.LawLemmas.{grown_end, cut_end, ended_pointers}
use Rattle.sn_tree.proofs.laws.plan_laws.Goals as goal

pub returns-clause-grown : goal.returns-clause-grown
returns-clause-grown c = grown_end

pub returns-clause-cut : goal.returns-clause-cut
returns-clause-cut c = cut_end

pub returns-clause-pointers : goal.returns-clause-pointers
returns-clause-pointers c = ended_pointers
