use Rattle.sn_image.proofs.PointLemmas.{node_found, name_found}
use Rattle.sn_image.proofs.laws.image_laws.Goals as goal

pub returns-clause-nodes : goal.returns-clause-nodes
returns-clause-nodes c = node_found

pub returns-clause-names : goal.returns-clause-names
returns-clause-names c = name_found
