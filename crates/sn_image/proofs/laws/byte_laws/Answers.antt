use Rattle.sn_image.proofs.ByteLemmas.{byte_found, tree_long, data_whole}
use Rattle.sn_image.proofs.laws.byte_laws.Goals as goal

pub returns-clause-places : goal.returns-clause-places
returns-clause-places c = byte_found

pub returns-clause-sizes : goal.returns-clause-sizes
returns-clause-sizes c = tree_long

pub returns-clause-disk : goal.returns-clause-disk
returns-clause-disk c = data_whole
