use Rattle.sn_model.proofs.UmaskLemmas.{umask_sets}
use Rattle.sn_model.proofs.laws.umask_sets_the_mask.Goals as goal

pub returns : goal.returns
returns c = λ limits old new session argument s mask reply whole by read step. umask_sets limits old new session argument s mask whole by read reply step
