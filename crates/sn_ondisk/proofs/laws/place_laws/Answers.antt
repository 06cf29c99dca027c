use Rattle.sn_ondisk.proofs.PlaceLemmas.{roots_lie, halves_are, epochs_alternate, areas_apart}
use Rattle.sn_ondisk.proofs.laws.place_laws.Goals as goal

pub returns-clause-roots : goal.returns-clause-roots
returns-clause-roots c = roots_lie

pub returns-clause-halves : goal.returns-clause-halves
returns-clause-halves c = halves_are

pub returns-clause-epochs : goal.returns-clause-epochs
returns-clause-epochs c = epochs_alternate

pub returns-clause-apart : goal.returns-clause-apart
returns-clause-apart c = areas_apart
