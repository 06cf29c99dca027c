use Rattle.sn_opening.proofs.OpeningLemmas.{opens_to_one, opens_to_settled, replayed_in_turn, shown_opens, snapshots_are, standing_depends}
use Rattle.sn_opening.proofs.laws.opening_laws.Goals as goal

pub returns-clause-one : goal.returns-clause-one
returns-clause-one c = opens_to_one

pub returns-clause-settled : goal.returns-clause-settled
returns-clause-settled c = opens_to_settled

pub returns-clause-snapshots : goal.returns-clause-snapshots
returns-clause-snapshots c = snapshots_are

pub returns-clause-halves : goal.returns-clause-halves
returns-clause-halves c = replayed_in_turn

pub returns-clause-reach : goal.returns-clause-reach
returns-clause-reach c s r root changes world same stands = standing_depends s r root same changes world stands

pub returns-clause-shown : goal.returns-clause-shown
returns-clause-shown c = shown_opens
