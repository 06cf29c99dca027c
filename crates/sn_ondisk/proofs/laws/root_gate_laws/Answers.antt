use Rattle.sn_ondisk.proofs.RootLemmas.{closing_keeps, body_keeps, opening_changes, open_root_is_newest}
use Rattle.sn_ondisk.proofs.laws.root_gate_laws.Goals as goal

pub returns-clause-closing : goal.returns-clause-closing
returns-clause-closing c = closing_keeps

pub returns-clause-body : goal.returns-clause-body
returns-clause-body c = body_keeps

pub returns-clause-opening : goal.returns-clause-opening
returns-clause-opening c = opening_changes

pub returns-clause-opened : goal.returns-clause-opened
returns-clause-opened c = open_root_is_newest
