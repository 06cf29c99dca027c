use Rattle.sn_cp.proofs.AroundLemmas.{stays_apart}
use Rattle.sn_cp.proofs.LogLemmas.{log_keeps}
use Rattle.sn_cp.proofs.ShowLemmas.{opening_shows, ordinary_show, steps_keep}
use Rattle.sn_cp.proofs.laws.shown_laws.Goals as goal

pub returns-clause-ordinary : goal.returns-clause-ordinary
returns-clause-ordinary c = ordinary_show

pub returns-clause-steps : goal.returns-clause-steps
returns-clause-steps c w stage result s slot root older newer third fourth old new sectors whole within before beside steps =
    steps_keep w whole s slot root older newer third fourth result old new sectors beside stage within before steps

pub returns-clause-opening : goal.returns-clause-opening
returns-clause-opening c w result s slot root older newer third fourth old new sectors whole stands beside steps =
    opening_shows w whole s slot root older newer third fourth result old new sectors beside stands steps

pub returns-clause-log : goal.returns-clause-log
returns-clause-log c = log_keeps

pub returns-clause-apart : goal.returns-clause-apart
returns-clause-apart c w slot epoch whole other = stays_apart w whole slot other epoch
