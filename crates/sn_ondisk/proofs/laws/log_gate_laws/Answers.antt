use Rattle.sn_ondisk.proofs.LogLemmas.{gate_adds, open_gate_adds, clearing_stops, clearing_keeps, clearing_adds}
use Rattle.sn_ondisk.proofs.AppendLemmas.{append_adds}
use Rattle.sn_ondisk.proofs.laws.log_gate_laws.Goals as goal

pub returns-clause-adds_one_or_none : goal.returns-clause-adds_one_or_none
returns-clause-adds_one_or_none c = gate_adds

pub returns-clause-open_adds_one : goal.returns-clause-open_adds_one
returns-clause-open_adds_one c = open_gate_adds

pub returns-clause-append : goal.returns-clause-append
returns-clause-append c = append_adds

pub returns-clause-clearing_stops : goal.returns-clause-clearing_stops
returns-clause-clearing_stops c = clearing_stops

pub returns-clause-clearing_keeps : goal.returns-clause-clearing_keeps
returns-clause-clearing_keeps c = clearing_keeps

pub returns-clause-clearing_adds : goal.returns-clause-clearing_adds
returns-clause-clearing_adds c = clearing_adds
