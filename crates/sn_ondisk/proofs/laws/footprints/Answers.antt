use Rattle.std.proofs.Common.{◌*◌, ◌∙◌, arith}
use Rattle.sn_ondisk.proofs.BlockLemmas.{bytes_at-same}
use Rattle.sn_ondisk.proofs.LogLemmas.{HasRecord-same, ready-same, ReplaysTo-same, no_later-same}
use Rattle.sn_ondisk.proofs.RootLemmas.{HasRoot-same, IsNewest-same}
use Rattle.sn_ondisk.proofs.ShownLemmas.{shown_depends}
use Rattle.sn_ondisk.proofs.laws.footprints.Goals as goal

pub returns-clause-blocks : goal.returns-clause-blocks
returns-clause-blocks c block bytes a b whole_a whole_b agrees is = bytes_at-same a b (8 * block) 8 (λ i from to. agrees.same i (from, to)) ∙ is

pub returns-clause-roots : goal.returns-clause-roots
returns-clause-roots c slot root a b whole_a whole_b agrees = HasRoot-same a b slot root (λ i from to. agrees.same i (from, to))

pub returns-clause-newest : goal.returns-clause-newest
returns-clause-newest c slot root a b whole_a whole_b agrees = IsNewest-same a b slot root (λ i from to. agrees.same i (from, to))

pub returns-clause-records : goal.returns-clause-records
returns-clause-records c base epoch place sequence p a b whole_a whole_b agrees = HasRecord-same a b base epoch place sequence p (λ i from to. agrees.same i (from, omega (arith, to)))

pub returns-clause-ready : goal.returns-clause-ready
returns-clause-ready c base epoch place ps a b whole_a whole_b agrees = ready-same a b base epoch place ps (λ i from to. agrees.same i (from, to))

pub returns-clause-replays : goal.returns-clause-replays
returns-clause-replays c base epoch ps a b whole_a whole_b agrees found = (found.0, ReplaysTo-same a b base epoch ps found.0 (λ i from to. agrees.same i (from, to)) found.1)

pub returns-clause-shown : goal.returns-clause-shown
returns-clause-shown c n slot root older newer a b whole_a whole_b agrees = shown_depends n a b slot root older newer agrees

pub returns-clause-no_later : goal.returns-clause-no_later
returns-clause-no_later c base epoch a b whole_a whole_b agrees = no_later-same a b base epoch (λ i from to. agrees.same i (from, to))
