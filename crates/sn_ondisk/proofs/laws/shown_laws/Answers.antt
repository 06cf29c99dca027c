use Rattle.sn_ondisk.proofs.ShownLemmas.{opening_shows, closing_shows, body_shows, append_shows, append_shows_newer}
use Rattle.sn_ondisk.proofs.laws.shown_laws.Goals as goal

pub returns-clause-opening : goal.returns-clause-opening
returns-clause-opening c = opening_shows

pub returns-clause-closing : goal.returns-clause-closing
returns-clause-closing c = closing_shows

pub returns-clause-body : goal.returns-clause-body
returns-clause-body c = body_shows

pub returns-clause-append : goal.returns-clause-append
returns-clause-append c = append_shows

pub returns-clause-append_newer : goal.returns-clause-append_newer
returns-clause-append_newer c = append_shows_newer
