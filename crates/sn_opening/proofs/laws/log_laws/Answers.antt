use Rattle.sn_opening.proofs.LogLemmas.{clearing_shows, newer_append_opens, newer_show, nothing_two_on, older_append_opens, older_show}
use Rattle.sn_opening.proofs.laws.log_laws.Goals as goal

pub returns-clause-older : goal.returns-clause-older
returns-clause-older c = older_append_opens

pub returns-clause-newer : goal.returns-clause-newer
returns-clause-newer c = newer_append_opens

pub returns-clause-older_show : goal.returns-clause-older_show
returns-clause-older_show c = older_show

pub returns-clause-newer_show : goal.returns-clause-newer_show
returns-clause-newer_show c = newer_show

pub returns-clause-clearing : goal.returns-clause-clearing
returns-clause-clearing c = clearing_shows

pub returns-clause-two : goal.returns-clause-two
returns-clause-two c = nothing_two_on
