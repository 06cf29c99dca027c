use Rattle.sn_check_log.proofs.TryLemmas.{keeps_after}
use Rattle.sn_check_log.proofs.trying.make_change.Goals as goal

pub returns-clause-keeps : goal.returns-clause-keeps
returns-clause-keeps c limits tree change known can none = keeps_after change c.args.live.now c.commit.new.self (c.commit.ensures.kept limits tree change known can) (c.commit.ensures.since limits tree change known can) none
