use Rattle.sn_logged.proofs.LaidLemmas.{can_be_laid}
use Rattle.sn_logged.proofs.preparing.prepare_possible.Goals as goal

pub returns-clause-found : goal.returns-clause-found
returns-clause-found g c told whole after applied =
    can_be_laid c.args.limits.now (g.T.Below.shows c.moves_of.new.tree) (g.T.Below.shows c.args.tree.now) (c.moves_of.ensures.left.2 told) c.args.change.now c.in-Ok.moves c.in_ok-newer.newer whole after applied
    (c.in_ok-newer.ensures.layer told) (c.in_ok-newer.ensures.shows told) (c.in_ok-newer.ensures.lies told) (c.in-Ok.ensures.found told)
