use Rattle.std.proofs.Common.{subst}
use Rattle.sn_model.specs.World.{World}
use Rattle.sn_core_decide_rules.specs.Decided.{Decides, HidesNoRefusal}
use Rattle.sn_core_decide_rules.proofs.DecidedLemmas.{shown_world}
use Rattle.sn_core_decide.proofs.deciding.decide.Goals as goal

pub returns-clause-decided : goal.returns-clause-decided
returns-clause-decided g c told world shows =
    subst (λ (w : World). Decides w c.args.session c.args.call.now c.decide_shown.result) (shown_world shows) (c.decide_shown.ensures.decided told world shows)

pub returns-clause-refused : goal.returns-clause-refused
returns-clause-refused g c told world shows =
    subst (λ (w : World). HidesNoRefusal w c.args.session c.args.call.now c.decide_shown.result) (shown_world shows) (c.decide_shown.ensures.refused told world shows.trees_are)

pub returns-clause-left : goal.returns-clause-left
returns-clause-left g c = c.decide_shown.ensures.left

pub returns-clause-cause : goal.returns-clause-cause
returns-clause-cause g c = c.decide_shown.ensures.cause

pub returns-clause-numbers : goal.returns-clause-numbers
returns-clause-numbers g c = c.decide_shown.ensures.numbers
