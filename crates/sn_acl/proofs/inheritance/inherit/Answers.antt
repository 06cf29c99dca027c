use Rattle.sn_acl.proofs.RightsLemmas.{common_mode-left, common_mode-right, mode_without-left}
use Rattle.sn_acl.proofs.inheritance.inherit.Goals as goal

pub returns-in_default-clause-within_mode : goal.returns-in_default-clause-within_mode
returns-in_default-clause-within_mode c = rw (c.from_mode.ensures, c.difference.ensures) (mode_without-left c.args.mode c.args.umask)

pub returns-clause-within_mode : goal.returns-clause-within_mode
returns-clause-within_mode c = rw (c.chmod.ensures.shown, c.intersection.ensures) (common_mode-right c.mode.result c.args.mode)

pub returns-clause-within_default : goal.returns-clause-within_default
returns-clause-within_default c =
    rw (c.in-Some.is, c.chmod.ensures.shown, c.intersection.ensures, ← c.mode.ensures) (common_mode-left c.mode.result c.args.mode)
