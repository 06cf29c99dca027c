use Rattle.sn_check.proofs.VerdictLemmas.{fault_has_none}
use Rattle.sn_check.proofs.verdict.verdict_of.Goals as goal

pub returns-in_default : goal.returns-in_default
returns-in_default c = fault_has_none c.args.fault c.in_default.not-Damaged
