use Rattle.sn_tree.proofs.ErrorLemmas.{memory_not_full, memory_not_tree}
use Rattle.sn_tree.proofs.pointers.replace_block.Goals as goal

pub returns-in_err-release-clause-own : goal.returns-in_err-release-clause-own
returns-in_err-release-clause-own c = memory_not_tree _ c.from_residual.ensures.1

pub returns-in_err-release-clause-full : goal.returns-in_err-release-clause-full
returns-in_err-release-clause-full c = λ e. absurd (memory_not_full _ c.from_residual.ensures.1 e)

pub returns-in_err-release-clause-filled : goal.returns-in_err-release-clause-filled
returns-in_err-release-clause-filled c = λ e. absurd (memory_not_full _ c.from_residual.ensures.1 e)
