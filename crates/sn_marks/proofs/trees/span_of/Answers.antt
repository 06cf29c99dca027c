use Rattle.std.proofs.Common.{arith}
use Rattle.sn_marks.proofs.WalkLemmas.{span_most}
use Rattle.sn_marks.proofs.trees.span_of.Goals as goal

pub pow-requires : goal.pow-requires
pow-requires c = omega (arith, span_most c.args.height c.requires)

pub overflow_mul-result : goal.overflow_mul-result
overflow_mul-result c = omega (arith, c.pow.ensures, span_most c.args.height c.requires)

pub returns-clause-most : goal.returns-clause-most
returns-clause-most c = omega (arith, c.pow.ensures, span_most c.args.height c.requires)
