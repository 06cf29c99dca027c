use Rattle.std.proofs.Common.{arith}
use Rattle.sn_tree.proofs.SpanLemmas.{span_some, span_most}
use Rattle.sn_tree.proofs.pointers.span_of.Goals as goal

pub pow-requires : goal.pow-requires
pow-requires c = omega (arith, span_most c.args.depth c.requires)

pub returns-clause-some : goal.returns-clause-some
returns-clause-some c = omega (arith, c.pow.ensures, span_some c.args.depth)

pub returns-clause-most : goal.returns-clause-most
returns-clause-most c = omega (arith, c.pow.ensures, span_most c.args.depth c.requires)
