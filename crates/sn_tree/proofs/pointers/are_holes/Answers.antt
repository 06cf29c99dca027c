use Rattle.std.proofs.Common.{arith}
use Rattle.sn_layout.proofs.Fields.{AreNumbers-from}
use Rattle.sn_tree.proofs.pointers.are_holes.Goals as goal

pub returns-clause-are : goal.returns-clause-are
returns-clause-are c = record {
  count = c.told-pointers;
  fit = AreNumbers-from 4 c.args.pointers.now (λ i lt. omega (arith, c.fits-pointers i));
}
