use Rattle.std.proofs.Common.{arith}
use Rattle.sn_bytes.proofs.Fields.{AreNumbers-from}
use Rattle.sn_layout.proofs.pointers.fitting.Goals as goal

pub returns-clause-fits : goal.returns-clause-fits
returns-clause-fits c = AreNumbers-from 4 c.args.numbers.now (λ i lt. omega (arith, c.type_inv.numbers i))
