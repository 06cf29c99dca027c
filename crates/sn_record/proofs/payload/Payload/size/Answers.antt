use Rattle.std.proofs.Common.{arith}
use Rattle.sn_record.proofs.Lengths.{length-fields, fields_most}
use Rattle.sn_record.proofs.payload.Payload.size.Goals as goal

pub returns-clause-most : goal.returns-clause-most
returns-clause-most c =
    let change = c.self.inside.change.now in
    omega (arith, c.self.invariant.1, length-fields change, fields_most change c.self.invariant.0)
