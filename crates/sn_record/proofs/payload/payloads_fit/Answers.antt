use Rattle.std.proofs.Common.{arith}
use Rattle.sn_record.proofs.Lengths.{length-fields, fields_most}
use Rattle.sn_record.proofs.payload.payloads_fit.Goals as goal

pub returns : goal.returns
returns c = λ change fits. (omega arith, omega (arith, length-fields change, fields_most change fits))
