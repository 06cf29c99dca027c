use Rattle.std.proofs.Common.{arith}
use Rattle.sn_record.proofs.Lengths.{length-fields, fields_most}
use Rattle.sn_record.proofs.payload.payload_size.Goals as goal

pub overflow_add-result : goal.overflow_add-result
overflow_add-result c = let most = fields_most c.args.change.now c.requires in omega (arith, c.fields_size.ensures)

pub returns-clause-value : goal.returns-clause-value
returns-clause-value c = omega (arith, c.fields_size.ensures, length-fields c.args.change.now)

pub returns-clause-most : goal.returns-clause-most
returns-clause-most c = omega (arith, c.fields_size.ensures, fields_most c.args.change.now c.requires)
