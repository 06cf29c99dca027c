use Rattle.std.proofs.Common.{arith}
use Rattle.sn_bytes.proofs.Fields.{number_bytes-2}
use Rattle.sn_bytes.proofs.reader.u16_of.Goals as goal

pub returns : goal.returns
returns c = number_bytes-2 c.args.bytes.now c.read_u16.result c.requires (λ i. omega (arith, c.type_inv.bytes i)) c.read_u16.ensures
