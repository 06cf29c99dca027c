use Rattle.std.proofs.Common.{arith}
use Rattle.sn_bytes.proofs.Fields.{number_bytes-8}
use Rattle.sn_bytes.proofs.reader.u64_of.Goals as goal

pub returns : goal.returns
returns c = number_bytes-8 c.args.bytes.now c.read_u64.result c.requires (λ i. omega (arith, c.type_inv.bytes i)) c.read_u64.ensures
