use Rattle.std.proofs.Common.{arith}
use Rattle.sn_bytes.proofs.Fields.{number_only}
use Rattle.sn_bytes.proofs.reader.Reader.u64.Goals as goal

pub returns-clause-only : goal.returns-clause-only
returns-clause-only c =
    number_only 8 c.u64_of.result c.args.self.now c.bytes.new.self (omega arith) (rw c.u64_of.ensures c.bytes.ensures.read)
