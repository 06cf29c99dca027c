use Rattle.std.proofs.Common.{◌+◌, ◌-◌, length, refl, arith}
use Rattle.sn_bytes.specs.Bytes.{number_bytes}
use Rattle.sn_bytes.proofs.Fields.{length-number_bytes, puts_part}
use Rattle.sn_bytes.proofs.writer.put_u16.Goals as goal

pub returns-clause-bytes : goal.returns-clause-bytes
unfolding number_bytes
returns-clause-bytes c =
    puts_part c.args.block.now (number_bytes 2 c.args.number) c.write_u16.new.buf c.args.at (length c.args.block.now - c.args.at) 2 (c.args.at + 2) (omega arith) (omega arith) (length-number_bytes 2 c.args.number) refl c.write_u16.ensures
