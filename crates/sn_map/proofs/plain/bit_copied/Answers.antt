use Rattle.std.proofs.Common.{arith}
use Rattle.sn_map.proofs.BitsLemmas.{bit_moved}
use Rattle.sn_map.proofs.plain.bit_copied.Goals as goal

pub returns : goal.returns
returns c = bit_moved c.args.word c.args.from c.args.to (omega arith) c.requires.to
