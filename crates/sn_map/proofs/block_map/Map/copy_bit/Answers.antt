use Rattle.std.proofs.Common.{arith}
use Rattle.std.proofs.lemmas.Grind.{common_steps}
use Rattle.sn_map.proofs.BitsLemmas.{copies_bit}
use Rattle.sn_map.proofs.block_map.Map.copy_bit.Goals as goal

pub returns-clause-bits : goal.returns-clause-bits
returns-clause-bits c = copies_bit c.args.from c.args.to _ _ (grind (arith, common_steps))
