use Rattle.std.proofs.Common.{arith}
use Rattle.std.proofs.lemmas.Grind.{common_steps}
use Rattle.sn_map.proofs.BitsLemmas.{clears_bit}
use Rattle.sn_map.proofs.block_map.Map.clear_bit.Goals as goal

pub returns-clause-bits : goal.returns-clause-bits
returns-clause-bits c = clears_bit c.args.k _ _ (grind (arith, common_steps))
