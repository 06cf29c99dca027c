use Rattle.std.proofs.Common.{arith}
use Rattle.std.proofs.lemmas.Grind.{common_steps}
use Rattle.sn_map.proofs.FreeLemmas.{is_next_free, none_free}
use Rattle.sn_map.proofs.block_map.Map.next_free.Goals as goal

pub returns-in-Some-clause-found : goal.returns-in-Some-clause-found
returns-in-Some-clause-found c = is_next_free c.args.self.now c.args.from c.in-Some.ahead (grind (arith, common_steps))

pub returns-in-None-clause-none : goal.returns-in-None-clause-none
returns-in-None-clause-none c = none_free c.args.self.now c.args.from (grind (arith, common_steps))
