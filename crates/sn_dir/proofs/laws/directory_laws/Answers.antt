use Rattle.std.proofs.Common.{arith}
use Rattle.sn_dir.proofs.laws.directory_laws.Goals as goal

pub returns : goal.returns
returns c = λ sectors s tree sound all i within. record {
  there = record { lies = c.read_laws.ensures.blocks sectors s tree all i; no_hole = sound.no_hole i (omega (arith, within)) };
  spelled = sound.spelled i (omega (arith, within));
}
