use Rattle.std.proofs.Common.{arith}
use Rattle.std.proofs.lemmas.Grind.{common_steps}
use Rattle.std.proofs.lemmas.List.Edits.{map_over_more}
use Rattle.sn_number_table.specs.Marks.{aged}
use Rattle.sn_number_table.proofs.mark.age.Goals as goal

pub loop-mark-preserved : goal.loop-mark-preserved
loop-mark-preserved c = grind (arith, common_steps, map_over_more aged)
