use Rattle.std.proofs.Common.{arith}
use Rattle.std.proofs.lemmas.Grind.{common_steps}
use Rattle.std.proofs.lemmas.List.Edits.{map_over_more}
use Rattle.sn_dir_change.specs.Standing.{seen_too}
use Rattle.sn_dir_change.proofs.standing.note_names.Goals as goal

pub loop-sought-preserved : goal.loop-sought-preserved
loop-sought-preserved c = grind (arith, common_steps, map_over_more (seen_too c.args.names.now))
