use Rattle.std.proofs.Common.{◌∙◌}
use Rattle.sn_cp_build.proofs.EditLemmas.{restores_at}
use Rattle.sn_cp_build.proofs.edits.SnapshotEdit.take_base.Goals as goal

pub returns-in-Restore : goal.returns-in-Restore
returns-in-Restore c = restores_at c.in-Restore.bit c.args.map.now c.copy_bit_to_0.new.self c.args.self.now c.from.result c.number.ensures.from_one c.in-Restore.is (c.from.ensures ∙ c.number.ensures.value) c.copy_bit_to_0.ensures.bits
