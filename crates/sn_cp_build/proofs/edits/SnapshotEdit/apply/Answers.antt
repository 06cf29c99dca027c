use Rattle.std.proofs.Common.{◌∙◌}
use Rattle.sn_cp_build.proofs.EditLemmas.{freezes_at, thaws_at}
use Rattle.sn_cp_build.proofs.edits.SnapshotEdit.apply.Goals as goal

pub returns-in-Freeze : goal.returns-in-Freeze
returns-in-Freeze c = freezes_at c.in-Freeze.bit c.args.map.now c.copy_bit0_to.new.self c.number.ensures.from_one c.args.self c.from.result c.in-Freeze.is (c.from.ensures ∙ c.number.ensures.value) c.copy_bit0_to.ensures.bits

pub returns-in-Thaw : goal.returns-in-Thaw
returns-in-Thaw c = thaws_at c.in-Thaw.bit c.args.map.now c.clear_bit.new.self c.number-in-Thaw.ensures.from_one c.args.self c.from-in-Thaw.result c.in-Thaw.is (c.from-in-Thaw.ensures ∙ c.number-in-Thaw.ensures.value) c.clear_bit.ensures.bits
