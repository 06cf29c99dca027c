use Rattle.std.proofs.Common.{ap, ◌∙◌}
use Rattle.sn_number_table.specs.Marks.{has_node}
use Rattle.sn_number_table.proofs.MarkLemmas.{gone_is}
use Rattle.sn_number_table.proofs.TableLemmas.{tells_loss}
use Rattle.sn_number_table.proofs.table.NumberTable.lose.Goals as goal

pub returns-clause-tells : goal.returns-clause-tells
returns-clause-tells c tree tells =
    tells_loss tree c.args.self.now.marks c.set.new.self tells c.args.number c.without_node-mark.result c.set.ensures (ap has_node c.without_node-mark.ensures ∙ gone_is c.get.result)
