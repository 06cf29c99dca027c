use Rattle.std.proofs.Common.{◌||◌, ◌==◌, ap, ◌∙◌}
use Rattle.sn_number_table.proofs.TableLemmas.{tells_make}
use Rattle.sn_number_table.proofs.table.NumberTable.make.Goals as goal

pub returns-clause-tells : goal.returns-clause-tells
returns-clause-tells c tree node tells =
    tells_make tree c.args.self.now.marks c.take.new.self.marks tells c.args.number node (λ n. c.take.ensures.taken n ∙ ap (λ b. n == c.args.number || b) (c.give_out.ensures.taken n))
