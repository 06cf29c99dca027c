use Rattle.std.proofs.Common.{refl}
use Rattle.sn_number_table.specs.declared.mark.Mark.TheVariants.{KeptSince}
use Rattle.sn_number_table.proofs.TableLemmas.{tells_loss}
use Rattle.sn_number_table.proofs.table.NumberTable.lose_closed.Goals as goal

pub returns-clause-tells : goal.returns-clause-tells
returns-clause-tells c tree tells = tells_loss tree c.args.self.now.marks c.set.new.self tells c.args.number KeptSince c.set.ensures refl
