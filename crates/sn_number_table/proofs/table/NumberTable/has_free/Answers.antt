use Rattle.std.proofs.Common.{is_some, sym, ap, ◌∙◌}
use Rattle.sn_number_table.proofs.FreeLemmas.{some_next}
use Rattle.sn_number_table.specs.Table.{kept_of}
use Rattle.sn_number_table.proofs.table.NumberTable.has_free.Goals as goal

pub returns : goal.returns
returns c tree tells = c.is_some.ensures ∙ ap is_some (c.next_number.ensures tree tells) ∙ sym (some_next tree (kept_of c.args.self.now) c.args.limits.now)
