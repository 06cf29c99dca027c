use Rattle.std.proofs.Common.{List, get_or, ap, ◌∙◌}
use Rattle.sn_number_table.specs.declared.mark.Mark.{Mark}
use Rattle.sn_number_table.specs.declared.mark.Mark.TheVariants.{Free}
use Rattle.sn_number_table.proofs.MarkLemmas.{one_everywhere}
use Rattle.sn_number_table.proofs.marks.Marks.new.Goals as goal

pub returns : goal.returns
returns c = λ n. ap (λ (marks : List Mark). get_or marks n Free) (c.in_ok-from_elem.ensures.items_if_clones_equal (λ y e. e)) ∙ one_everywhere Free 65536 n
