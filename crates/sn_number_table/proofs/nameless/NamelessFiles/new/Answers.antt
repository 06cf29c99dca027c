use Rattle.std.proofs.Common.{Bool, false, List, get_or, ap, ◌∙◌}
use Rattle.sn_number_table.proofs.MarkLemmas.{one_everywhere}
use Rattle.sn_number_table.proofs.nameless.NamelessFiles.new.Goals as goal

pub returns : goal.returns
returns c = λ n. ap (λ (listed : List Bool). get_or listed n false) (c.in_ok-from_elem.ensures.items_if_clones_equal (λ y e. e)) ∙ one_everywhere false 65536 n
