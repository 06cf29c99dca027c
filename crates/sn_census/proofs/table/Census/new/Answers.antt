use Rattle.std.proofs.Common.{ap, ◌∙◌, replicate, arith}
use Rattle.sn_census.specs.declared.table.Row.{Row}
use Rattle.sn_census.proofs.RowLemmas.{unused_none}
use Rattle.sn_census.proofs.table.Census.new.Goals as goal

pub invariant_of-result : goal.invariant_of-result
invariant_of-result c =
    let items = c.in_ok-from_elem.ensures.items_if_clones_equal (λ y is. is) ∙ ap (λ (r : Row). replicate 65536 r) c.unused.ensures in
    (c.in_ok-from_elem.ensures.len, (omega arith, unused_none 65536 c.in_ok-from_elem.field-0.items items))

pub returns : goal.returns
returns c = c.in_ok-from_elem.ensures.items_if_clones_equal (λ y is. is) ∙ ap (λ (r : Row). replicate 65536 r) c.unused.ensures
