use Rattle.std.proofs.Common.{Err}
use Rattle.std.proofs.lemmas.List.Sorted.{searched}
use Rattle.sn_names.proofs.SearchLemmas.{next_after}
use Rattle.sn_names.proofs.search.next_in_order.Goals as goal

pub returns-in-Err : goal.returns-in-Err
returns-in-Err c =
    let xs = c.args.numbers.now in
    let found = searched xs c.args.from (Err c.in-Err.at) c.in-Err.ensures.position (λ i j. c.requires i j 0) in
    next_after xs c.args.from c.in-Err.at c.requires found.1 found.2 c.if-at-numbers.true
