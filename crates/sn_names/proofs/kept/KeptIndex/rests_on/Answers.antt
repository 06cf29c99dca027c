use Rattle.std.proofs.Common.{Err}
use Rattle.std.proofs.lemmas.List.Sorted.{searched}
use Rattle.sn_names.proofs.IndexesLemmas.{not_among}
use Rattle.sn_names.proofs.kept.KeptIndex.rests_on.Goals as goal

pub returns-in-Err : goal.returns-in-Err
returns-in-Err c = λ is.
    let xs = c.args.self.now.reach.items in
    let found = searched xs c.args.block (Err c.in-Err.field-0) (rw c.as_slice.ensures.value at c.in-Err.ensures.position) (λ i j. c.args.self.now.rises i j 0) in
    c.args.self.now.reached c.args.block (not_among xs c.args.block c.in-Err.field-0 found.1 found.2)
