use Rattle.sn_names.proofs.SearchLemmas.{next_of_both}
use Rattle.sn_names.proofs.ordered.OrderedNumbers.next.Goals as goal

pub returns : goal.returns
returns c = next_of_both c.args.self.now.settled.items c.args.self.now.recent.items c.args.from c.next_in_order-settled.result c.next_among-recent.result c.earlier.result
    (rw c.deref.ensures.value at c.next_in_order-settled.ensures) (rw c.deref-2.ensures.value at c.next_among-recent.ensures)
    c.earlier.ensures.first c.earlier.ensures.second c.earlier.ensures.after
