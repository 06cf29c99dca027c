use Rattle.sn_names.proofs.SearchLemmas.{has_all_settled}
use Rattle.sn_names.proofs.ordered.OrderedNumbers.settle.Goals as goal

pub returns : goal.returns
returns c = has_all_settled c.args.self.now.settled.items c.args.self.now.recent.items c.sort_unstable.new.self.items c.merge.new.settled.items c.clear.new.self.items
    c.sort_unstable.ensures.permutation (rw c.deref.ensures.value at c.in_ok-merge.ensures.kept)
