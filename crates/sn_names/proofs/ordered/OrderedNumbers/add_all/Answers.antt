use Rattle.sn_names.proofs.SearchLemmas.{has_all_front}
use Rattle.sn_names.proofs.ordered.OrderedNumbers.add_all.Goals as goal

pub returns : goal.returns
returns c = has_all_front c.args.self.now.settled.items c.args.self.now.recent.items c.merge.new.settled.items c.args.numbers.now c.in_ok-merge.ensures.kept
