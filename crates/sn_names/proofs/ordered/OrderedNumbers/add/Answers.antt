use Rattle.sn_names.proofs.SearchLemmas.{has_all_more}
use Rattle.sn_names.proofs.ordered.OrderedNumbers.add.Goals as goal

pub returns-in_ok-settle : goal.returns-in_ok-settle
returns-in_ok-settle c = λ n h. c.in_ok-settle.ensures n
    (has_all_more c.args.self.now.settled.items c.args.self.now.recent.items c.push.new.self.items c.args.number c.in_ok-push.ensures.items n h)

pub returns-else-len-ge-MOST_RECENT : goal.returns-else-len-ge-MOST_RECENT
returns-else-len-ge-MOST_RECENT c = has_all_more c.args.self.now.settled.items c.args.self.now.recent.items c.push.new.self.items c.args.number c.in_ok-push.ensures.items
