use Rattle.sn_tree.proofs.DirtyLemmas.{taken_first}
use Rattle.sn_tree.proofs.pointers.take_before.Goals as goal

pub returns-clause-some : goal.returns-clause-some
returns-clause-some c = taken_first c.pop_front.result c.args.dirty.now.items c.pop_front.new.self.items c.args.end c.pop_front.ensures.items (c.is_clean.ensures.dirty c.if-is_clean.false)
