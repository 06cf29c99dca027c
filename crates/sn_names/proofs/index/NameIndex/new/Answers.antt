use Rattle.sn_names.proofs.BeginLemmas.{begun}
use Rattle.sn_names.proofs.index.NameIndex.new.Goals as goal

pub returns-clause-told : goal.returns-clause-told
returns-clause-told c = λ s. begun c.args.sectors s c.args.tree.now c.in_ok-numbers.numbers.items c.in_ok-rooms.rooms.items _ c.in_ok-numbers.ensures.placed c.in_ok-rooms.ensures.none
