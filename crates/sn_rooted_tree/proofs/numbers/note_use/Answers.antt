use Rattle.std.proofs.Common.{refl}
use Rattle.sn_rooted_tree.proofs.NumberingLemmas.{notes_named, notes_unused}
use Rattle.sn_rooted_tree.proofs.numbers.note_use.Goals as goal

pub returns-in-Unused-clause-notes : goal.returns-in-Unused-clause-notes
returns-in-Unused-clause-notes c = notes_unused c.args.number c.args.found c.args.numbers.now c.in-Unused.is

pub returns-in-Named-clause-notes : goal.returns-in-Named-clause-notes
returns-in-Named-clause-notes c = notes_named c.args.number c.args.found c.args.numbers.now _ c.in-Named.is c.take.ensures.taken (λ n. refl) refl
