use Rattle.sn_names.proofs.IndexesLemmas.{rests_same}
use Rattle.sn_names.proofs.kept.KeptIndex.note.Goals as goal

pub invariant_of-self : goal.invariant_of-self
invariant_of-self c = record {
  rises = c.args.self.now.rises;
  reached = λ block none rests. c.args.self.now.reached block none (rests_same c.args.self.now.index c.note.new.self block c.note.ensures.tree c.note.ensures.numbers rests);
}
