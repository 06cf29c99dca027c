use Rattle.sn_names.proofs.kept.KeptIndex.new.Goals as goal

pub invariant_of-result : goal.invariant_of-result
invariant_of-result c = record {
  rises = c.in_ok-reach.ensures.rises;
  reached = λ block none rests. none (c.in_ok-reach.ensures.all block rests.1);
}
