use Rattle.std.proofs.Common.{◌∙◌}
use Rattle.std.proofs.lemmas.List.Sorted.{IsNonDecreasingBy-from_sort}
use Rattle.sn_names.proofs.IndexesLemmas.{reached_all}
use Rattle.sn_names.proofs.kept.reach_of.Goals as goal

pub returns-clause-rises : goal.returns-clause-rises
returns-clause-rises c = IsNonDecreasingBy-from_sort (λ x. x) c.sort_unstable.new.self.items c.sort_unstable.ensures.sorted

pub returns-clause-all : goal.returns-clause-all
returns-clause-all c = reached_all c.args.index.now.numbers.items c.args.index.now.tree.pointers c.in_ok-reach.reach.items c.as_slice-2.result.now c.extend_from_slice.new.self.items c.sort_unstable.new.self.items
    (c.in_ok-reach.ensures.items ∙ c.as_slice.ensures.value) c.as_slice-2.ensures.value c.in_ok-extend_from_slice.ensures.items c.sort_unstable.ensures.permutation
