use Rattle.std.proofs.lemmas.List.Sorted.{IsNonDecreasingBy-from_sort}
use Rattle.sn_names.proofs.SearchLemmas.{sorted_has_all}
use Rattle.sn_names.proofs.search.merge.Goals as goal

pub returns-in-Ok-clause-kept : goal.returns-in-Ok-clause-kept
returns-in-Ok-clause-kept c = sorted_has_all c.args.settled.now.items c.args.more.now c.sort.new.self.items c.extend_from_slice.new.self.items c.in_ok-extend_from_slice.ensures.items c.in-Ok.ensures.permutation

pub returns-in-Ok-clause-rises : goal.returns-in-Ok-clause-rises
returns-in-Ok-clause-rises c = IsNonDecreasingBy-from_sort (λ x. x) c.sort.new.self.items c.in-Ok.ensures.sorted
