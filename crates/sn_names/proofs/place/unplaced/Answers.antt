use Rattle.std.proofs.Common.{List, ℕ, ap, ◌∙◌, get_or}
use Rattle.sn_names.proofs.BeginLemmas.{everywhere}
use Rattle.sn_names.proofs.place.unplaced.Goals as goal

pub returns-clause-none : goal.returns-clause-none
returns-clause-none c = λ i. ap (λ (numbers : List ℕ). get_or numbers i 0) (c.in_ok-numbers.ensures.items_if_clones_equal (λ y is. is)) ∙ everywhere 0 c.args.count i
