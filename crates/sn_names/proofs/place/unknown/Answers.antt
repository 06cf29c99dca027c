use Rattle.std.proofs.Common.{List, ℕ, Option, None, ap, ◌∙◌, get_or, rules}
use Rattle.sn_names.proofs.BeginLemmas.{everywhere}
use Rattle.sn_names.proofs.place.unknown.Goals as goal

pub returns-clause-none : goal.returns-clause-none
returns-clause-none c = λ i. ap (λ (rooms : List (Option ℕ)). get_or rooms i None) (c.in_ok-rooms.ensures.items_if_clones_equal (λ y is. search rules)) ∙ everywhere None c.args.count i
