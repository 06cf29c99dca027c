use Rattle.std.proofs.Common.{List, get_or, ap, ◌∙◌}
use Rattle.sn_numbers.specs.declared.kept_back.Mark.{Mark}
use Rattle.sn_numbers.specs.declared.kept_back.Mark.TheVariants.{Free}
use Rattle.sn_numbers.specs.Marks.{is_kept, is_since}
use Rattle.sn_numbers.specs.Back.{held_of, since_of}
use Rattle.sn_numbers.proofs.MarkLemmas.{none_marked}
use Rattle.sn_numbers.proofs.kept_back.KeptBack.new.Goals as goal

pub returns-clause-held : goal.returns-clause-held
unfolding held_of
returns-clause-held c = λ n. ap (λ (marks : List Mark). is_kept (get_or marks n Free)) (c.in_ok-from_elem.ensures.items_if_clones_equal (λ y e. e)) ∙ ap is_kept (none_marked 65536 n)

pub returns-clause-since : goal.returns-clause-since
unfolding since_of
returns-clause-since c = λ n. ap (λ (marks : List Mark). is_since (get_or marks n Free)) (c.in_ok-from_elem.ensures.items_if_clones_equal (λ y e. e)) ∙ ap is_since (none_marked 65536 n)
