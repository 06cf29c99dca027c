use Rattle.std.proofs.Common.{◌∙◌, ap, rules}
use Rattle.sn_desc.specs.Seats.{files_under}
use Rattle.sn_desc.proofs.KeyLemmas.{none_seated}
use Rattle.sn_desc.proofs.seats.Seats.new.Goals as goal

pub returns : goal.returns
returns c = record { files = ap (files_under c.new.result) (c.in_ok-vec.ensures.items_if_clones_equal (λ y h. search rules)) ∙ none_seated c.new.result c.args.count }
