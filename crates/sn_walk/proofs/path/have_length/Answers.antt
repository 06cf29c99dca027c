use Rattle.std.proofs.Common.{rules, tests}
use Rattle.std.proofs.lemmas.Iterator.Splits.{YieldsList-from_slice_split}
use Rattle.std.proofs.lemmas.Iterator.Search.{all_from_yields_List}
use Rattle.std.specs.Prelude.{◌==◌}
use Rattle.sn_limits.specs.Names.{has_name_length}
use Rattle.sn_walk.proofs.path.have_length.Goals as goal

pub returns : goal.returns
returns c = all_from_yields_List has_name_length _ _ _ c.all.ensures.ran (YieldsList-from_slice_split _ (λ x. x == 47) c.args.text.now c.split.ensures.rest c.split.ensures.done c.split.ensures.closure (λ x b q k. search (rules, tests))) (λ x b q k. search (rules, tests))
