use Rattle.std.proofs.Common.{rules, tests, ◌==◌}
use Rattle.std.proofs.lemmas.Iterator.{YieldsList-from_slice}
use Rattle.std.proofs.lemmas.Iterator.Search.{position_from_yields_List}
use Rattle.sn_walk.proofs.PieceLemmas.{first_piece-found, first_piece-none}
use Rattle.sn_walk.proofs.path.first_piece.Goals as goal

pub returns-in-Some : goal.returns-in-Some
returns-in-Some c = first_piece-found c.args.text.now _ c.in-Some.at (position_from_yields_List (λ x. x == 47) _ _ c.position.result c.position.ensures.ran (YieldsList-from_slice c.args.text.now cc) (λ x b q k. search (rules, tests))) c.in-Some.is

pub returns-in-None : goal.returns-in-None
returns-in-None c = first_piece-none c.args.text.now _ (position_from_yields_List (λ x. x == 47) _ _ c.position.result c.position.ensures.ran (YieldsList-from_slice c.args.text.now cc) (λ x b q k. search (rules, tests))) c.in-None.is
