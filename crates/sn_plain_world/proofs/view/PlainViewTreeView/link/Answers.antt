use Rattle.std.proofs.Common.{sym, ap}
use Rattle.sn_walk.specs.Views.{ViewedTree}
use Rattle.sn_plain_world.proofs.ViewLemmas.{none_frozen}
use Rattle.sn_plain_world.proofs.view.PlainViewTreeView.link.Goals as goal

pub returns-in-Frozen-clause-found : goal.returns-in-Frozen-clause-found
returns-in-Frozen-clause-found c told = sym (ap (λ (t : ViewedTree). t.link c.args.directory c.args.name.now) (none_frozen _ _ _ c.in-Frozen.is))
