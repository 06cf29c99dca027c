use Rattle.std.proofs.Common.{ℕ, List, ap}
use Rattle.sn_plan.specs.Asking.{maker_by}
use Rattle.sn_plan.proofs.Following.{chosen, does_same, gives_ok, not_chosen}
use Rattle.sn_serve_names.specs.Messages.{gives_owner}
use Rattle.sn_serve_files.proofs.creating.give_new.Goals as goal

pub returns-then-was_there : goal.returns-then-was_there
returns-then-was_there g c = chosen _ c.if-was_there.true (gives_ok g.F.FileSystem.did c.args.server.now tt)

pub returns-else-was_there : goal.returns-else-was_there
returns-else-was_there g c = not_chosen _ c.if-was_there.false
    (does_same (ap (λ (p : List ℕ). gives_owner (maker_by c.args.asker.now) c.args.parent p) c.path.ensures) c.give_owner.ensures)
