use Rattle.std.proofs.Common.{ℕ, List, ap}
use Rattle.sn_plan.specs.Asking.{maker_by}
use Rattle.sn_plan.proofs.Following.{and_then, does_same, stops}
use Rattle.sn_serve_names.specs.Messages.{gives_owner, makes_owned}
use Rattle.sn_serve_names.proofs.making.make_owned.Goals as goal

pub returns-in_err-make_directory : goal.returns-in_err-make_directory
unfolding makes_owned
returns-in_err-make_directory g c = stops _ c.from_residual.result c.from_residual.ensures.1 c.make_directory.ensures c.in_err-make_directory.was

pub returns : goal.returns
unfolding makes_owned
returns g c = and_then _ c.make_directory.ensures c.in_ok-make_directory.was
    (does_same (ap (λ (p : List ℕ). gives_owner (maker_by c.args.asker.now) c.args.parent p) c.path.ensures) c.give_owner.ensures)
