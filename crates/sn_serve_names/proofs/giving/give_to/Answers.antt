use Rattle.std.proofs.Common.{ℕ, ap}
use Rattle.std.specs.Prelude.{Option}
use Rattle.sn_plan.proofs.Following.{and_then, does_same, stops}
use Rattle.sn_serve_names.specs.Messages.{chowns, gives_to}
use Rattle.sn_serve_names.proofs.giving.give_to.Goals as goal

pub returns-in_err-directory : goal.returns-in_err-directory
unfolding gives_to
returns-in_err-directory g c = stops _ c.from_residual.result c.from_residual.ensures.1 c.seen_at.ensures c.in_err-directory.was

pub returns : goal.returns
unfolding gives_to
returns g c = and_then _ c.seen_at.ensures c.in_ok-directory.was
    (does_same (ap (λ (o : Option ℕ). chowns c.args.path.now c.args.maker.user o) c.group_in.ensures) c.chown.ensures)
