use Rattle.std.proofs.Common.{ap, refl, sym}
use Rattle.sn_plan.specs.Asking.{finds}
use Rattle.sn_plan.proofs.Following.{and_then, does_same, gives_it, refuses, stops}
use Rattle.sn_serve_names.specs.Messages.{absent, nothing_in}
use Rattle.sn_serve_names.proofs.moving.absent.Goals as goal

pub returns-in_err-found : goal.returns-in_err-found
unfolding absent
returns-in_err-found g c = stops _ c.from_residual.result c.from_residual.ensures.1 (does_same (ap finds c.path.ensures) c.find.ensures) c.in_err-found.was

pub returns-in-None : goal.returns-in-None
unfolding absent
returns-in-None g c = and_then _ (does_same (ap finds c.path.ensures) c.find.ensures) c.in_ok-found.was (does_same (ap nothing_in (sym c.in-None.is)) (gives_it refl))

pub returns-in-Some : goal.returns-in-Some
unfolding absent
returns-in-Some g c = and_then _ (does_same (ap finds c.path.ensures) c.find.ensures) c.in_ok-found.was (does_same (ap nothing_in (sym c.in-Some.is)) refuses)
