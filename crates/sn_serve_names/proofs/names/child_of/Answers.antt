use Rattle.std.proofs.Common.{ap, refl}
use Rattle.sn_plan.specs.Places.{child_at}
use Rattle.sn_plan.proofs.Following.{after, after_given, does_same, fails, fails_given, gives_it, passed_on}
use Rattle.sn_plan.proofs.Looked.{unwritten, written}
use Rattle.sn_serve_names.proofs.Steps.{image_missing, image_there}
use Rattle.sn_serve_names.specs.Names.{child_of}
use Rattle.sn_serve_names.proofs.names.child_of.Goals as goal

pub returns-in_err-name : goal.returns-in_err-name
unfolding child_of
returns-in_err-name g c = passed_on c.from_residual.result c.in_err-name.field-0.0 c.from_residual.ensures.1
    (fails_given _ (image_missing _ c.image_of.result c.image_of.ensures c.in_err-name.was))

pub returns-in_err-path : goal.returns-in_err-path
unfolding child_of
returns-in_err-path g c = after_given _ (image_there _ c.image_of.result c.image_of.ensures c.in_ok-name.was)
    (passed_on c.from_residual-in_err-path.result c.in_err-path.field-0.0 c.from_residual-in_err-path.ensures.1
    (fails _ (does_same (ap (child_at c.args.parent) c.as_slice.ensures.value) (unwritten c.child.ensures c.in_err-path.was))))

pub returns : goal.returns
unfolding child_of
returns g c = after_given _ (image_there _ c.image_of.result c.image_of.ensures c.in_ok-name.was)
    (after _ (does_same (ap (child_at c.args.parent) c.as_slice.ensures.value) (written c.child.ensures c.in_ok-path.was)) (gives_it refl))
