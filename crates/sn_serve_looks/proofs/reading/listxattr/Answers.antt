use Rattle.std.proofs.Common.{◌∙◌, ap}
use Rattle.sn_plan.proofs.Following.{after, fails, gives_as, passed_on}
use Rattle.sn_plan.proofs.Looked.{unwritten, written}
use Rattle.sn_serve_looks.specs.Messages.{listxattr}
use Rattle.sn_serve_looks.specs.Xattrs.{sized}
use Rattle.sn_serve_looks.proofs.reading.listxattr.Goals as goal

pub returns-in_err-names : goal.returns-in_err-names
unfolding listxattr
returns-in_err-names g c = passed_on c.from_residual.result c.in_err-names.field-0.0 c.from_residual.ensures.1 (fails _ (unwritten c.names_of.ensures c.in_err-names.was))

pub returns : goal.returns
unfolding listxattr
returns g c = after _ (written c.names_of.ensures c.in_ok-names.was) (gives_as (c.sized.ensures ∙ ap (sized c.args.size) c.as_slice.ensures.value))
