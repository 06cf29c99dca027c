use Rattle.std.proofs.Common.{◌∙◌, sym}
use Rattle.sn_plan.proofs.Following.{after_given, and_then, fails_given, gives_as, passed_on, stops}
use Rattle.sn_serve_looks.specs.Messages.{getxattr}
use Rattle.sn_serve_looks.proofs.reading.getxattr.Goals as goal

pub returns-in_err-kind : goal.returns-in_err-kind
unfolding getxattr
returns-in_err-kind g c = passed_on c.from_residual.result c.in_err-kind.field-0.0 c.from_residual.ensures.1 (fails_given _ (sym c.kind_there.ensures ∙ c.in_err-kind.was))

pub returns-in_err-acl : goal.returns-in_err-acl
unfolding getxattr
returns-in_err-acl g c = after_given _ (sym c.kind_there.ensures ∙ c.in_ok-kind.was)
    (stops _ c.from_residual-in_err-acl.result c.from_residual-in_err-acl.ensures.1 c.acl_of.ensures c.in_err-acl.was)

pub returns : goal.returns
unfolding getxattr
returns g c = after_given _ (sym c.kind_there.ensures ∙ c.in_ok-kind.was)
    (and_then _ c.acl_of.ensures c.in_ok-acl.was (gives_as c.value_in.ensures))
