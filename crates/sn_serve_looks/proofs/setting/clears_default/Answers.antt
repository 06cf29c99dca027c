use Rattle.std.proofs.Common.{◌∷◌, [], ℕ, List, ap₂}
use Rattle.sn_model.specs.declared.argument.AclKind.TheVariants.{Default}
use Rattle.sn_model.specs.declared.call.Call.TheVariants.{SetAcl}
use Rattle.sn_plan.specs.Asking.{login_by}
use Rattle.sn_plan.proofs.Following.{does_same, is_held, is_not_held, takes_it}
use Rattle.sn_serve_looks.specs.Messages.{clears_default}
use Rattle.sn_serve_names.specs.Messages.{does}
use Rattle.sn_serve_looks.proofs.setting.clears_default.Goals as goal

pub returns-in_err-path : goal.returns-in_err-path
unfolding clears_default
returns-in_err-path g c = is_not_held c.word.result c.from_residual.result c.word.ensures.err c.in_err-path.was c.from_residual.ensures.1

pub returns-in_err-acl : goal.returns-in_err-acl
unfolding clears_default
returns-in_err-acl g c = is_not_held c.word-2.result c.from_residual-in_err-acl.result c.word-2.ensures.err c.in_err-acl.was c.from_residual-in_err-acl.ensures.1

pub returns : goal.returns
unfolding clears_default
returns g c = takes_it (does_same (ap₂ (λ (a b : List ℕ). does (login_by c.args.asker.now) (SetAcl a Default b))
    (is_held c.args.path.now c.word.result c.in_ok-path.path c.word.ensures.word c.in_ok-path.was)
    (is_held (45 ∷ []) c.word-2.result c.in_ok-acl.acl c.word-2.ensures.word c.in_ok-acl.was)) c.does.ensures)
