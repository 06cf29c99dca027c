use Rattle.std.proofs.Common.{true, Err, refl}
use Rattle.std.proofs.lemmas.Result.{err_from_is_err_and}
use Rattle.sn_model.specs.declared.call.Call.TheVariants as call
use Rattle.sn_desc.specs.InUse.{in_world}
use Rattle.sn_desc.specs.Sessions.{in_use_of}
use Rattle.sn_core_decide_rules.proofs.DecidedLemmas.{failed, view_of}
use Rattle.sn_core_decide_access.proofs.asking.decide_getacl.Goals as goal

pub returns-in_err-caller : goal.returns-in_err-caller
returns-in_err-caller g c =
    let p = err_from_is_err_and c.from_residual.result c.from_residual.ensures.1 in
    record {
      left = (c.requires, g.met.V.TreeView.follows_itself _, λ told. refl);
      decided = λ told world shows. rw (p.1, p.2, c.in_err-caller.ensures) (refl {a = Err c.in_err-caller.field-0.0});
      cause = rw (p.1, p.2) tt;
    }

pub returns-in_err-path : goal.returns-in_err-path
returns-in_err-path g c =
    let p = err_from_is_err_and c.from_residual-in_err-path.result c.from_residual-in_err-path.ensures.1 in
    record {
      left = (c.requires, g.met.V.TreeView.follows_itself _, λ told. refl);
      decided = λ told world shows. rw (p.1, p.2, c.in_ok-caller.ensures, c.in_err-path.ensures) (refl {a = Err c.in_err-path.field-0.0});
      cause = rw (p.1, p.2) tt;
    }

pub returns-in_err-acl-clause-decided : goal.returns-in_err-acl-clause-decided
returns-in_err-acl-clause-decided g c told world shows =
    let p = err_from_is_err_and c.from_residual-in_err-acl.result c.from_residual-in_err-acl.ensures.1 in
    let given = rw shows.trees_are at (c.in_err-acl.ensures.exact told) in
    rw (p.1, p.2) (failed (in_world (in_use_of c.args.sessions.now) world) c.args.session (call.GetAcl c.args.path.now c.args.kind) (tt, rw (c.in_ok-caller.ensures, c.in_ok-path.ensures) (refl {a = true})) _ (rw (c.in_ok-caller.ensures, c.in_ok-path.ensures) given))

pub returns-in_err-acl-clause-cause : goal.returns-in_err-acl-clause-cause
returns-in_err-acl-clause-cause g c =
    let p = err_from_is_err_and c.from_residual-in_err-acl.result c.from_residual-in_err-acl.ensures.1 in
    rw (p.1, p.2) (view_of c.in_err-acl.field-0.0 (λ f. g.V.TreeView.causes c.args.view.now c.getacl.new.view f) c.in_err-acl.ensures.cause)

pub returns-in_err-acl-clause-left : goal.returns-in_err-acl-clause-left
returns-in_err-acl-clause-left g c = c.getacl.ensures.left

pub returns-clause-left : goal.returns-clause-left
returns-clause-left g c = c.getacl.ensures.left

pub returns-clause-cause : goal.returns-clause-cause
returns-clause-cause g c = tt
