use Rattle.std.proofs.Common.{true, Err, refl}
use Rattle.std.proofs.lemmas.Result.{err_from_is_err_and}
use Rattle.sn_model.specs.declared.call.Call.TheVariants as call
use Rattle.sn_desc.specs.InUse.{in_world}
use Rattle.sn_desc.specs.Sessions.{in_use_of}
use Rattle.sn_core_decide_rules.proofs.DecidedLemmas.{gives_decided, view_if}
use Rattle.sn_core_decide_access.proofs.setting.decide_setacl.Goals as goal

pub returns-in_err-caller : goal.returns-in_err-caller
returns-in_err-caller g c =
    let p = err_from_is_err_and c.from_residual.result c.from_residual.ensures.1 in
    record {
      left = (c.requires, g.met.V.TreeView.follows_itself _, λ told. refl);
      decided = λ told world shows. rw (p.1, p.2, c.in_err-caller.ensures) (refl {a = Err c.in_err-caller.field-0.0});
      cause = rw (p.1, p.2) tt;
    }

pub returns-in_err-path : goal.returns-in_err-path
returns-in_err-path g c =
    let p = err_from_is_err_and c.from_residual-in_err-path.result c.from_residual-in_err-path.ensures.1 in
    record {
      left = (c.requires, g.met.V.TreeView.follows_itself _, λ told. refl);
      decided = λ told world shows. rw (p.1, p.2, c.in_ok-caller.ensures, c.in_err-path.ensures) (refl {a = Err c.in_err-path.field-0.0});
      cause = rw (p.1, p.2) tt;
    }

pub returns-in_err-acl : goal.returns-in_err-acl
returns-in_err-acl g c =
    let p = err_from_is_err_and c.from_residual-in_err-acl.result c.from_residual-in_err-acl.ensures.1 in
    record {
      left = (c.requires, g.met.V.TreeView.follows_itself _, λ told. refl);
      decided = λ told world shows. rw (p.1, p.2, c.in_ok-caller.ensures, c.in_ok-path.ensures, ← c.in_err-acl.ensures) (refl {a = Err c.in_err-acl.field-0.0});
      cause = rw (p.1, p.2) tt;
    }

pub returns-clause-left : goal.returns-clause-left
returns-clause-left g c = c.setacl.ensures.left

pub returns-clause-decided : goal.returns-clause-decided
returns-clause-decided g c told world shows =
    let given = rw shows.trees_are at (c.setacl.ensures.exact told) in
    rw c.decided.ensures (gives_decided (in_world (in_use_of c.args.sessions.now) world) c.args.session (call.SetAcl c.args.path.now c.args.kind c.args.acl.now) (tt, rw (c.in_ok-caller.ensures, c.in_ok-path.ensures, ← c.in_ok-acl.ensures) (refl {a = true})) c.setacl.result (rw (c.in_ok-caller.ensures, c.in_ok-path.ensures, ← c.in_ok-acl.ensures) given))

pub returns-clause-cause : goal.returns-clause-cause
returns-clause-cause g c = rw c.decided.ensures (view_if _ c.setacl.result c.setacl.ensures.cause)
