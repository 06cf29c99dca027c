use Rattle.std.proofs.Common.{true, Err, refl}
use Rattle.std.proofs.lemmas.Result.{err_from_is_err_and}
use Rattle.sn_model.specs.declared.call.Call.TheVariants as call
use Rattle.sn_desc.specs.InUse.{in_world}
use Rattle.sn_desc.specs.Sessions.{in_use_of}
use Rattle.sn_core_decide_rules.proofs.DecidedLemmas.{gives_decided, shown_seen, view_if}
use Rattle.sn_core_decide_rename.proofs.rename.decide_rename.Goals as goal

pub returns-in_err-caller : goal.returns-in_err-caller
returns-in_err-caller g c =
    let p = err_from_is_err_and c.from_residual.result c.from_residual.ensures.1 in
    record {
      left = (c.requires, g.met.V.TreeView.follows_itself _, λ told. refl);
      decided = λ told world shows. rw (p.1, p.2, c.in_err-caller.ensures) (refl {a = Err c.in_err-caller.field-0.0});
      cause = rw (p.1, p.2) tt;
    }

pub returns-in_err-old : goal.returns-in_err-old
returns-in_err-old g c =
    let p = err_from_is_err_and c.from_residual-in_err-old.result c.from_residual-in_err-old.ensures.1 in
    record {
      left = (c.requires, g.met.V.TreeView.follows_itself _, λ told. refl);
      decided = λ told world shows. rw (p.1, p.2, c.in_ok-caller.ensures, c.in_err-old.ensures) (refl {a = Err c.in_err-old.field-0.0});
      cause = rw (p.1, p.2) tt;
    }

pub returns-in_err-new : goal.returns-in_err-new
returns-in_err-new g c =
    let p = err_from_is_err_and c.from_residual-in_err-new.result c.from_residual-in_err-new.ensures.1 in
    record {
      left = (c.requires, g.met.V.TreeView.follows_itself _, λ told. refl);
      decided = λ told world shows. rw (p.1, p.2, c.in_ok-caller.ensures, c.in_ok-old.ensures, c.in_err-new.ensures) (refl {a = Err c.in_err-new.field-0.0});
      cause = rw (p.1, p.2) tt;
    }

pub returns-clause-left : goal.returns-clause-left
returns-clause-left g c = c.rename.ensures.left

pub returns-clause-decided : goal.returns-clause-decided
returns-clause-decided g c told world shows =
    let given = rw (shown_seen shows) at (c.rename.ensures.exact told) in
    rw c.decided.ensures (gives_decided (in_world (in_use_of c.args.sessions.now) world) c.args.session (call.Rename c.args.old.now c.args.new.now) (tt, rw (c.in_ok-caller.ensures, c.in_ok-old.ensures, c.in_ok-new.ensures) (refl {a = true})) c.rename.result (rw (c.in_ok-caller.ensures, c.in_ok-old.ensures, c.in_ok-new.ensures) given))

pub returns-clause-cause : goal.returns-clause-cause
returns-clause-cause g c = rw c.decided.ensures (view_if _ c.rename.result c.rename.ensures.cause)
