use Rattle.std.proofs.Common.{true, Err, refl, subst}
use Rattle.std.proofs.lemmas.Result.{err_from_is_err_and}
use Rattle.sn_model.specs.declared.call.Call.TheVariants as call
use Rattle.sn_limits.specs.Versions.{limits_written}
use Rattle.sn_walk.specs.Gives.{Gives}
use Rattle.sn_model.specs.declared.outcome.Outcome.{Outcome}
use Rattle.sn_model.specs.FileCalls.{open_as, open_outcome}
use Rattle.sn_model.specs.Seen.{Seen}
use Rattle.sn_desc.specs.InUse.{in_world}
use Rattle.sn_desc.specs.Sessions.{in_use_of}
use Rattle.sn_core_decide_rules.proofs.DecidedLemmas.{gives_decided, shown_seen, view_if}
use Rattle.sn_core_decide_files.proofs.open.decide_open.Goals as goal

pub returns-in_err-caller : goal.returns-in_err-caller
returns-in_err-caller g c =
    let p = err_from_is_err_and c.from_residual.result c.from_residual.ensures.1 in
    record {
      left = (c.requires, g.met.V.TreeView.follows_itself _, λ told. refl);
      decided = λ told world shows. rw (p.1, p.2, c.in_err-caller.ensures) (refl {a = Err c.in_err-caller.field-0.0});
      cause = rw (p.1, p.2) tt;
    }

pub returns-in_err-path : goal.returns-in_err-path
returns-in_err-path g c =
    let p = err_from_is_err_and c.from_residual-in_err-path.result c.from_residual-in_err-path.ensures.1 in
    record {
      left = (c.requires, g.met.V.TreeView.follows_itself _, λ told. refl);
      decided = λ told world shows. rw (p.1, p.2, c.in_ok-caller.ensures, c.in_err-path.ensures) (refl {a = Err c.in_err-path.field-0.0});
      cause = rw (p.1, p.2) tt;
    }

pub returns-in_err-flags : goal.returns-in_err-flags
returns-in_err-flags g c =
    let p = err_from_is_err_and c.from_residual-in_err-flags.result c.from_residual-in_err-flags.ensures.1 in
    record {
      left = (c.requires, g.met.V.TreeView.follows_itself _, λ told. refl);
      decided = λ told world shows. rw (p.1, p.2, c.in_ok-caller.ensures, c.in_ok-path.ensures, ← c.in_err-flags.ensures) (refl {a = Err c.in_err-flags.field-0.0});
      cause = rw (p.1, p.2) tt;
    }

pub returns-in_err-mode : goal.returns-in_err-mode
returns-in_err-mode g c =
    let p = err_from_is_err_and c.from_residual-in_err-mode.result c.from_residual-in_err-mode.ensures.1 in
    record {
      left = (c.requires, g.met.V.TreeView.follows_itself _, λ told. refl);
      decided = λ told world shows. rw (p.1, p.2, c.in_ok-caller.ensures, c.in_ok-path.ensures, ← c.in_ok-flags.ensures, ← c.in_err-mode.ensures) (refl {a = Err c.in_err-mode.field-0.0});
      cause = rw (p.1, p.2) tt;
    }

pub returns-in_err-fd : goal.returns-in_err-fd
unfolding open_outcome
returns-in_err-fd g c =
    let p = err_from_is_err_and c.from_residual-in_err-fd.result c.from_residual-in_err-fd.ensures.1 in
    record {
      left = (c.requires, g.met.V.TreeView.follows_itself _, λ told. refl);
      decided = λ told world shows. rw (p.1, p.2, c.in_ok-caller.ensures, c.in_ok-path.ensures, ← c.in_ok-flags.ensures, ← c.in_ok-mode.ensures, ← c.in_err-fd.ensures.next) (refl {a = Err c.in_err-fd.field-0.0});
      cause = rw (p.1, p.2) tt;
    }

pub returns-clause-left : goal.returns-clause-left
returns-clause-left g c = c.open.ensures.left

pub returns-clause-decided : goal.returns-clause-decided
unfolding open_outcome
returns-clause-decided g c told world shows =
    let given = subst (λ (s : Seen). Gives (λ (o : Outcome). o) c.open.result (open_as limits_written s c.in_ok-caller.caller.now c.in_ok-fd.fd c.in_ok-path.path c.in_ok-flags.flags c.in_ok-mode.mode)) (shown_seen shows) (c.open.ensures.exact told) in
    rw c.decided.ensures (gives_decided (in_world (in_use_of c.args.sessions.now) world) c.args.session (call.Open c.args.path.now c.args.flags c.args.mode) (tt, rw (c.in_ok-caller.ensures, c.in_ok-path.ensures, ← c.in_ok-flags.ensures, ← c.in_ok-mode.ensures) (refl {a = true})) c.open.result (rw (c.in_ok-caller.ensures, c.in_ok-path.ensures, ← c.in_ok-flags.ensures, ← c.in_ok-mode.ensures, ← c.in_ok-fd.ensures.next) given))

pub returns-clause-cause : goal.returns-clause-cause
returns-clause-cause g c = rw c.decided.ensures (view_if _ c.open.result c.open.ensures.cause)
