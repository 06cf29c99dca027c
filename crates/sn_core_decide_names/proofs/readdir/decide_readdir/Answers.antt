use Rattle.std.proofs.Common.{true, ℕ, List, Ok, Err, refl, sym, ap, ◌∙◌}
use Rattle.std.proofs.lemmas.Result.{err_from_is_err_and}
use Rattle.sn_model.specs.declared.call.Call.TheVariants as call
use Rattle.sn_model.specs.declared.outcome.Outcome.{Outcome}
use Rattle.sn_model.specs.declared.reply.Reply.TheVariants.{Names}
use Rattle.sn_model.specs.Outcomes.{tells}
use Rattle.sn_model.specs.Seen.{SeenNames}
use Rattle.sn_desc.specs.InUse.{in_world}
use Rattle.sn_desc.specs.Sessions.{in_use_of}
use Rattle.sn_core_decide_rules.proofs.DecidedLemmas.{failed, lacking, shown_seen, view_later, view_of}
use Rattle.sn_core_decide_names.proofs.readdir.decide_readdir.Goals as goal

pub returns-in_err-caller : goal.returns-in_err-caller
returns-in_err-caller g c =
    let p = err_from_is_err_and c.from_residual.result c.from_residual.ensures.1 in
    record {
      left = (c.requires, g.met.V.TreeView.follows_itself _, λ told. refl);
      decided = λ told world shows. rw (p.1, p.2, c.in_err-caller.ensures) (refl {a = Err c.in_err-caller.field-0.0});
      cause = rw (p.1, p.2) tt;
    }

pub returns-in_err-path : goal.returns-in_err-path
returns-in_err-path g c =
    let p = err_from_is_err_and c.from_residual-in_err-path.result c.from_residual-in_err-path.ensures.1 in
    record {
      left = (c.requires, g.met.V.TreeView.follows_itself _, λ told. refl);
      decided = λ told world shows. rw (p.1, p.2, c.in_ok-caller.ensures, c.in_err-path.ensures) (refl {a = Err c.in_err-path.field-0.0});
      cause = rw (p.1, p.2) tt;
    }

pub returns-in_err-directory-clause-decided : goal.returns-in_err-directory-clause-decided
returns-in_err-directory-clause-decided g c told world shows =
    let p = err_from_is_err_and c.from_residual-in_err-directory.result c.from_residual-in_err-directory.ensures.1 in
    let given = rw (shown_seen shows) at (c.in_err-directory.ensures.exact told) in
    rw (p.1, p.2) (failed (in_world (in_use_of c.args.sessions.now) world) c.args.session (call.Readdir c.args.path.now) (tt, rw (c.in_ok-caller.ensures, c.in_ok-path.ensures) (refl {a = true})) _ (rw (c.in_ok-caller.ensures, c.in_ok-path.ensures) given))

pub returns-in_err-directory-clause-cause : goal.returns-in_err-directory-clause-cause
returns-in_err-directory-clause-cause g c =
    let p = err_from_is_err_and c.from_residual-in_err-directory.result c.from_residual-in_err-directory.ensures.1 in
    rw (p.1, p.2) (view_of c.in_err-directory.field-0.0 (λ f. g.V.TreeView.causes c.args.view.now c.readdir.new.view f) c.in_err-directory.ensures.cause)

pub returns-in_err-names-clause-decided : goal.returns-in_err-names-clause-decided
returns-in_err-names-clause-decided g c told world shows =
    let p = err_from_is_err_and c.from_residual-in_err-names.result c.from_residual-in_err-names.ensures.1 in
    rw (p.1, p.2) (lacking (in_world (in_use_of c.args.sessions.now) world) c.args.session (call.Readdir c.args.path.now) (tt, rw (c.in_ok-caller.ensures, c.in_ok-path.ensures) (refl {a = true})) _)

pub returns-in_err-names-clause-cause : goal.returns-in_err-names-clause-cause
returns-in_err-names-clause-cause g c =
    let p = err_from_is_err_and c.from_residual-in_err-names.result c.from_residual-in_err-names.ensures.1 in
    rw (p.1, p.2) (view_later c.in_err-names.field-0.0 (λ f. g.V.TreeView.causes c.readdir.new.view c.listed.new.self f) (λ f. g.V.TreeView.causes c.args.view.now c.listed.new.self f) (λ f h. g.met.V.TreeView.causes_later _ _ _ f c.readdir.ensures.left.1 h) c.in_err-names.ensures.cause)

pub returns-in_err-names-clause-left : goal.returns-in_err-names-clause-left
returns-in_err-names-clause-left g c = (c.listed.ensures.left.0, g.met.V.TreeView.follows_on _ _ _ c.readdir.ensures.left.1 c.listed.ensures.left.1, λ told. c.listed.ensures.left.2 told ∙ c.readdir.ensures.left.2 told)

pub returns-clause-left : goal.returns-clause-left
returns-clause-left g c = (c.listed.ensures.left.0, g.met.V.TreeView.follows_on _ _ _ c.readdir.ensures.left.1 c.listed.ensures.left.1, λ told. c.listed.ensures.left.2 told ∙ c.readdir.ensures.left.2 told)

pub returns-clause-decided : goal.returns-clause-decided
returns-clause-decided g c told world shows =
    let given = rw (shown_seen shows) at (c.in_ok-directory.ensures.exact told) in
    let stay = g.met.V.CallView.names_stay _ _ told c.readdir.ensures.left.1 in
    let names = c.in_ok-names.ensures.found told ∙ ap (λ (s : SeenNames). s.listed c.in_ok-directory.directory) stay in
    rw (c.in_ok-caller.ensures, c.in_ok-path.ensures) (given ∙ ap (λ (n : List (List ℕ)). Ok (tells (Names n))) (sym names) ∙ ap (λ (o : Outcome). Ok o) (sym c.asks.ensures))

pub returns-in_err-directory-clause-left : goal.returns-in_err-directory-clause-left
returns-in_err-directory-clause-left g c = c.readdir.ensures.left

pub returns-clause-cause : goal.returns-clause-cause
returns-clause-cause g c = tt
