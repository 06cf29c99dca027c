use Rattle.std.proofs.Common.{true, ℕ, List, Ok, Err, take, drop, refl, sym, ap, ◌∙◌}
use Rattle.std.proofs.lemmas.Result.{err_from_is_err_and}
use Rattle.sn_walk.specs.declared.object.Home.{Home}
use Rattle.sn_model.specs.declared.call.Call.TheVariants as call
use Rattle.sn_model.specs.declared.outcome.Outcome.{Outcome}
use Rattle.sn_model.specs.FileCalls.{read_outcome, reads}
use Rattle.sn_desc.specs.InUse.{descriptor_of, in_world}
use Rattle.sn_desc.specs.Sessions.{in_use_of}
use Rattle.sn_core_decide_rules.proofs.DecidedLemmas.{lacking, view_looked_up}
use Rattle.sn_core_decide_files.proofs.read.decide_read.Goals as goal

pub returns-in_err-logged_in : goal.returns-in_err-logged_in
returns-in_err-logged_in g c =
    let p = err_from_is_err_and c.from_residual.result c.from_residual.ensures.1 in
    record {
      left = (c.requires, g.met.V.TreeView.follows_itself _, λ told. refl);
      decided = λ told world shows. rw (p.1, p.2, c.in_err-logged_in.ensures) (refl {a = Err c.in_err-logged_in.field-0.0});
      cause = rw (p.1, p.2) tt;
    }

pub returns-in_err-count : goal.returns-in_err-count
returns-in_err-count g c =
    let p = err_from_is_err_and c.from_residual-in_err-count.result c.from_residual-in_err-count.ensures.1 in
    record {
      left = (c.requires, g.met.V.TreeView.follows_itself _, λ told. refl);
      decided = λ told world shows. rw (p.1, p.2, c.in_ok-logged_in.ensures, ← c.in_err-count.ensures) (refl {a = Err c.in_err-count.field-0.0});
      cause = rw (p.1, p.2) tt;
    }

pub returns-in_err-file : goal.returns-in_err-file
unfolding read_outcome
returns-in_err-file g c =
    let p = err_from_is_err_and c.from_residual-in_err-file.result c.from_residual-in_err-file.ensures.1 in
    record {
      left = (c.requires, g.met.V.TreeView.follows_itself _, λ told. refl);
      decided = λ told world shows. rw (p.1, p.2, c.in_ok-logged_in.ensures, ← c.in_ok-count.ensures, c.in_err-file.ensures) (refl {a = Err c.in_err-file.field-0.0});
      cause = rw (p.1, p.2) tt;
    }

pub returns-in_err-reads-clause-decided : goal.returns-in_err-reads-clause-decided
returns-in_err-reads-clause-decided g c told world shows =
    let p = err_from_is_err_and c.from_residual-in_err-reads.result c.from_residual-in_err-reads.ensures.1 in
    rw (p.1, p.2) (lacking (in_world (in_use_of c.args.sessions.now) world) c.args.session (call.Read c.args.fd c.args.count) (tt, rw (c.in_ok-logged_in.ensures, ← c.in_ok-count.ensures) (refl {a = true})) _)

pub returns-in_err-reads-clause-cause : goal.returns-in_err-reads-clause-cause
returns-in_err-reads-clause-cause g c =
    let p = err_from_is_err_and c.from_residual-in_err-reads.result c.from_residual-in_err-reads.ensures.1 in
    rw (p.1, p.2) (view_looked_up c.in_err-reads.field-0.0 (λ f. g.V.TreeView.causes c.args.view.now c.reads.new.view f) c.in_err-reads.ensures.cause)

pub returns-clause-decided : goal.returns-clause-decided
unfolding read_outcome
returns-clause-decided g c told world shows =
    let file = c.in_ok-file.file.now in
    let d = descriptor_of file in
    let is = c.in_ok-reads.ensures.found told ∙ ap (λ (bytes : Home → ℕ → List ℕ). reads c.args.fd d (take c.in_ok-count.count (drop file.offset (bytes file.home file.number)))) shows.bytes_are in
    rw (c.in_ok-logged_in.ensures, ← c.in_ok-count.ensures, c.in_ok-file.ensures) (ap (λ (o : Outcome). Ok o) (sym is))

pub returns-in_err-reads-clause-left : goal.returns-in_err-reads-clause-left
returns-in_err-reads-clause-left g c = c.reads.ensures.left

pub returns-clause-left : goal.returns-clause-left
returns-clause-left g c = c.reads.ensures.left

pub returns-clause-cause : goal.returns-clause-cause
returns-clause-cause g c = tt
