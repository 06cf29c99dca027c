use Rattle.std.proofs.Common.{true, ◌≡◌, ◌==◌, ℕ, false, List, Ok, Err, length, refl, sym, ap, ◌∙◌, rules}
use Rattle.std.proofs.lemmas.Result.{err_from_is_err_and}
use Rattle.sn_limits.specs.Versions.{limits_written}
use Rattle.sn_walk.specs.declared.object.Home.{Home}
use Rattle.sn_model.specs.FileCalls.{bytes_argument, write_offset, write_outcome, write_some}
use Rattle.sn_desc.specs.InUse.{descriptor_of}
use Rattle.sn_core_decide_files.proofs.write.decide_write.Goals as goal

pub returns-in_err-logged_in : goal.returns-in_err-logged_in
returns-in_err-logged_in g c =
    let p = err_from_is_err_and c.from_residual.result c.from_residual.ensures.1 in
    record {
      left = (c.requires, g.met.V.TreeView.follows_itself _, λ told. refl);
      decided = λ told world shows. rw (p.1, p.2, c.in_err-logged_in.ensures) (refl {a = Err c.in_err-logged_in.field-0.0});
      cause = rw (p.1, p.2) tt;
    }

pub returns-in_err-bytes : goal.returns-in_err-bytes
returns-in_err-bytes g c =
    let p = err_from_is_err_and c.from_residual-in_err-bytes.result c.from_residual-in_err-bytes.ensures.1 in
    let bytes = ap (λ (b : List ℕ). bytes_argument b) (sym c.as_bytes.ensures) ∙ c.in_err-bytes.ensures in
    record {
      left = (c.requires, g.met.V.TreeView.follows_itself _, λ told. refl);
      decided = λ told world shows. rw (p.1, p.2, c.in_ok-logged_in.ensures, bytes) (refl {a = Err c.in_err-bytes.field-0.0});
      cause = rw (p.1, p.2) tt;
    }

pub returns-in_err-file : goal.returns-in_err-file
unfolding write_outcome
returns-in_err-file g c =
    let p = err_from_is_err_and c.from_residual-in_err-file.result c.from_residual-in_err-file.ensures.1 in
    let bytes : bytes_argument c.args.bytes.now ≡ Ok c.in_ok-bytes.bytes.now = ap (λ (b : List ℕ). bytes_argument b) (sym c.as_bytes.ensures) ∙ c.in_ok-bytes.ensures in
    record {
      left = (c.requires, g.met.V.TreeView.follows_itself _, λ told. refl);
      decided = λ told world shows. rw (p.1, p.2, c.in_ok-logged_in.ensures, bytes, c.in_err-file.ensures) (refl {a = Err c.in_err-file.field-0.0});
      cause = rw (p.1, p.2) tt;
    }

pub returns-in-Err-clause-left : goal.returns-in-Err-clause-left
returns-in-Err-clause-left g c = c.write_offset.ensures.left

pub returns-in-Err-clause-cause : goal.returns-in-Err-clause-cause
returns-in-Err-clause-cause g c = c.in-Err.ensures.cause

pub returns-in_err-write_some-clause-left : goal.returns-in_err-write_some-clause-left
returns-in_err-write_some-clause-left g c = c.write_offset.ensures.left

pub returns-in_err-write_some-clause-cause : goal.returns-in_err-write_some-clause-cause
returns-in_err-write_some-clause-cause g c =
    let p = err_from_is_err_and c.from_residual-in_err-write_some.result c.from_residual-in_err-write_some.ensures.1 in
    rw (p.1, p.2) tt

pub returns-clause-left : goal.returns-clause-left
returns-clause-left g c = c.write_offset.ensures.left

pub returns-clause-cause : goal.returns-clause-cause
returns-clause-cause g c = tt

pub returns-in-Err-clause-decided : goal.returns-in-Err-clause-decided
returns-in-Err-clause-decided g c told world shows =
    let bytes : bytes_argument c.args.bytes.now ≡ Ok c.in_ok-bytes.bytes.now = ap (λ (b : List ℕ). bytes_argument b) (sym c.as_bytes.ensures) ∙ c.in_ok-bytes.ensures in
    (tt, rw (c.in_ok-logged_in.ensures, bytes) (refl {a = true}))

pub returns-in_err-write_some-clause-decided : goal.returns-in_err-write_some-clause-decided
unfolding write_outcome
returns-in_err-write_some-clause-decided g c told world shows =
    let p = err_from_is_err_and c.from_residual-in_err-write_some.result c.from_residual-in_err-write_some.ensures.1 in
    let file = c.in_ok-file.file.now in
    let bytes : bytes_argument c.args.bytes.now ≡ Ok c.in_ok-bytes.bytes.now = ap (λ (b : List ℕ). bytes_argument b) (sym c.as_bytes.ensures) ∙ c.in_ok-bytes.ensures in
    let some : (length c.in_ok-bytes.bytes.now == 0) ≡ false = search rules in
    let at = c.in-Ok.ensures.found told ∙ ap (λ (b : Home → ℕ → List ℕ). write_offset (descriptor_of file) (b file.home file.number)) shows.bytes_are in
    rw (p.1, p.2) (rw (c.in_ok-logged_in.ensures, bytes, c.in_ok-file.ensures, some) (ap (λ (n : ℕ). write_some limits_written c.args.fd file.number n c.in_ok-bytes.bytes.now) (sym at) ∙ c.in_err-write_some.ensures))

pub returns-clause-decided : goal.returns-clause-decided
unfolding write_outcome
returns-clause-decided g c told world shows =
    let file = c.in_ok-file.file.now in
    let bytes : bytes_argument c.args.bytes.now ≡ Ok c.in_ok-bytes.bytes.now = ap (λ (b : List ℕ). bytes_argument b) (sym c.as_bytes.ensures) ∙ c.in_ok-bytes.ensures in
    let some : (length c.in_ok-bytes.bytes.now == 0) ≡ false = search rules in
    let at = c.in-Ok.ensures.found told ∙ ap (λ (b : Home → ℕ → List ℕ). write_offset (descriptor_of file) (b file.home file.number)) shows.bytes_are in
    rw (c.in_ok-logged_in.ensures, bytes, c.in_ok-file.ensures, some) (ap (λ (n : ℕ). write_some limits_written c.args.fd file.number n c.in_ok-bytes.bytes.now) (sym at) ∙ c.in_ok-write_some.ensures)
