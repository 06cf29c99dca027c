use Rattle.std.proofs.Common.{sym, ap, ◌∙◌}
use Rattle.std.proofs.lemmas.Result.{err_from_is_err_and}
use Rattle.sn_cp_whole.specs.Going.{going_of}
use Rattle.sn_fs.specs.Filesystem.{held, with_point}
use Rattle.sn_events.specs.Mounted.{going_in}
use Rattle.sn_events.proofs.BasedLemmas.{none_there}
use Rattle.sn_events.proofs.BeginLemmas.{begun_advances, cut_advances, ended_advances, gone_advances, unbegun_advances, unended_advances}
use Rattle.sn_fs.proofs.fs.Fs.advance.Goals as goal

-- ---- where none is in progress

pub returns-in_default-clause-advances : goal.returns-in_default-clause-advances
returns-in_default-clause-advances g c told =
    let fs = c.args.self.now in
    let none = sym c.in_default.ensures.value in
    begun_advances (held fs) (held (record fs { going = c.take.new.self })) (held c.begin.new.self) (λ i. held (record fs { going = (c.take.ensures.after ∙ sym none) i })) (none_there fs.going none) (c.in_ok-begin.ensures.begins told)

pub returns-in_err-begin-clause-advances : goal.returns-in_err-begin-clause-advances
returns-in_err-begin-clause-advances g c told =
    let fs = c.args.self.now in
    let none = sym c.in_default.ensures.value in
    let p = err_from_is_err_and c.from_residual.result c.from_residual.ensures.1 in
    rw (p.1, p.2) (unbegun_advances (held fs) (held (record fs { going = c.take.new.self })) (held c.begin.new.self) (λ i. held (record fs { going = (c.take.ensures.after ∙ sym none) i })) _ (none_there fs.going none) (c.in_err-begin.ensures.begins told))

-- ---- a step of the one in progress

pub returns-clause-advances : goal.returns-clause-advances
returns-clause-advances g c told =
    let fs = c.args.self.now in
    gone_advances (held fs) (held (with_point fs c.in-Some.going)) (held c.go_on.new.self) (λ i. held (record fs { going = c.in-Some.ensures.value i })) (c.in_ok-go_on.ensures.goes_on told)

pub returns-in_err-go_on-clause-advances : goal.returns-in_err-go_on-clause-advances
returns-in_err-go_on-clause-advances g c told =
    let fs = c.args.self.now in
    let p = err_from_is_err_and c.from_residual-in_err-go_on.result c.from_residual-in_err-go_on.ensures.1 in
    rw (p.1, p.2) (cut_advances (held fs) (held (with_point fs c.in-Some.going)) (held c.go_on.new.self) (λ i. held (record fs { going = c.in-Some.ensures.value i })) _ (c.in_err-go_on.ensures.goes_on told))

pub returns-then-is_at_last-clause-advances : goal.returns-then-is_at_last-clause-advances
returns-then-is_at_last-clause-advances g c told =
    let fs = c.args.self.now in
    ended_advances (held fs) (held (with_point fs c.in-Some.going)) (held c.end.new.self) (λ i. held (record fs { going = c.in-Some.ensures.value i }))
    (going_of c.in-Some.going) (ap going_in (sym c.in-Some.ensures.value)) (c.is_at_last.ensures.0 c.if-is_at_last.true) (c.in_ok-end.ensures.finishes told)

pub returns-in_err-end-clause-advances : goal.returns-in_err-end-clause-advances
returns-in_err-end-clause-advances g c told =
    let fs = c.args.self.now in
    let p = err_from_is_err_and c.from_residual-in_err-end.result c.from_residual-in_err-end.ensures.1 in
    rw (p.1, p.2) (unended_advances (held fs) (held (with_point fs c.in-Some.going)) (held c.end.new.self) (λ i. held (record fs { going = c.in-Some.ensures.value i }))
    (going_of c.in-Some.going) (ap going_in (sym c.in-Some.ensures.value)) (c.is_at_last.ensures.0 c.if-is_at_last.true) _ (c.in_err-end.ensures.finishes told))
