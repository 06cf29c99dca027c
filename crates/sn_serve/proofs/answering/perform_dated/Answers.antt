use Rattle.std.proofs.Common.{Bool, subst}
use Rattle.sn_plan.specs.Follows.{kept_of}
use Rattle.sn_serve.specs.Dating.{IsUpdated, is_lost, marks_of, subjects_of}
use Rattle.sn_serve.specs.declared.subjects.Subjects.{Subjects}
use Rattle.sn_serve.proofs.Exchanging.{answers_changed}
use Rattle.sn_times.specs.Dates.{Dates}
use Rattle.sn_serve.proofs.answering.perform_dated.Goals as goal

pub returns : goal.returns
returns g c =
    let p = c.perform_as-told.ensures.performs in
    let now = c.now-now.result in
    let op = c.args.op.now in
    let told = c.perform_as-told.result in
    let changed = c.perform_as-told.new.service.server.changed in
    let after = c.mark.new.times in
    let about = subjects_of (kept_of c.args.service.now.server) c.args.head.now.node op in
    let marked = subst (λ (subjects : Subjects). IsUpdated (is_lost changed op told) (marks_of changed subjects now op told) now c.perform_as-told.new.service.times after)
    c.subjects_of-subjects.ensures c.mark.ensures in
    let dated = subst (λ (times : Dates). IsUpdated (is_lost changed op told) (marks_of changed about now op told) now times after) c.perform_as-told.ensures.times marked in (
      told,
      record { text = p.text; is_text = p.is_text; answers = p.answers; checker = p.checker },
      record { now = now; marked = subst (λ (b : Bool). IsUpdated (is_lost b op told) (marks_of b about now op told) now c.args.service.now.times after) (answers_changed p.answers) dated },
      c.date.ensures,
    )
