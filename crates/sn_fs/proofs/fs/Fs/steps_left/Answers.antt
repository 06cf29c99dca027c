use Rattle.std.proofs.Common.{Option, sym, ap, subst, ◌∙◌}
use Rattle.sn_cp.specs.Points.{stage_of, work_of}
use Rattle.sn_cp.proofs.CountLemmas.{stage_within}
use Rattle.sn_cp_whole.specs.declared.going.GoingPoint.{GoingPoint}
use Rattle.sn_events.specs.Answers.{left_of}
use Rattle.sn_events.specs.Mounted.{IsBased, going_in}
use Rattle.sn_fs.proofs.fs.Fs.steps_left.Goals as goal

pub steps_left-requires-clause-whole : goal.steps_left-requires-clause-whole
steps_left-requires-clause-whole g c =
    let fs = c.args.self.now in
    (subst (λ (x : Option GoingPoint). IsBased x fs.log fs.base) c.in-Some.is (c.requires.based c.if-self.false)).whole

pub steps_left-requires-clause-stage : goal.steps_left-requires-clause-stage
steps_left-requires-clause-stage g c =
    let fs = c.args.self.now in
    let point = c.in-Some.going.point in
    stage_within (work_of point) (stage_of point) (subst (λ (x : Option GoingPoint). IsBased x fs.log fs.base) c.in-Some.is (c.requires.based c.if-self.false)).within

pub returns-in-Some-clause-left : goal.returns-in-Some-clause-left
returns-in-Some-clause-left g c running = c.steps_left.ensures ∙ ap (λ (x : Option GoingPoint). left_of (going_in x)) (sym c.in-Some.is)

pub returns-in-None-clause-left : goal.returns-in-None-clause-left
returns-in-None-clause-left g c running = ap (λ (x : Option GoingPoint). left_of (going_in x)) (sym c.in-None.is)
