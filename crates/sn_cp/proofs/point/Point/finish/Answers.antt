use Rattle.std.proofs.Common.{◌≡◌, Bool, false, IsTrue, Ok, Err, refl, sym, ap, subst, ◌∙◌, rules}
use Rattle.sn_block.specs.Counts.{CountsCalls, called}
use Rattle.sn_block.specs.Lending.{device_of}
use Rattle.sn_device.specs.declared.fault.Fault.{Fault}
use Rattle.sn_cp.specs.Counting.{IsStageOf}
use Rattle.sn_cp.specs.Points.{Work, stage_of, work_of}
use Rattle.sn_cp.specs.Steps.{StepsTo, next_stage, syncs_of, writes_of}
use Rattle.sn_cp.specs.declared.stage.Stage.{Stage}
use Rattle.sn_cp.proofs.CountLemmas.{stage_goes_on, stage_next, stage_within}
use Rattle.sn_cp.proofs.FinishLemmas.{CountsSoFar, SoFar, counts_done, counts_fail, counts_next, counts_start, finish_done, finish_fails, so_far_next, so_far_start}
use Rattle.sn_cp.proofs.point.Point.finish.Goals as goal

never : (b : Bool) → b ≡ false → IsTrue b → ⊥
never b is_false is_true = cc

pub steps-init : goal.steps-init
steps-init g c =
    let w = work_of c.args.self.now in
    let stage = stage_of c.args.self.now in
    record {
      same = refl;
      stage = stage_within w stage c.requires.within;
      so_far = λ told. so_far_start w stage (g.D.Device.disk (device_of c.args.blocks.now)) c.requires.whole c.requires.within (c.requires.stands told);
      counts = counts_start w stage (g.D.Device.status (device_of c.args.blocks.now));
    }

pub steps-preserved : goal.steps-preserved
steps-preserved g c =
    let w = work_of c.args.self.now in
    let stage = stage_of c.steps.self in
    let same = c.steps.invariant.same in
    let none : c.is_done.result ≡ false = first_of (cc, search rules) in
    let within = stage_goes_on w stage c.steps.invariant.stage (λ is. never c.is_done.result none (c.is_done.ensures.1 is)) in
    let onward : stage_of c.advance.new.self ≡ next_stage w stage = c.in-Ok.ensures.onward ∙ ap (λ (v : Work). next_stage v stage) same in
    let old = g.D.Device.disk (device_of c.args.blocks.now) in
    let mid = g.D.Device.disk (device_of c.steps.blocks) in
    let new = g.D.Device.disk (device_of c.advance.new.blocks) in
    let first = g.D.Device.status (device_of c.args.blocks.now) in
    let before = g.D.Device.status (device_of c.steps.blocks) in
    let after = g.D.Device.status (device_of c.advance.new.blocks) in
    record {
      same = c.in-Ok.ensures.same ∙ same;
      stage = subst (λ (at : Stage). IsStageOf w at) (sym onward) (stage_next w stage c.requires.whole within);
      so_far = λ told. subst (λ (at : Stage). SoFar w at old new) (sym onward)
          (so_far_next w c.requires.whole old mid new (g.met.D.Device.whole (device_of c.steps.blocks) told) c.in-Ok.field-0 stage within (c.steps.invariant.so_far told)
          (subst (λ (v : Work). StepsTo {E = Fault} v stage (Ok c.in-Ok.field-0) mid new) same (c.in-Ok.ensures.bytes told)));
      counts = subst (λ (at : Stage). CountsSoFar w (stage_of c.args.self.now) at first after) (sym onward)
          (counts_next w (stage_of c.args.self.now) stage first before after c.requires.whole within c.steps.invariant.counts
          (subst (λ (v : Work). after ≡ called (writes_of v stage) (syncs_of v stage) before) same c.in-Ok.ensures.counts.done));
    }

pub returns-in-Err-clause-bytes : goal.returns-in-Err-clause-bytes
returns-in-Err-clause-bytes g c told =
    let w = work_of c.args.self.now in
    let stage = stage_of c.steps.self in
    let none : c.is_done.result ≡ false = first_of (cc, search rules) in
    let within = stage_goes_on w stage c.steps.invariant.stage (λ is. never c.is_done.result none (c.is_done.ensures.1 is)) in
    let old = g.D.Device.disk (device_of c.args.blocks.now) in
    let mid = g.D.Device.disk (device_of c.steps.blocks) in
    let new = g.D.Device.disk (device_of c.advance.new.blocks) in
    finish_fails w c.requires.whole old mid new (g.met.D.Device.whole (device_of c.steps.blocks) told) c.in-Err.fault stage within (c.steps.invariant.so_far told)
    (subst (λ (v : Work). StepsTo {T = Unit {0}} v stage (Err c.in-Err.fault) mid new) c.steps.invariant.same (c.in-Err.ensures.bytes told))

pub returns-in-Err-clause-counts : goal.returns-in-Err-clause-counts
returns-in-Err-clause-counts g c =
    let w = work_of c.args.self.now in
    let stage = stage_of c.steps.self in
    let none : c.is_done.result ≡ false = first_of (cc, search rules) in
    let within = stage_goes_on w stage c.steps.invariant.stage (λ is. never c.is_done.result none (c.is_done.ensures.1 is)) in
    let before = g.D.Device.status (device_of c.steps.blocks) in
    let after = g.D.Device.status (device_of c.advance.new.blocks) in
    counts_fail w c.in-Err.fault (stage_of c.args.self.now) stage (g.D.Device.status (device_of c.args.blocks.now)) before after c.requires.whole within c.steps.invariant.counts
    (subst (λ (v : Work). CountsCalls {T = Unit {0}} (writes_of v stage) (syncs_of v stage) (Err c.in-Err.fault) before after) c.steps.invariant.same c.in-Err.ensures.counts)

pub returns-clause-bytes : goal.returns-clause-bytes
returns-clause-bytes g c told =
    let done : IsTrue c.is_done.result = first_of (cc, search rules) in
    finish_done (work_of c.args.self.now) tt (stage_of c.steps.self) (g.D.Device.disk (device_of c.args.blocks.now)) (g.D.Device.disk (device_of c.steps.blocks)) (c.is_done.ensures.0 done) (c.steps.invariant.so_far told)

pub returns-clause-counts : goal.returns-clause-counts
returns-clause-counts g c =
    let done : IsTrue c.is_done.result = first_of (cc, search rules) in
    counts_done (work_of c.args.self.now) tt (stage_of c.args.self.now) (stage_of c.steps.self) (g.D.Device.status (device_of c.args.blocks.now)) (g.D.Device.status (device_of c.steps.blocks)) (c.is_done.ensures.0 done) c.steps.invariant.counts
