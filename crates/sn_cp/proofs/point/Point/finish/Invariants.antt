use Rattle.std.proofs.Common.{◌≡◌, IsTrue}
use Rattle.sn_block.specs.Lending.{device_of}
use Rattle.sn_cp.specs.Counting.{IsStageOf, steps_left}
use Rattle.sn_cp.specs.Points.{stage_of, work_of}
use Rattle.sn_cp.proofs.FinishLemmas.{CountsSoFar, SoFar}
use Rattle.sn_cp.proofs.point.Point.finish.Given as goal

-- the point is the same, at a stage that the steps so far led to
abbrev pub invariant-steps : goal.invariant-steps
invariant-steps g l = record {
  same : work_of l.self ≡ work_of l.fn.self;
  stage : IsStageOf (work_of l.fn.self) (stage_of l.self);
  so_far : IsTrue g.D.Device.tells_bytes → SoFar (work_of l.fn.self) (stage_of l.self) (g.D.Device.disk (device_of l.fn.blocks)) (g.D.Device.disk (device_of l.blocks));
  counts : CountsSoFar (work_of l.fn.self) (stage_of l.fn.self) (stage_of l.self) (g.D.Device.status (device_of l.fn.blocks)) (g.D.Device.status (device_of l.blocks));
}

abbrev pub decreases-steps : goal.decreases-steps
decreases-steps g l = steps_left (work_of l.self) (stage_of l.self)
