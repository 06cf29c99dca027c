use Rattle.sn_block.specs.Lending.{device_of}
use Rattle.sn_cp.specs.Points.{work_of}
use Rattle.sn_cp.proofs.StepLemmas.{shut_steps}
use Rattle.sn_cp.proofs.point.Point.shut.Goals as goal

pub returns-clause-bytes : goal.returns-clause-bytes
returns-clause-bytes g c told =
    shut_steps (work_of c.args.self.now) c.requires.whole c.close_slot.result _ _ (g.met.D.Device.whole (device_of c.args.blocks.now) told) (c.requires.stands told) (c.close_slot.ensures.bytes told) (c.close_slot.ensures.root told)
