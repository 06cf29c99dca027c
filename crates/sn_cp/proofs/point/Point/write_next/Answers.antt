use Rattle.sn_block.specs.Lending.{device_of}
use Rattle.sn_cp.specs.Points.{work_of}
use Rattle.sn_cp.proofs.StepLemmas.{body_steps}
use Rattle.sn_cp.proofs.point.Point.write_next.Goals as goal

pub returns-clause-bytes : goal.returns-clause-bytes
returns-clause-bytes g c told =
    body_steps (work_of c.args.self.now) c.requires.whole c.write_body.result _ _ (g.met.D.Device.whole (device_of c.args.blocks.now) told) (c.requires.stands told) (c.write_body.ensures.bytes told) (c.write_body.ensures.root told)
