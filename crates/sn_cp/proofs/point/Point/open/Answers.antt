use Rattle.sn_block.specs.Lending.{device_of}
use Rattle.sn_cp.specs.Points.{work_of}
use Rattle.sn_cp.proofs.StepLemmas.{open_steps}
use Rattle.sn_cp.proofs.point.Point.open.Goals as goal

pub open_slot-requires-clause-body : goal.open_slot-requires-clause-body
open_slot-requires-clause-body g c told = ((work_of c.args.self.now).plan.next, (c.requires.stands told).reached.2)

pub returns-clause-bytes : goal.returns-clause-bytes
returns-clause-bytes g c told =
    open_steps (work_of c.args.self.now) c.requires.whole c.open_slot.result _ _ (g.met.D.Device.whole (device_of c.args.blocks.now) told) (c.requires.stands told) (c.open_slot.ensures.bytes told)
    (c.open_slot.ensures.root told (work_of c.args.self.now).plan.next (c.requires.stands told).reached.2)
