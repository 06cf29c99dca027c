use Rattle.sn_block.specs.Lending.{device_of}
use Rattle.sn_cp.specs.Points.{stage_of, work_of}
use Rattle.sn_cp_progress.specs.Meaning.{progress_over}
use Rattle.sn_cp_whole.specs.Going.{going_of, with_disk}
use Rattle.sn_cp_whole.proofs.GoingLemmas.{advanced, before_opening, stands_next, stepped, tree_stays, within_next}
use Rattle.sn_cp_whole.proofs.going.GoingPoint.advance.Goals as goal

pub returns-clause-goes_on : goal.returns-clause-goes_on
returns-clause-goes_on g c told h world trees on =
    let point = c.args.self.now.point in
    advanced (with_disk h (g.D.Device.disk (device_of c.args.blocks.now))) world c.args.self.now c.advance.new.self trees c.advance.result _ on (g.met.D.Device.whole (device_of c.advance.new.blocks) told)
    (before_opening (work_of point) (stage_of point) c.requires.within c.requires.more) (c.advance.ensures.bytes told) c.advance.ensures.same c.advance.ensures.onward

pub returns-clause-tree : goal.returns-clause-tree
returns-clause-tree g c told h world trees on =
    let point = c.args.self.now.point in
    tree_stays (with_disk h (g.D.Device.disk (device_of c.args.blocks.now))) world (progress_over (going_of c.args.self.now) trees) on c.advance.result _ (g.met.D.Device.whole (device_of c.advance.new.blocks) told)
    (before_opening (work_of point) (stage_of point) c.requires.within c.requires.more) (c.advance.ensures.bytes told)

pub returns-clause-touched : goal.returns-clause-touched
returns-clause-touched g c told = stepped (work_of c.args.self.now.point) (stage_of c.args.self.now.point) c.requires.within c.advance.result _ _ (c.advance.ensures.bytes told)

pub returns-clause-within : goal.returns-clause-within
returns-clause-within g c =
    let old = c.args.self.now.point in
    within_next old c.advance.new.self c.requires.whole c.requires.within c.requires.more c.advance.result c.advance.ensures.same c.advance.ensures.onward

pub returns-clause-stands : goal.returns-clause-stands
returns-clause-stands g c told = stands_next c.args.self.now.point c.advance.new.self c.advance.result _ c.advance.ensures.same c.advance.ensures.onward (c.advance.ensures.bytes told).next
