use Rattle.std.proofs.Common.{sym, subst}
use Rattle.sn_block.specs.Lending.{device_of}
use Rattle.sn_device.specs.Disk.{Disk, reads}
use Rattle.sn_device.specs.declared.status.Status.{Status}
use Rattle.sn_live_world.specs.Turned.{Decides}
use Rattle.sn_live_world.specs.World.{world_in}
use Rattle.sn_ondisk.specs.Trees.{store_of}
use Rattle.sn_rooted.specs.Roots.{AreSound, trees_at}
use Rattle.sn_live_world.proofs.RefusalLemmas.{if_passed}
use Rattle.sn_live_world.proofs.world.LiveWorld.decide.Goals as goal

pub decide_read-requires-clause-readable : goal.decide_read-requires-clause-readable
decide_read-requires-clause-readable g c told =
    let disk : Disk = g.D.Device.disk (device_of c.decide_alone.new.blocks) in
    let status : Status = g.D.Device.status (device_of c.args.blocks.now) in
    subst (λ (s : Status). AreSound s.sectors (store_of (reads disk)) c.args.root.now) (sym c.decide_alone.ensures.idle)
    (subst (λ (d : Disk). AreSound status.sectors (store_of (reads d)) c.args.root.now) (sym c.decide_alone.ensures.same) (c.requires.readable told))

pub returns-in-None-clause-decided : goal.returns-in-None-clause-decided
returns-in-None-clause-decided g c told =
    subst (λ (d : Disk). Decides (world_in c.args.self.now (trees_at (store_of (reads d)) c.args.root.now)) c.args.session c.args.call.now c.decide_read.result) c.decide_alone.ensures.same (c.decide_read.ensures.decided told)

pub returns-in-None-clause-refused : goal.returns-in-None-clause-refused
returns-in-None-clause-refused g c asked = if_passed _ _ ((rw c.in-None.is at c.decide_alone.ensures.unrefused) asked)
