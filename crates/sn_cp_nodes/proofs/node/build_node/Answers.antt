use Rattle.std.proofs.Common.{IsTrue, ap}
use Rattle.sn_device.specs.Disk.{Disk, reads}
use Rattle.sn_block.specs.Lending.{device_of}
use Rattle.sn_ondisk.specs.Trees.{store_of}
use Rattle.sn_cp_nodes.proofs.NodeLemmas.{node_builds}
use Rattle.sn_cp_nodes.proofs.node.build_node.Goals as goal

pub returns-clause-builds : goal.returns-clause-builds
returns-clause-builds g c = λ layer part.
    node_builds (IsTrue g.D.Device.tells_bytes) c.args.limits.now (store_of (reads (g.D.Device.disk (device_of c.args.blocks.now)))) (store_of (reads (g.D.Device.disk (device_of c.get.new.blocks))))
    c.args.file.now layer c.args.number c.requires.version c.in_ok-was.was' c.in_ok-was.ensures.inode (λ told. ap (λ (d : Disk). store_of (reads d)) (c.get.ensures.same told))
    c.args.names.now c.args.written.items c.args.build.now c.planned.new.build c.args.change.now part c.planned.result c.planned.ensures.can c.planned.ensures.made
