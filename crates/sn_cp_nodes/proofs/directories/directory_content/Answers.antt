use Rattle.std.proofs.Common.{IsTrue, ap}
use Rattle.sn_device.specs.Disk.{Disk, reads}
use Rattle.sn_block.specs.Lending.{device_of}
use Rattle.sn_ondisk.specs.Trees.{store_of}
use Rattle.sn_cp_nodes.proofs.FaultLemmas.{names_fit, names_read}
use Rattle.sn_cp_nodes.proofs.MadeLemmas.{made_result}
use Rattle.sn_cp_nodes.proofs.directories.directory_content.Goals as goal

pub returns-clause-made : goal.returns-clause-made
returns-clause-made g c =
    made_result (IsTrue g.D.Device.tells_bytes) (store_of (reads (g.D.Device.disk (device_of c.args.blocks.now)))) _ c.args.old.now c.args.fresh c.args.names.now c.in_ok-tree.tree c.in_ok-changes.changes.items c.as_slice.result.now
    c.args.build.now c.roomy_tree.new.build c.with_names.new.build c.with_names.result
    (λ told. ap (λ (d : Disk). store_of (reads d)) (c.roomy_tree.ensures.same told)) c.as_slice.ensures.value c.in_ok-changes.ensures.them c.in_ok-changes.ensures.can c.in_ok-tree.ensures.begun c.with_names.ensures.planned

pub returns-clause-full : goal.returns-clause-full
returns-clause-full g c = λ told full.
    names_fit (IsTrue g.D.Device.tells_bytes) (store_of (reads (g.D.Device.disk (device_of c.args.blocks.now)))) (store_of (reads (g.D.Device.disk (device_of c.roomy_tree.new.blocks))))
    (ap (λ (d : Disk). store_of (reads d)) (c.roomy_tree.ensures.same told)) c.args.old.now c.args.fresh c.args.names.now c.in_ok-tree.tree c.args.build.now c.roomy_tree.new.build c.in_ok-tree.ensures.begun
    c.in_ok-changes.changes.items c.as_slice.result.now c.with_names.result c.as_slice.ensures.value c.in_ok-changes.ensures.them c.with_names.ensures.full full

pub returns-clause-damaged : goal.returns-clause-damaged
returns-clause-damaged g c = λ told block damaged.
    names_read (IsTrue g.D.Device.tells_bytes) (store_of (reads (g.D.Device.disk (device_of c.args.blocks.now)))) (store_of (reads (g.D.Device.disk (device_of c.roomy_tree.new.blocks))))
    (ap (λ (d : Disk). store_of (reads d)) (c.roomy_tree.ensures.same told)) c.args.old.now c.args.fresh c.args.names.now c.in_ok-tree.tree c.args.build.now c.roomy_tree.new.build c.in_ok-tree.ensures.begun
    (g.D.Device.status (device_of c.args.blocks.now)).sectors (g.D.Device.status (device_of c.roomy_tree.new.blocks)).sectors c.roomy_tree.ensures.counts.sectors (c.with_names.ensures.damaged told block damaged)
