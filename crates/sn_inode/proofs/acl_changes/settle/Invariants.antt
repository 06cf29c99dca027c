use Rattle.std.proofs.Common.{◌≡◌, take, IsTrue}
use Rattle.std.specs.Prelude.{All}
use Rattle.sn_device.specs.Disk.{reads}
use Rattle.sn_block.specs.Lending.{device_of}
use Rattle.sn_layout_node.specs.Inode.{IsRecord}
use Rattle.sn_ondisk.specs.Trees.{store_of}
use Rattle.sn_inode.specs.Stored.{AreSettled}
use Rattle.sn_inode.specs.declared.changes.StoredRecord.{StoredRecord}
use Rattle.sn_inode.proofs.acl_changes.settle.Given as goal

abbrev pub invariant-loop-change : goal.invariant-loop-change
invariant-loop-change g l = record {
  status : g.D.Device.status (device_of l.blocks) ≡ g.D.Device.status (device_of l.initial.blocks);
  same : IsTrue g.D.Device.tells_bytes → g.D.Device.disk (device_of l.blocks) ≡ g.D.Device.disk (device_of l.initial.blocks);
  settled : AreSettled (IsTrue g.D.Device.tells_bytes) (store_of (reads (g.D.Device.disk (device_of l.initial.blocks)))) l.file (take l.change-index l.changes) l.stored.items l.initial.build l.build;
  valid : All (λ (x : StoredRecord). IsRecord l.limits x.record) l.stored.items;
}
