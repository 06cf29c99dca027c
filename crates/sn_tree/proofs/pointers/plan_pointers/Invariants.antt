use Rattle.std.proofs.Common.{◌≡◌, ◌-◌, ◌≤◌, length, IsTrue}
use Rattle.sn_device.specs.Disk.{reads}
use Rattle.sn_block.specs.Lending.{device_of}
use Rattle.sn_ondisk.specs.Trees.{store_of}
use Rattle.sn_tree.proofs.ProgressLemmas.{Progress}
use Rattle.sn_tree.proofs.pointers.plan_pointers.Given as goal

abbrev pub invariant-loop-k : goal.invariant-loop-k
invariant-loop-k g l = record {
  same : IsTrue g.D.Device.tells_bytes → g.D.Device.disk (device_of l.blocks) ≡ g.D.Device.disk (device_of l.fn.blocks);
  status : g.D.Device.status (device_of l.blocks) ≡ g.D.Device.status (device_of l.fn.blocks);
  within : l.k ≤ length l.pointers;
  done : Progress (IsTrue g.D.Device.tells_bytes) (store_of (reads (g.D.Device.disk (device_of l.fn.blocks)))) l.fn.depth l.fn.first l.fn.keep l.fn.dirty.items l.dirty.items l.fn.pointers l.pointers l.fn.build l.build l.k;
}

abbrev pub decreases-loop-k : goal.decreases-loop-k
decreases-loop-k g l = length l.initial.pointers - l.k
