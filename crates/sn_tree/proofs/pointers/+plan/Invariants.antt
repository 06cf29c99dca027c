use Rattle.std.proofs.Common.{◌≡◌, ◌+◌, ◌-◌, ◌*◌, ◌≤◌, length, IsTrue}
use Rattle.sn_device.specs.Disk.{reads}
use Rattle.sn_block.specs.Lending.{device_of}
use Rattle.sn_ondisk.specs.Trees.{store_of}
use Rattle.sn_tree.proofs.ProgressLemmas.{Progress}
use Rattle.sn_tree.proofs.pointers.+plan.Given as goal

abbrev pub decreases-plan_pointer : goal.decreases-plan_pointer
decreases-plan_pointer g l = 2 * l.depth

abbrev pub decreases-plan_copy : goal.decreases-plan_copy
decreases-plan_copy g l = 2 * l.depth + 1

abbrev pub invariant-plan_copy-loop-k : goal.invariant-plan_copy-loop-k
invariant-plan_copy-loop-k g l = record {
  same : IsTrue g.D.Device.tells_bytes → g.D.Device.disk (device_of l.blocks) ≡ g.D.Device.disk (device_of l.fn.blocks);
  status : g.D.Device.status (device_of l.blocks) ≡ g.D.Device.status (device_of l.fn.blocks);
  within : l.k ≤ length l.copy;
  done : Progress (IsTrue g.D.Device.tells_bytes) (store_of (reads (g.D.Device.disk (device_of l.fn.blocks)))) l.fn.depth l.fn.first l.fn.keep l.fn.dirty.items l.dirty.items l.fn.copy l.copy l.fn.build l.build l.k;
}

abbrev pub decreases-plan_copy-loop-k : goal.decreases-plan_copy-loop-k
decreases-plan_copy-loop-k g l = 1024 - l.k
