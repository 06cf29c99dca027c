use Rattle.std.proofs.Common.{◌≡◌, ◌-◌, ◌≤◌, vec_len, IsTrue}
use Rattle.sn_device.specs.Disk.{reads}
use Rattle.sn_block.specs.Lending.{device_of}
use Rattle.sn_ondisk.specs.Trees.{store_of}
use Rattle.sn_tree_read.proofs.ReadLemmas.{IsReadTo}
use Rattle.sn_tree_read.proofs.reads.read_tree.Given as goal

abbrev pub invariant-loop-bytes : goal.invariant-loop-bytes
invariant-loop-bytes g l =
    (vec_len l.bytes ≤ l.count)
    × (g.D.Device.status (device_of l.blocks) ≡ g.D.Device.status (device_of l.initial.blocks))
    × (IsTrue g.D.Device.tells_bytes → g.D.Device.disk (device_of l.blocks) ≡ g.D.Device.disk (device_of l.initial.blocks))
    × (IsTrue g.D.Device.tells_bytes → IsReadTo (g.D.Device.status (device_of l.initial.blocks)).sectors (store_of (reads (g.D.Device.disk (device_of l.initial.blocks)))) l.tree l.offset l.bytes.items)

abbrev pub decreases-loop-bytes : goal.decreases-loop-bytes
decreases-loop-bytes g l = l.count - vec_len l.bytes
