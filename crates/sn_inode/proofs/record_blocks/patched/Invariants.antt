use Rattle.std.proofs.Common.{◌≡◌, ℕ, ◌+◌, ◌/◌, ◌<◌, ◌≤◌, length, map, slice_index, take, IsTrue}
use Rattle.std.specs.Prelude.{All}
use Rattle.sn_device.specs.Disk.{reads}
use Rattle.sn_block.specs.Lending.{device_of}
use Rattle.sn_ondisk.specs.Trees.{store_of, data_block}
use Rattle.sn_tree.specs.Dirty.{IsFrom}
use Rattle.sn_tree.specs.declared.new_block.DirtyBlock.{DirtyBlock}
use Rattle.sn_inode.specs.Stored.{ArePatched}
use Rattle.sn_inode.specs.declared.changes.StoredRecord.{StoredRecord}
use Rattle.sn_inode.proofs.record_blocks.patched.Given as goal

abbrev pub invariant-loop-next : goal.invariant-loop-next
invariant-loop-next g l = record {
  status : g.D.Device.status (device_of l.blocks) ≡ g.D.Device.status (device_of l.initial.blocks);
  same : IsTrue g.D.Device.tells_bytes → g.D.Device.disk (device_of l.blocks) ≡ g.D.Device.disk (device_of l.initial.blocks);
  patched : IsTrue g.D.Device.tells_bytes → ArePatched (data_block (store_of (reads (g.D.Device.disk (device_of l.initial.blocks)))) l.file) (l.file.size / 4096) (take l.next-index l.stored) l.dirty.items;
  rise : IsFrom 0 l.dirty.items;
  most : (i : ℕ) → l.next-index ≤ i + 1 → i < length l.stored → All (λ (d : DirtyBlock). d.index ≤ slice_index (map (λ (x : StoredRecord). x.number) l.stored) i / 32) l.dirty.items;
  count : length l.dirty.items ≤ l.next-index;
}
