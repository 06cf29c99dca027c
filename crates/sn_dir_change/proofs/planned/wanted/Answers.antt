use Rattle.std.proofs.Common.{◌+◌, IsTrue, length, ap, arith}
use Rattle.sn_device.specs.Disk.{Disk, reads}
use Rattle.sn_block.specs.Lending.{device_of}
use Rattle.sn_ondisk.specs.Trees.{store_of}
use Rattle.sn_dir_change.proofs.PlannedLemmas.{ready_to_fill, wanted_is}
use Rattle.sn_dir_change.proofs.planned.wanted.Goals as goal

pub fill_blocks-requires-clause-room : goal.fill_blocks-requires-clause-room
fill_blocks-requires-clause-room g c =
    let s = store_of (reads (g.D.Device.disk (device_of c.args.blocks.now))) in
    let bound = length c.in_ok-pending.pending.standing.items + length c.in_ok-pending.pending.waiting.items in
    let ready = ready_to_fill (IsTrue g.D.Device.tells_bytes) s _ c.args.tree.now c.args.changes.now _ _ _ _ bound c.in_ok-dirty.dirty.items _ c.block_count-keep.ensures.value
    (λ told. ap (λ (d : Disk). store_of (reads d)) (c.parted.ensures.same told)) (omega arith) c.in_ok-pending.ensures.puts c.in_ok-pending.ensures.way (c.in_ok-dirty.ensures.through c.args.changes.now bound) in
    omega (arith, ready.few, c.in_ok-pending.ensures.few, c.block_count-keep.ensures.value, c.requires.room.most)

pub overflow_mul-dirty : goal.overflow_mul-dirty
overflow_mul-dirty g c =
    let s = store_of (reads (g.D.Device.disk (device_of c.args.blocks.now))) in
    let bound = length c.in_ok-pending.pending.standing.items + length c.in_ok-pending.pending.waiting.items in
    let ready = ready_to_fill (IsTrue g.D.Device.tells_bytes) s _ c.args.tree.now c.args.changes.now _ _ _ _ bound c.in_ok-dirty.dirty.items _ c.block_count-keep.ensures.value
    (λ told. ap (λ (d : Disk). store_of (reads d)) (c.parted.ensures.same told)) (omega arith) c.in_ok-pending.ensures.puts c.in_ok-pending.ensures.way (c.in_ok-dirty.ensures.through c.args.changes.now bound) in
    let filled = c.in_ok-count.ensures.filled g.D.Device.tells_bytes s c.args.tree.now c.args.changes.now bound ready in
    omega (arith, filled.few, filled.most, c.in_ok-pending.ensures.few, c.requires.room.most)

pub returns-clause-wanted : goal.returns-clause-wanted
returns-clause-wanted g c =
    let s = store_of (reads (g.D.Device.disk (device_of c.args.blocks.now))) in
    let bound = length c.in_ok-pending.pending.standing.items + length c.in_ok-pending.pending.waiting.items in
    let ready = ready_to_fill (IsTrue g.D.Device.tells_bytes) s _ c.args.tree.now c.args.changes.now _ _ _ _ bound c.in_ok-dirty.dirty.items _ c.block_count-keep.ensures.value
    (λ told. ap (λ (d : Disk). store_of (reads d)) (c.parted.ensures.same told)) (omega arith) c.in_ok-pending.ensures.puts c.in_ok-pending.ensures.way (c.in_ok-dirty.ensures.through c.args.changes.now bound) in
    c.in_ok-with_first.ensures.wanted g.D.Device.tells_bytes s c.args.tree.now (wanted_is (IsTrue g.D.Device.tells_bytes) s c.args.tree.now c.args.changes.now bound c.block_count-keep.result c.in_ok-count.count c.fill_blocks.new.dirty.items c.requires.room
    c.in_ok-pending.ensures.few c.in_ok-pending.ensures.needed c.block_count-keep.ensures.value
    (c.in_ok-count.ensures.filled g.D.Device.tells_bytes s c.args.tree.now c.args.changes.now bound ready))
