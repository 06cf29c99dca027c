use Rattle.std.proofs.Common.{subst}
use Rattle.sn_block.specs.Lending.{device_of}
use Rattle.sn_device.specs.Disk.{Disk, reads}
use Rattle.sn_ondisk.specs.Trees.{store_of}
use Rattle.sn_image.specs.Image.{image}
use Rattle.sn_examine.specs.Both.{BothBreak, HasBoth}
use Rattle.sn_check_log.specs.Trying.{tree_of}
use Rattle.sn_check.proofs.LogLemmas.{both_tells, has_logged}
use Rattle.sn_check.proofs.logging.replay_log.Goals as goal

pub returns-in-Err-try_both-clause-fault : goal.returns-in-Err-try_both-clause-fault
returns-in-Err-try_both-clause-fault g c told free =
    let root = c.args.root.now in
    let disk = reads (g.D.Device.disk (device_of c.args.blocks.now)) in
    let f = c.in-Err-try_both.fault in
    let same = c.count_nameless.ensures.same told in
    let is = subst (λ (d : Disk). BothBreak root.limits f (reads d) (image (store_of (reads d)) root.inode_file) c.args.geometry root.epoch) same (c.in-Err-try_both.ensures.replayed told) in
    both_tells f c.args.geometry disk root free is

pub returns-clause-logged : goal.returns-clause-logged
returns-clause-logged g c told =
    let root = c.args.root.now in
    let disk = reads (g.D.Device.disk (device_of c.args.blocks.now)) in
    let r = c.in-Ok-try_both.tried in
    let dropped = c.in-Ok.dropped in
    let same = c.count_nameless.ensures.same told in
    let tree = tree_of r.live (image (store_of disk) root.inode_file) in
    let both = subst (λ (d : Disk). HasBoth root.limits (reads d) (image (store_of (reads d)) root.inode_file) c.args.geometry root.epoch r.at (tree_of r.live (image (store_of (reads d)) root.inode_file)) r.charges) same (c.in-Ok-try_both.ensures.replayed told) in
    let nameless = c.in-Ok.ensures.count told in
    has_logged c.args.geometry disk root r.at tree r.charges c.count.result dropped c.is_to_recover-recovers.result both c.count.ensures nameless c.is_to_recover-recovers.ensures
