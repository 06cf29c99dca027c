use Rattle.std.proofs.Common.{◌≡◌, IsTrue, ap, inr, ℕ, subst}
use Rattle.sn_device.specs.Disk.{Disk, reads}
use Rattle.sn_block.specs.Lending.{device_of}
use Rattle.sn_ondisk.specs.Trees.{store_of, tree_reach}
use Rattle.sn_dir_change.proofs.PlannedLemmas.{begin_before, too_full, planned_result}
use Rattle.sn_tree.specs.Steps.{LeadsOutsideAt}
use Rattle.sn_dir_change.proofs.planned.change.Goals as goal

pub returns-clause-planned : goal.returns-clause-planned
returns-clause-planned g c =
    let Told = IsTrue g.D.Device.tells_bytes in
    let s = store_of (reads (g.D.Device.disk (device_of c.args.blocks.now))) in
    let t = store_of (reads (g.D.Device.disk (device_of c.wanted.new.blocks))) in
    let same : Told → t ≡ s = (λ told. ap (λ (d : Disk). store_of (reads d)) (c.wanted.ensures.same told)) in
    planned_result Told s c.args.tree.now c.args.changes.now c.in_ok-dirty.dirty.size c.in_ok-dirty.dirty.keep c.in_ok-dirty.dirty.blocks.items t c.args.build.now c.plan_tree.new.build c.plan_tree.result
    c.requires.room c.in_ok-dirty.ensures.wanted c.in_ok-dirty.ensures.first same c.plan_tree.ensures.size c.plan_tree.ensures.planned

pub plan_tree-requires : goal.plan_tree-requires
plan_tree-requires g c =
    let blocks = c.in_ok-dirty.ensures.wanted.blocks in
    record { rise = blocks.rise; begins = begin_before c.in_ok-dirty.dirty.size c.in_ok-dirty.dirty.blocks.items blocks.before }

pub returns-clause-full : goal.returns-clause-full
returns-clause-full g c =
    let Told = IsTrue g.D.Device.tells_bytes in
    let s = store_of (reads (g.D.Device.disk (device_of c.args.blocks.now))) in
    let dirty = c.in_ok-dirty.dirty in
    too_full Told s c.args.tree.now c.args.changes.now dirty.size dirty.keep dirty.blocks.items c.plan_tree.result c.args.build.now c.in_ok-dirty.ensures.wanted c.plan_tree.ensures.full

pub returns-clause-damaged : goal.returns-clause-damaged
returns-clause-damaged g c told block is =
    let tree = c.args.tree.now in
    let sectors = (g.D.Device.status (device_of c.wanted.new.blocks)).sectors in
    inr (subst (λ (n : ℕ). LeadsOutsideAt n (tree_reach (store_of (reads (g.D.Device.disk (device_of c.args.blocks.now)))) tree) block) c.wanted.ensures.counts.sectors
    (subst (λ (d : Disk). LeadsOutsideAt sectors (tree_reach (store_of (reads d)) tree) block) (c.wanted.ensures.same told) (c.plan_tree.ensures.damaged told block is)))
