use Rattle.std.proofs.Common.{rules, ◌≡◌, IsTrue, ℕ, ◌+◌, ◌-◌, ◌<◌, ◌≤◌, Bool, true, false, if◌then◌else◌, refl, sym, ap, subst, arith}
use Rattle.sn_device.specs.Disk.{Disk, reads}
use Rattle.sn_image.specs.Image.{image}
use Rattle.sn_ondisk.specs.Trees.{store_of}
use Rattle.sn_block.specs.Lending.{device_of}
use Rattle.sn_log.specs.Positions.{LogPosition}
use Rattle.sn_rooted.specs.Roots.{tree_on}
use Rattle.sn_examine.specs.Replaying.{HasReplayed, LeadsOn}
use Rattle.sn_examine.proofs.ReplayLemmas.{starts}
use Rattle.sn_check_log.specs.Trying.{changes_if, tree_of}
use Rattle.sn_check_log.proofs.replaying.try_epoch.Goals as goal

pub loop-more-init : goal.loop-more-init
loop-more-init g c =
    let first = c.new-replay.ensures in
    let limits = c.args.it.now.root.now.limits in
    let from = tree_of c.args.live (tree_on c.args.blocks.now c.args.it.now.root.now.inode_file) in
    record {
      replayed = λ told. subst (λ (p : LogPosition). HasReplayed limits (reads (g.D.Device.disk (device_of c.args.blocks.now))) from p from 0) (sym first) (starts limits (reads (g.D.Device.disk (device_of c.args.blocks.now))) from c.args.it.now.geometry c.args.epoch);
      changed = λ told root before has. has;
      tried = c.requires.tried;
      point = c.requires.point;
      keeps = c.requires.keeps;
      few = omega arith;
      blocks = ap (λ (p : LogPosition). p.blocks) first;
      epoch = ap (λ (p : LogPosition). p.epoch) first;
      same = λ told. refl;
      status = refl;
    }

pub loop-more-preserved : goal.loop-more-preserved
loop-more-preserved g c = record {
  replayed = search rules;
  changed = λ told root before has. step told root before (c.loop-more.invariant.changed told root before has);
  tried = search rules;
  point = search rules;
  keeps = search rules;
  few = search rules;
  blocks = search rules;
  epoch = search rules;
  same = search rules;
  status = search rules;
}
  where
    step : IsTrue g.D.Device.tells_bytes → LeadsOn c.args.it.now.root.now.limits (changes_if c.loop-more.live) (tree_of c.loop-more.live (tree_on c.args.blocks.now c.args.it.now.root.now.inode_file)) c.loop-more.charges
        (changes_if c.try_next.new.live) (tree_of c.try_next.new.live (tree_on c.args.blocks.now c.args.it.now.root.now.inode_file)) c.try_next.new.charges
    step told =
        subst (λ (d : Disk). LeadsOn c.args.it.now.root.now.limits (changes_if c.loop-more.live) (tree_of c.loop-more.live (image (store_of (reads d)) c.args.it.now.root.now.inode_file)) c.loop-more.charges (changes_if c.try_next.new.live) (tree_of c.try_next.new.live (image (store_of (reads d)) c.args.it.now.root.now.inode_file)) c.try_next.new.charges)
        (c.loop-more.invariant.same told) (c.in_ok-more.ensures.changed told)

smaller : (old new : ℕ) (more : Bool) → old ≤ 255 → old ≤ new → (more ≡ true → old < new) → 256 - new + (if more then 1 else 0) < 256 - old + 1
smaller old new true within onward further = let h = further refl in omega (arith, within, h)
smaller old new false within onward further = omega (arith, within, onward)

pub loop-more-smaller : goal.loop-more-smaller
loop-more-smaller g c =
    let old = c.loop-more.replay.place in
    let new = c.try_next.new.replay.place in
    let h = smaller old new c.in_ok-more.more c.try_next.ensures.within c.in_ok-more.ensures.onward c.in_ok-more.ensures.further in
    subst (λ (b : Bool). 256 - new + (if c.in_ok-more.more then 1 else 0) < 256 - old + (if b then 1 else 0)) (sym c.loop-more-test.true) h
