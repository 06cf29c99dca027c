use Rattle.std.proofs.Common.{◌*◌, ◌≤◌, ◌∙◌, length, sym, subst, rules}
use Rattle.sn_device.specs.Disk.{reads}
use Rattle.sn_device.specs.Sectors.{Stretch}
use Rattle.sn_device.proofs.CrashLemmas.{Touches-present}
use Rattle.sn_layout.specs.Geometry.{IsDiskSize, start_of}
use Rattle.sn_layout.specs.declared.geometry.Area.TheVariants.{Data}
use Rattle.sn_block.proofs.EffectLemmas.{OnOk-always}
use Rattle.sn_block.specs.Lending.{device_of}
use Rattle.sn_mkfs.specs.Writing.{marked_block}
use Rattle.sn_mkfs.specs.Fresh.{IsLaidOut}
use Rattle.sn_mkfs.proofs.WritingLemmas.{laid_out}
use Rattle.sn_mkfs.proofs.writing.lay_out.Goals as goal

pub returns-clause-laid_out : goal.returns-clause-laid_out
returns-clause-laid_out g c told =
    let n = c.args.geometry in
    let size : IsDiskSize n = search rules in
    let blank = c.in_ok-zero_range.ensures.disk told in
    let superblock = c.in_ok-write_superblock.ensures.disk told in
    let inodes = c.in_ok-write_inodes.ensures.disk told in
    let map = c.in_ok-write_map.ensures.disk told in
    let whole = g.met.D.Device.whole (device_of c.zero_range.new.self) told in
    let long : 8 * n ≤ length (reads (g.D.Device.disk (device_of c.zero_range.new.self))) =
    subst (λ k. 8 * n ≤ k) (sym (g.met.D.Device.count (device_of c.zero_range.new.self) told ∙ c.zero_range.ensures.counts.sectors)) c.requires.room in
    OnOk-always c.sync.result (subst (IsLaidOut n) (sym (c.sync.ensures.disk told).same)
    (laid_out n c.first_sector.result size c.first_sector.ensures _ _ _ _ whole long blank.done
    (Touches-present (Stretch 0 8) _ _ superblock.touched).others superblock.done
    (Touches-present (Stretch (8 * start_of n Data) 8) _ _ inodes.touched).others inodes.done
    (Touches-present (Stretch (8 * marked_block n) 8) _ _ map.touched).others map.done))
