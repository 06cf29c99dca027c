use Rattle.std.proofs.Common.{◌≡◌, ◌*◌, ◌+◌, ◌∙◌, length, refl, ap, arith}
use Rattle.sn_device.specs.Disk.{Disk, reads}
use Rattle.sn_device.specs.Sectors.{sector_at}
use Rattle.sn_device.specs.declared.status.Status.{Status}
use Rattle.sn_block.specs.Lending.{device_of}
use Rattle.sn_block.proofs.BlockLemmas.{bytes_at-none}
use Rattle.sn_log.proofs.SectorLemmas.{take-read}
use borrow.Rule.Slice.PartMut.{same_len_mid}
use Rattle.sn_log.proofs.sectors.read_sectors.Goals as goal

pub loop-i-init : goal.loop-i-init
loop-i-init g c = record {
  status = refl;
  disk = λ told. refl;
  size = c.told-room;
  bytes = λ told. bytes_at-none (reads (g.D.Device.disk (device_of c.args.blocks.now))) (8 * c.args.start + c.args.place);
}

pub read_sector-requires-clause-disk : goal.read_sector-requires-clause-disk
read_sector-requires-clause-disk g c = omega (arith, c.requires.disk, ap (λ (s : Status). s.sectors) c.loop-i.invariant.status)

pub loop-i-preserved : goal.loop-i-preserved
loop-i-preserved g c =
    let long : length c.copy_from_slice.new.self ≡ 512 = ap length c.copy_from_slice.ensures.after ∙ c.read_sector.array_long in
    record {
      status = c.in_ok-read_sector.ensures.counts.done ∙ c.loop-i.invariant.status;
      disk = λ told. c.in_ok-read_sector.ensures.same told ∙ c.loop-i.invariant.disk told;
      size = same_len_mid (512 * c.loop-i.i) _ c.loop-i.room c.copy_from_slice.new.self c.copy_from_slice.ensures.len ∙ c.loop-i.invariant.size;
      bytes = λ told.
          let before = reads (g.D.Device.disk (device_of c.args.blocks.now)) in
          let is : c.read_sector.new.sector ≡ sector_at before (8 * c.args.start + c.args.place + c.loop-i.i) =
          c.in_ok-read_sector.ensures.bytes told
          ∙ ap (λ (d : Disk). sector_at (reads d) (8 * c.args.start + (c.args.place + c.loop-i.i))) (c.loop-i.invariant.disk told)
          ∙ ap (sector_at before) (omega arith) in
          take-read before (8 * c.args.start + c.args.place) c.loop-i.i _ c.loop-i.room c.copy_from_slice.new.self (omega (arith, c.loop-i.invariant.size)) long (c.copy_from_slice.ensures.after ∙ is) (c.loop-i.invariant.bytes told);
    }
