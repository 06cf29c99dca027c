use Rattle.std.proofs.Common.{◌≡◌, ◌*◌, ◌+◌, ◌∙◌, length, take, refl, sym, ap, subst, arith}
use Rattle.std.proofs.lemmas.List.{take_all}
use Rattle.sn_device.specs.Disk.{reads, Disk}
use Rattle.sn_device.specs.Sectors.{sector_at}
use Rattle.sn_ondisk.specs.Blocks.{bytes_at}
use Rattle.sn_block.proofs.BlockLemmas.{take-read, bytes_at-none}
use borrow.Rule.Slice.PartMut.{same_len_mid}
use Rattle.sn_block.proofs.blocks.read_sectors.Goals as goal

pub loop-i-init : goal.loop-i-init
loop-i-init g c = record {
  status = refl;
  disk = λ told. refl;
  size = c.told-block;
  bytes = λ told. bytes_at-none (reads (g.D.Device.disk c.args.device.now)) (8 * c.args.number);
}

pub loop-i-preserved : goal.loop-i-preserved
loop-i-preserved g c =
    let long : length c.copy_from_slice.new.self ≡ 512 = ap length c.copy_from_slice.ensures.after ∙ c.read.array_long in
    record {
      status = c.in_ok-read.ensures.counts.done ∙ c.loop-i.invariant.status;
      disk = λ told. c.in_ok-read.ensures.same told ∙ c.loop-i.invariant.disk told;
      size = same_len_mid (512 * c.loop-i.i) _ c.loop-i.block c.copy_from_slice.new.self c.copy_from_slice.ensures.len ∙ c.loop-i.invariant.size;
      bytes = λ told.
          let is : c.read.new.sector ≡ sector_at (reads (g.D.Device.disk c.args.device.now)) (8 * c.args.number + c.loop-i.i) =
          c.in_ok-read.ensures.bytes told
          ∙ ap (λ (d : Disk). sector_at (reads d) (8 * c.from.result + c.loop-i.i)) (c.loop-i.invariant.disk told)
          ∙ ap (λ n. sector_at (reads (g.D.Device.disk c.args.device.now)) (8 * n + c.loop-i.i)) c.from.ensures in
          take-read (reads (g.D.Device.disk c.args.device.now)) c.args.number c.loop-i.i _ c.loop-i.block c.copy_from_slice.new.self (omega (arith, c.loop-i.invariant.size)) long (c.copy_from_slice.ensures.after ∙ is) (c.loop-i.invariant.bytes told);
    }

pub returns-clause-bytes : goal.returns-clause-bytes
returns-clause-bytes g c told =
    let all : c.loop-i.i ≡ 8 = omega arith in
    sym (take_all 4096 c.loop-i.block (omega (arith, c.loop-i.invariant.size)))
    ∙ subst (λ n. take (512 * n) c.loop-i.block ≡ bytes_at (reads (g.D.Device.disk c.args.device.now)) (8 * c.args.number) n) all (c.loop-i.invariant.bytes told)
