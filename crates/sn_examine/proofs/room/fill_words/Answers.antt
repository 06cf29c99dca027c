use Rattle.std.proofs.Common.{◌≡◌, ℕ, ◌+◌, ◌-◌, ◌*◌, ◌/◌, ◌<◌, ◌≤◌, length, take, drop, min, sym, ap, subst, ◌∙◌, arith}
use Rattle.std.proofs.lemmas.List.{length-drop, length-take}
use borrow.Rule.Slice.PartMut.{same_len_mid}
use Rattle.sn_device.specs.Disk.{Disk, reads}
use Rattle.sn_block.specs.Lending.{device_of}
use Rattle.sn_layout.specs.declared.geometry.Area.TheVariants.{MapCopy}
use Rattle.sn_layout.specs.MapCopy.{map_block_bytes}
use Rattle.sn_layout.specs.Geometry.{start_of}
use Rattle.sn_ondisk.specs.Blocks.{block_at}
use Rattle.sn_examine.proofs.RoomLemmas.{next_read}
use Rattle.sn_examine.proofs.room.fill_words.Goals as goal

pub loop-at-preserved : goal.loop-at-preserved
loop-at-preserved g c =
    let device = device_of c.args.blocks.now in
    let disk = reads (g.D.Device.disk device) in
    let long = c.loop-at.invariant.count in
    let inside : c.loop-at.at < c.args.geometry = omega (arith, c.loop-at-test.true, long) in
    let is : c.min-end.result ≡ min c.args.geometry (c.loop-at.at + 1024) = c.min-end.ensures ∙ ap (λ (n : ℕ). min n (c.loop-at.at + 1024)) long in
    let part : length (take (c.min-end.result - c.loop-at.at) (drop c.loop-at.at c.loop-at.words)) ≡ c.min-end.result - c.loop-at.at =
    omega (arith, length-take (c.min-end.result - c.loop-at.at) (drop c.loop-at.at c.loop-at.words), length-drop c.loop-at.at c.loop-at.words, long, is, inside) in
    record {
      read = λ told.
          let room : 8 * c.range-first.result.end ≤ length disk = omega (arith, c.range-first.ensures.within, c.requires.disk, g.met.D.Device.count device told) in
          next_read c.args.geometry disk c.args.slot c.loop-at.words c.read_words.new.words c.loop-at.at c.min-end.result (g.met.D.Device.whole device told)
          (subst (λ (n : ℕ). 8 * n ≤ length disk) c.range-first.ensures.end room) long inside (c.loop-at.invariant.whole inside) is (c.read_words.auto.words ∙ part)
          (λ all count fits here. c.in-Ok.ensures.words told all (count ∙ sym part) fits
          (subst (λ (n : ℕ). block_at (reads (g.D.Device.disk (device_of c.loop-at.blocks))) (n + c.loop-at.at / 1024) ≡ map_block_bytes all) (sym c.range-first.ensures.start)
          (subst (λ (d : Disk). block_at (reads d) (start_of c.args.geometry (MapCopy c.args.slot) + c.loop-at.at / 1024) ≡ map_block_bytes all) (sym (c.loop-at.invariant.same told)) here)))
          (c.loop-at.invariant.read told);
      count = same_len_mid c.loop-at.at (c.min-end.result - c.loop-at.at) c.loop-at.words c.read_words.new.words c.read_words.auto.words ∙ long;
      within = omega (arith, is);
      whole = λ more. omega (arith, more, is, c.loop-at.invariant.whole inside);
      same = λ told. c.in-Ok.ensures.same told ∙ c.loop-at.invariant.same told;
      status = c.in-Ok.ensures.idle ∙ c.loop-at.invariant.status;
    }
