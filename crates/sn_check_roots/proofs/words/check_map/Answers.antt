use Rattle.std.proofs.Common.{◌≡◌, ℕ, ◌+◌, ◌*◌, ◌<◌, ◌≤◌, List, length, refl, sym, ap, subst, ◌∙◌, arith}
use Rattle.std.proofs.lemmas.Result.{err_from_is_err_and}
use Rattle.sn_device.specs.Disk.{Disk, reads}
use Rattle.sn_device.specs.declared.status.Status.{Status}
use Rattle.sn_block.specs.Lending.{device_of}
use Rattle.sn_layout.specs.declared.geometry.Area.TheVariants.{MapCopy}
use Rattle.sn_layout.specs.Geometry.{map_blocks, start_of}
use Rattle.sn_ondisk.specs.Blocks.{block_at, numbers_in}
use Rattle.sn_marks.proofs.WalkLemmas.{tells_weaker}
use Rattle.sn_check_roots.specs.Words.{HasFirst, HasOtherWord, IsOther}
use Rattle.sn_check_roots.proofs.WordLemmas.{copy_end, first_more, first_none, other_here, words_moved}
use Rattle.sn_check_roots.proofs.words.check_map.Goals as goal

pub loop-i-init : goal.loop-i-init
loop-i-init g c = record { same = λ told. refl; status = refl; first = λ told. first_none _ _ _ _ }

pub check_words-requires : goal.check_words-requires
check_words-requires g c =
    let within : c.loop-i.i < map_blocks c.args.geometry = omega (arith, c.loop-i-test.true, c.map_blocks-i-end.ensures) in
    record {
      room = subst (λ (status : Status). 8 * (c.range-copy.result.start + c.loop-i.i) + 8 ≤ status.sectors) (sym c.loop-i.invariant.status)
          (omega (arith, within, c.requires.room, c.range-copy.ensures.start, c.range-copy.ensures.within, copy_end c.args.geometry c.args.slot));
      from = omega (arith, within, c.blocks-2.ensures.valid.most, c.blocks-2.ensures.blocks);
    }

pub loop-i-preserved : goal.loop-i-preserved
loop-i-preserved g c =
    let device = device_of c.args.blocks.now in
    let disk = reads (g.D.Device.disk device) in
    let within : c.loop-i.i < map_blocks c.args.geometry = omega (arith, c.loop-i-test.true, c.map_blocks-i-end.ensures) in
    record {
      same = λ told. c.check_words.ensures.same told ∙ c.loop-i.invariant.same told;
      status = c.in_ok-check_words.ensures.counts.done ∙ c.loop-i.invariant.status;
      first = λ told.
          let room : 8 * (start_of c.args.geometry (MapCopy c.args.slot) + map_blocks c.args.geometry) ≤ length disk =
          omega (arith, copy_end c.args.geometry c.args.slot, c.range-copy.ensures.within, c.requires.room, g.met.D.Device.count device told) in
          let from : c.loop-i.i * 1024 ≡ 1024 * c.loop-i.i = omega arith in
          first_more c.args.geometry disk c.args.slot (g.met.D.Device.whole device told) room c.args.map.now c.loop-i.i within (c.loop-i.invariant.first told)
          (words_moved disk (reads (g.D.Device.disk (device_of c.loop-i.blocks))) c.args.map.now (c.range-copy.result.start + c.loop-i.i) (start_of c.args.geometry (MapCopy c.args.slot) + c.loop-i.i) (c.loop-i.i * 1024) (1024 * c.loop-i.i)
          (ap (λ (d : Disk). reads d) (c.loop-i.invariant.same told)) (ap (λ (m : ℕ). m + c.loop-i.i) c.range-copy.ensures.start) from (c.in_ok-check_words.ensures.words told));
    }

pub returns-in_err-check_words-clause-fault : goal.returns-in_err-check_words-clause-fault
returns-in_err-check_words-clause-fault g c told =
    let device = device_of c.args.blocks.now in
    let disk = reads (g.D.Device.disk device) in
    let within : c.loop-i.i < map_blocks c.args.geometry = omega (arith, c.loop-i-test.true, c.map_blocks-i-end.ensures) in
    let room : 8 * (start_of c.args.geometry (MapCopy c.args.slot) + map_blocks c.args.geometry) ≤ length disk =
    omega (arith, copy_end c.args.geometry c.args.slot, c.range-copy.ensures.within, c.requires.room, g.met.D.Device.count device told) in
    let from : c.loop-i.i * 1024 ≡ 1024 * c.loop-i.i = omega arith in
    let bytes : block_at (reads (g.D.Device.disk (device_of c.loop-i.blocks))) (c.range-copy.result.start + c.loop-i.i) ≡ block_at disk (start_of c.args.geometry (MapCopy c.args.slot) + c.loop-i.i) =
    ap (λ (d : Disk). block_at (reads d) (c.range-copy.result.start + c.loop-i.i)) (c.loop-i.invariant.same told) ∙ ap (λ (m : ℕ). block_at disk (m + c.loop-i.i)) c.range-copy.ensures.start in
    let p = err_from_is_err_and c.from_residual.result c.from_residual.ensures.1 in
    rw (p.1, p.2) (tells_weaker c.in_err-check_words.field-0.0
    (IsOther (numbers_in 1024 (block_at (reads (g.D.Device.disk (device_of c.loop-i.blocks))) (c.range-copy.result.start + c.loop-i.i))) c.args.map.now (c.loop-i.i * 1024))
    (HasOtherWord c.args.geometry disk c.args.slot c.args.map.now)
    (λ damage block wrong. other_here c.args.geometry disk c.args.slot (g.met.D.Device.whole device told) room c.args.map.now c.loop-i.i (c.loop-i.i * 1024) damage block within from
    (subst (λ (b : List ℕ). IsOther (numbers_in 1024 b) c.args.map.now (c.loop-i.i * 1024) damage block) bytes wrong))
    (c.in_err-check_words.ensures.fault told))

pub returns-clause-words : goal.returns-clause-words
returns-clause-words g c told =
    let all : c.loop-i.i ≡ map_blocks c.args.geometry = omega (arith, c.loop-i-test.false, c.map_blocks-i-end.ensures, c.loop-i.auto.i-end) in
    subst (HasFirst c.args.geometry (reads (g.D.Device.disk (device_of c.args.blocks.now))) c.args.slot c.args.map.now) all (c.loop-i.invariant.first told)
