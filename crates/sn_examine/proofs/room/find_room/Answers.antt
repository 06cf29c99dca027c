use Rattle.std.proofs.Common.{ℕ, count_by, drop, refl, ap, ◌∙◌, arith}
use Rattle.sn_block.specs.Lending.{device_of}
use Rattle.sn_device.specs.Disk.{reads}
use Rattle.sn_layout.specs.declared.geometry.Area.TheVariants.{Log}
use Rattle.sn_layout.specs.declared.geometry.LogHalf.{LogHalf}
use Rattle.sn_layout.specs.Geometry.{start_of}
use Rattle.sn_map.specs.Free.{is_free_word}
use Rattle.sn_examine.proofs.RoomLemmas.{tells_free}
use Rattle.sn_examine.proofs.room.find_room.Goals as goal

pub returns-in-Some-clause-room : goal.returns-in-Some-clause-room
returns-in-Some-clause-room g c told = record {
  free = c.count_free_from-free.result;
  told = tells_free c.args.geometry (reads (g.D.Device.disk (device_of c.args.blocks.now))) c.args.slot c.args.root.now c.in-Ok.map c.count_free_from-free.result c.in-Ok.ensures.count (omega (arith, c.range.ensures.start, c.range.ensures.within, c.range.ensures.end)) (c.in-Ok.ensures.words told)
      (c.count_free_from-free.ensures ∙ ap (λ (k : ℕ). count_by is_free_word (drop k c.in-Ok.map)) c.range.ensures.start);
  is = c.in-Some.ensures.covered.0;
  covered = c.in-Some.ensures.covered.1;
}

pub returns-in-None-clause-uncovered : goal.returns-in-None-clause-uncovered
returns-in-None-clause-uncovered g c told = (
  refl,
  record {
    free = c.count_free_from-free.result;
    told = tells_free c.args.geometry (reads (g.D.Device.disk (device_of c.args.blocks.now))) c.args.slot c.args.root.now c.in-Ok.map c.count_free_from-free.result c.in-Ok.ensures.count (omega (arith, c.range.ensures.start, c.range.ensures.within, c.range.ensures.end)) (c.in-Ok.ensures.words told)
        (c.count_free_from-free.ensures ∙ ap (λ (k : ℕ). count_by is_free_word (drop k c.in-Ok.map)) c.range.ensures.start);
    uncovered = c.in-None.ensures.uncovered;
    is = c.range-in-None.ensures.start ∙ ap (λ (half : LogHalf). start_of c.args.geometry (Log half)) c.of_epoch.ensures;
  },
)
