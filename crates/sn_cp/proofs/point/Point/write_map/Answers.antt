use Rattle.std.proofs.Common.{ℕ, ◌+◌, ◌*◌, ◌<◌, ◌≤◌, Ok, List, ap, subst, ◌∙◌}
use Rattle.std.proofs.lemmas.Bool.{le-ltb, lt-ltb}
use Rattle.sn_block.specs.Effects.{WritesStretch}
use Rattle.sn_block.specs.Lending.{device_of}
use Rattle.sn_device.specs.declared.fault.Fault.{Fault}
use Rattle.sn_layout.specs.MapCopy.{map_block_bytes}
use Rattle.sn_ondisk.specs.MapLaws.{words_of_block}
use Rattle.sn_cp.specs.Points.{work_of}
use Rattle.sn_cp.proofs.StepLemmas.{last_steps, map_reached, map_steps}
use Rattle.sn_cp.proofs.point.Point.write_map.Goals as goal

pub returns-then-k-map_blocks-clause-bytes : goal.returns-then-k-map_blocks-clause-bytes
returns-then-k-map_blocks-clause-bytes g c told =
    let k = c.args.k in
    let is = c.map_block-block.ensures ∙ ap (λ (ws : List ℕ). map_block_bytes (words_of_block k ws)) c.words.ensures in
    let old = g.D.Device.disk (device_of c.args.blocks.now) in
    let mid = g.D.Device.disk (device_of c.write_block.new.self) in
    let writes = subst (λ (s : ℕ). WritesStretch {E = Fault} (8 * (s + k)) 8 c.map_block-block.result (Ok c.in-Ok.field-0) old mid) c.range-start.ensures.start (c.in-Ok.ensures.disk told) in
    let more = lt-ltb (k + 1) _ (subst (λ (m : ℕ). k + 1 < m) c.map_blocks.ensures c.if-k-map_blocks.true) in
    map_steps (work_of c.args.self.now) c.requires.whole k c.requires.within (Ok c.in-Ok.field-0) old mid (g.met.D.Device.whole (device_of c.args.blocks.now) told) (c.requires.stands told) c.map_block-block.result is writes more

pub returns-clause-bytes : goal.returns-clause-bytes
returns-clause-bytes g c told =
    let k = c.args.k in
    let is = c.map_block-block.ensures ∙ ap (λ (ws : List ℕ). map_block_bytes (words_of_block k ws)) c.words.ensures in
    let old = g.D.Device.disk (device_of c.args.blocks.now) in
    let mid = g.D.Device.disk (device_of c.write_block.new.self) in
    let whole = g.met.D.Device.whole (device_of c.args.blocks.now) told in
    let writes = subst (λ (s : ℕ). WritesStretch {E = Fault} (8 * (s + k)) 8 c.map_block-block.result (Ok c.in-Ok.field-0) old mid) c.range-start.ensures.start (c.in-Ok.ensures.disk told) in
    let last = le-ltb (k + 1) _ (subst (λ (m : ℕ). m ≤ k + 1) c.map_blocks.ensures c.if-k-map_blocks.false) in
    let wrote = map_reached (work_of c.args.self.now) c.requires.whole k c.requires.within (Ok c.in-Ok.field-0) old mid whole (c.requires.stands told) c.map_block-block.result is writes in
    last_steps (work_of c.args.self.now) c.requires.whole k c.requires.within (Ok c.in-Ok.field-0) old mid whole (c.requires.stands told) c.map_block-block.result is writes last wrote c.sync.result (g.D.Device.disk (device_of c.sync.new.self)) (c.sync.ensures.disk told)
