use Rattle.std.proofs.Common.{◌*◌, ℕ, List, subst, arith}
use Rattle.sn_block.specs.Effects.{WritesStretch}
use Rattle.sn_block.specs.Lending.{device_of}
use Rattle.sn_cp.specs.Points.{work_of, written_by}
use Rattle.sn_cp.proofs.StepLemmas.{block_steps, lent_at, lies_at}
use Rattle.sn_cp.proofs.point.Point.write_new.Goals as goal

pub write_block-requires : goal.write_block-requires
write_block-requires g c =
    let w = work_of c.args.self.now in
    let at = lent_at c.args.self.now.blocks.items c.deref.result.now c.args.k c.in-Some.block.now _ c.deref.ensures.value c.in-Some.ensures.lookup.1 c.requires.within in
    let lie = lies_at w.blocks w.plan.blocks c.args.k (written_by c.in-Some.block.now) c.requires.whole.place at in
    record { room = omega (arith, lie.below, c.requires.room) }

pub returns-clause-bytes : goal.returns-clause-bytes
returns-clause-bytes g c told =
    let w = work_of c.args.self.now in
    let k = c.args.k in
    let at = lent_at c.args.self.now.blocks.items c.deref.result.now k c.in-Some.block.now _ c.deref.ensures.value c.in-Some.ensures.lookup.1 c.requires.within in
    let old = g.D.Device.disk (device_of c.args.blocks.now) in
    let new = g.D.Device.disk (device_of c.write_block.new.self) in
    let writes = subst (λ (bytes : List ℕ). WritesStretch (8 * c.in-Some.block.now.number) 8 bytes c.write_block.result old new) c.deref-2.ensures (c.write_block.ensures.disk told) in
    block_steps w c.requires.whole k c.requires.within (written_by c.in-Some.block.now) at c.write_block.result old new (g.met.D.Device.whole (device_of c.args.blocks.now) told) (c.requires.stands told) writes
