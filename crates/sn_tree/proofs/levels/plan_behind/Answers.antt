use Rattle.std.proofs.Common.{◌≡◌, ℕ, ◌+◌, ◌*◌, List, length, refl, sym, subst, arith, IsTrue}
use Rattle.std.specs.Prelude.{◌^◌}
use Rattle.std.proofs.lemmas.Result.{on_ok_weaker}
use Rattle.std.proofs.lemmas.List.Elements.{recursion_from_All}
use Rattle.sn_device.specs.Disk.{reads}
use Rattle.sn_block.specs.Lending.{device_of}
use Rattle.sn_ondisk.specs.Trees.{store_of}
use Rattle.sn_tree.specs.Dirty.{IsFrom}
use Rattle.sn_tree.specs.declared.new_block.DirtyBlock.{DirtyBlock}
use Rattle.sn_tree.proofs.DirtyLemmas.{IsFrom-after}
use Rattle.sn_tree.proofs.FrontLemmas.{front_behind, front_full_behind, no_outside}
use Rattle.sn_tree.proofs.levels.plan_behind.Goals as goal

pub returns-clause-planned : goal.returns-clause-planned
returns-clause-planned g c = λ aim news bare front.
    let Told = IsTrue g.D.Device.tells_bytes in
    let t = store_of (reads (g.D.Device.disk (device_of c.args.blocks.now))) in
    let holes = c.args.pointers.now in
    on_ok_weaker c.plan_pointers.result
    (λ step. front_behind Told aim t c.args.depth c.args.first (c.args.first + length holes * 1024 ^ c.args.depth) holes news c.plan_pointers.new.pointers c.args.dirty.now.items c.plan_pointers.new.dirty.items c.args.build.now c.plan_pointers.new.build
    refl (recursion_from_All (λ (p : ℕ). p ≡ 0) holes c.requires.holes) bare front step)
    c.plan_pointers.ensures.planned

pub returns-clause-full : goal.returns-clause-full
returns-clause-full g c = λ aim news front is.
    front_full_behind (IsTrue g.D.Device.tells_bytes) aim c.args.depth c.args.first (c.args.first + length c.args.pointers.now * 1024 ^ c.args.depth) news c.args.dirty.now.items c.args.build.now (omega arith) front (c.plan_pointers.ensures.full is)

pub returns-clause-rise : goal.returns-clause-rise
returns-clause-rise g c =
    let end = c.args.first + length c.args.pointers.now * 1024 ^ c.args.depth in
    on_ok_weaker c.plan_pointers.result
    (λ step. subst (λ (l : List DirtyBlock). IsFrom end l) (sym step.rest) (IsFrom-after c.args.first end c.args.dirty.now.items c.requires.rise))
    c.plan_pointers.ensures.planned

pub returns-clause-sound : goal.returns-clause-sound
returns-clause-sound g c = λ told block is.
    no_outside (g.D.Device.status (device_of c.args.blocks.now)).sectors (store_of (reads (g.D.Device.disk (device_of c.args.blocks.now)))) c.args.depth c.args.pointers.now
    (recursion_from_All (λ (p : ℕ). p ≡ 0) c.args.pointers.now c.requires.holes) (c.plan_pointers.ensures.damaged told block is)
