use Rattle.std.proofs.Common.{◌≡◌, ◌+◌, ◌*◌, ◌≤◌, List, length, sym, ap, subst, ◌∙◌, arith, IsTrue, mul-le-mul_right}
use Rattle.std.specs.Prelude.{◌^◌}
use Rattle.std.proofs.lemmas.Result.{on_ok_weaker}
use Rattle.sn_device.specs.Disk.{reads}
use Rattle.sn_block.specs.Lending.{device_of}
use Rattle.sn_ondisk.specs.Trees.{store_of, all_pointers}
use Rattle.sn_tree.specs.Dirty.{IsFrom}
use Rattle.sn_tree.specs.Plans.{contents, most_added}
use Rattle.sn_tree.specs.Steps.{Planned}
use Rattle.sn_tree.specs.declared.new_block.DirtyBlock.{DirtyBlock}
use Rattle.sn_tree.proofs.SpanLemmas.{span_most}
use Rattle.sn_tree.proofs.LevelLemmas.{cut_off, none_added}
use Rattle.sn_tree.proofs.levels.release_pointers.Goals as goal

pub plan_pointers-requires-clause-room : goal.plan_pointers-requires-clause-room
plan_pointers-requires-clause-room g c =
    let few : length c.args.pointers.now ≤ 1024 = c.requires.few in
    let wide : length c.args.pointers.now * 1024 ^ c.args.depth ≤ 1024 * 1024 ^ c.args.depth = mul-le-mul_right (1024 ^ c.args.depth) few in
    omega (arith, wide, span_most c.args.depth c.requires.depth)

pub plan_pointers-requires-clause-rise : goal.plan_pointers-requires-clause-rise
plan_pointers-requires-clause-rise g c = subst (λ (l : List DirtyBlock). IsFrom 0 l) (sym c.no_dirty-none.ensures) tt

pub returns-clause-cut : goal.returns-clause-cut
returns-clause-cut g c =
    let Told = IsTrue g.D.Device.tells_bytes in
    let s = store_of (reads (g.D.Device.disk (device_of c.args.blocks.now))) in
    let ps = c.args.pointers.now in
    let end = 0 + length ps * 1024 ^ c.args.depth in
    on_ok_weaker c.plan_pointers.result
    (λ step. cut_off Told s c.args.depth end ps c.plan_pointers.new.pointers c.plan_pointers.new.dirty.items c.args.build.now c.plan_pointers.new.build
    (subst (λ (l : List DirtyBlock). Planned Told s (all_pointers s c.args.depth ps) (contents s c.args.depth ps) c.args.depth 0 end 0 l c.plan_pointers.new.dirty.items c.plan_pointers.new.pointers c.args.build.now c.plan_pointers.new.build) c.no_dirty-none.ensures step))
    c.plan_pointers.ensures.planned

pub returns-clause-full : goal.returns-clause-full
returns-clause-full g c = λ is.
    let end = 0 + length c.args.pointers.now * 1024 ^ c.args.depth in
    let none : most_added c.args.depth 0 end 0 c.no_dirty-none.result.items ≡ 0 = ap (λ (l : List DirtyBlock). most_added c.args.depth 0 end 0 l) c.no_dirty-none.ensures ∙ none_added c.args.depth end in
    omega (arith, c.plan_pointers.ensures.full is, none)
