use Rattle.std.proofs.Common.{◌≡◌, ◌<◌, [], ◌∷◌, length, get_or, take, drop, sym, subst, ◌∙◌, arith}
use Rattle.std.proofs.lemmas.List.{length-drop, take_more, get_or-drop}
use Rattle.sn_tree.specs.Steps.{AreHoles}
use Rattle.sn_tree.proofs.DirtyLemmas.{AreHoles-append}
use Rattle.sn_tree.proofs.indirect_copy.IndirectCopy.count_holes.Goals as goal

pub loop-count-preserved : goal.loop-count-preserved
loop-count-preserved c =
    let ps = c.pointers_in-pointers.result in
    let rest = drop c.args.from ps in
    let n = c.loop-count.count in
    let inside : n < length rest = omega (arith, c.loop-count-test.true, c.requires, length-drop c.args.from ps, c.pointers_in-pointers.ensures.are.count) in
    let here : get_or rest n 0 ≡ 0 = get_or-drop c.args.from ps n 0 ∙ sym c.pointer.ensures ∙ c.if-pointer-eq0.true in
    record {
      within = omega (arith, c.loop-count-test.true);
      holes = subst AreHoles (sym (take_more rest n 0 inside)) (AreHoles-append (take n rest) (get_or rest n 0 ∷ []) c.loop-count.invariant.holes (here, tt));
    }
