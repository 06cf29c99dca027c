use Rattle.std.proofs.Common.{◌≡◌, ◌<◌, length, sym, ap, ◌∙◌, arith}
use Rattle.std.proofs.lemmas.Grind.{same_number_lists}
use Rattle.sn_layout_node.specs.Indirect.{pointers_of}
use Rattle.sn_tree.proofs.indirect_copy.IndirectCopy.list.Goals as goal

pub returns : goal.returns
returns c =
    let ps = c.pointers_in-pointers.result in
    let long : length ps ≡ length c.loop-i.numbers = omega (arith, c.pointers_in-pointers.ensures.are.count, c.loop-i.invariant.count) in
    let same : ps ≡ c.loop-i.numbers = same_number_lists ps c.loop-i.numbers long (λ k within.
    let under : k < c.loop-i.i = omega (arith, within, c.pointers_in-pointers.ensures.are.count, c.loop-i-test.false) in
    sym (c.loop-i.invariant.read k under)) in
    sym same ∙ c.pointers_in-pointers.ensures.value ∙ ap pointers_of c.deref.ensures ∙ c.self.view_is
