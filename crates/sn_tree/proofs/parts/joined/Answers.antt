use Rattle.std.proofs.Common.{◌≡◌, ◌<◌, ◌++◌, length, arith, length-append}
use Rattle.std.proofs.lemmas.Grind.{same_number_lists}
use Rattle.sn_tree.proofs.parts.joined.Goals as goal

pub returns : goal.returns
returns c =
    let all = c.args.front.now ++ c.args.behind.now in
    let long : length c.loop-i.pointer-items ≡ length all = omega (arith, length-append c.args.front.now c.args.behind.now, c.told-front, c.told-behind, c.loop-i-test.array_long) in
    same_number_lists c.loop-i.pointer-items all long (λ k within.
    let under : k < c.loop-i.i = omega (arith, within, c.loop-i-test.false) in
    c.loop-i.invariant k under)
