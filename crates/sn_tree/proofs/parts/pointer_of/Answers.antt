use Rattle.std.proofs.Common.{sym, arith}
use Rattle.std.proofs.lemmas.List.{get_or_append_left, get_or-append_right}
use Rattle.sn_tree.proofs.parts.pointer_of.Goals as goal

pub returns-then-i-lt-POINTERS : goal.returns-then-i-lt-POINTERS
returns-then-i-lt-POINTERS c = sym (get_or_append_left c.args.front.now c.args.behind.now 0 c.args.i (omega (arith, c.told-front, c.if-i-lt-POINTERS.true)))

pub returns : goal.returns
returns c = sym (get_or-append_right c.args.front.now c.args.behind.now 16 c.args.i 0 c.told-front c.if-i-lt-POINTERS.false)
