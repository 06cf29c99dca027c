use Rattle.std.proofs.Common.{◌≤◌, length, sym, ap, arith}
use Rattle.std.proofs.lemmas.List.{get_or_past}
use Rattle.sn_tree_read.proofs.entries.first_pointer.Goals as goal

pub returns-then-i-pointers : goal.returns-then-i-pointers
returns-then-i-pointers c =
    let past : length c.args.tree.now.pointers ≤ c.args.i = omega (arith, ap length c.as_slice-pointers.ensures.value) in
    sym (get_or_past c.args.tree.now.pointers c.args.i 0 past)
