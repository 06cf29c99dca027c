use Rattle.std.proofs.Common.{◌<◌, length, refl, arith}
use Rattle.std.proofs.lemmas.Bool.{leb-false}
use Rattle.sn_tree.proofs.DirtyLemmas.{used_at}
use Rattle.sn_tree.proofs.pointers.is_clean.Goals as goal

pub returns-in-Some-clause-dirty : goal.returns-in-Some-clause-dirty
returns-in-Some-clause-dirty c = λ before.
    let some : 0 < length c.args.dirty.now.items = omega (arith, c.in-Some.ensures.variant.0 refl, c.args.dirty.now.ok) in
    used_at c.args.dirty.now.items c.in-Some.block.now c.args.end some c.in-Some.ensures.lookup (leb-false c.args.end c.in-Some.block.now.index before)
