use Rattle.std.proofs.Common.{◌<◌, ◌∙◌, length, refl, arith}
use Rattle.sn_tree.proofs.RunLemmas.{kept_first}
use Rattle.sn_tree.proofs.pointers.stays_until.Goals as goal

pub returns-in-Some : goal.returns-in-Some
returns-in-Some c =
    let some : 0 < length c.args.dirty.now.items = omega (arith, c.in-Some.ensures.variant.0 refl, c.args.dirty.now.ok) in
    c.min.ensures ∙ kept_first c.args.keep c.args.dirty.now.items c.in-Some.block.now some c.in-Some.ensures.lookup
