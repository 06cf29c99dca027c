use Rattle.std.proofs.Common.{◌∙◌, drop, arith, length-drop}
use Rattle.std.proofs.lemmas.List.{take_all}
use Rattle.sn_tree.proofs.parts.beside_of.Goals as goal

pub returns : goal.returns
returns c = c.copy_from_slice.ensures.after ∙ take_all 15 (drop 1 c.args.pointers.now) (omega (arith, length-drop 1 c.args.pointers.now, c.told-pointers))
