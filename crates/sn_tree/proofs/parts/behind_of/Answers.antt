use Rattle.std.proofs.Common.{◌∙◌, drop, arith, length-drop}
use Rattle.std.proofs.lemmas.List.{take_all}
use Rattle.sn_tree.proofs.parts.behind_of.Goals as goal

pub returns : goal.returns
returns c = c.copy_from_slice.ensures.after ∙ take_all 1008 (drop 16 c.args.pointers.now) (omega (arith, length-drop 16 c.args.pointers.now, c.told-pointers))
