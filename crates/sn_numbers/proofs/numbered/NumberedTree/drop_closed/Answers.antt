use Rattle.std.proofs.Common.{sym, subst}
use Rattle.sn_model.specs.Tree.{Tree}
use Rattle.sn_numbers.specs.Back.{held_of}
use Rattle.sn_number_table.specs.Numbers.{AreTaken}
use Rattle.sn_plain.specs.Plain.{tree_of}
use Rattle.sn_number_table.proofs.FreeLemmas.{taken_closed}
use Rattle.sn_numbers.proofs.numbered.NumberedTree.drop_closed.Goals as goal

pub invariant_of-self : goal.invariant_of-self
invariant_of-self c =
    let old = c.args.self.now in
    let after = taken_closed (tree_of old.tree) (held_of old.kept_back) (held_of c.put.new.self) old.next c.args.number c.put.ensures.held old.taken in
    record { taken = subst (λ (t : Tree). AreTaken t (held_of c.put.new.self) old.next) (sym c.drop_file.ensures) after }
