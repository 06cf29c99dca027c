use Rattle.std.proofs.Common.{Some, sym, subst}
use Rattle.sn_model.specs.Changes.{take_node}
use Rattle.sn_model.specs.Tree.{Tree}
use Rattle.sn_numbers.specs.Back.{held_of}
use Rattle.sn_number_table.specs.Numbers.{AreTaken, next_after}
use Rattle.sn_plain.specs.Plain.{tree_of}
use Rattle.sn_number_table.proofs.FreeLemmas.{dropped_keeps, taken_after}
use Rattle.sn_numbers.proofs.numbered.NumberedTree.drop_file.Goals as goal

pub invariant_of-self : goal.invariant_of-self
invariant_of-self c =
    let old = c.args.self.now in
    let kept = held_of old.kept_back in
    let lost = taken_after (tree_of old.tree) (take_node (tree_of old.tree) c.args.number) kept old.next old.taken (Some c.args.number) (dropped_keeps (tree_of old.tree) c.args.number) in
    let after = subst (λ (t : Tree). AreTaken t kept (next_after t old.next (Some c.args.number))) (sym c.drop_file.ensures) lost in
    record { taken = subst (AreTaken (tree_of c.drop_file.new.self) kept) (sym c.next_after_loss-self.ensures) after }
