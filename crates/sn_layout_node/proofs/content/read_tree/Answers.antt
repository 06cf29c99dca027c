use Rattle.std.proofs.Common.{◌∙◌, sym, ap}
use Rattle.sn_layout_node.specs.Inode.{is_tree_size}
use Rattle.sn_layout.proofs.Fields.{true_false}
use Rattle.sn_layout_node.proofs.content.read_tree.Goals as goal
use Rattle.sn_layout_node.proofs.content.read_tree.Goals.{then-not-is_tree_size-via-then-not-is_tree_size, then-not-is_tree_size-via-else-not-is_tree_size+then-not-ends_at_size}

pub returns-then-not-is_tree_size-clause-only : goal.returns-then-not-is_tree_size-clause-only
returns-then-not-is_tree_size-clause-only c = λ t rest size fits e.
    let read = c.read-pointers.ensures.only t.pointers rest fits.0.pointers e in
    elim c.then-not-is_tree_size.branch [
      | then-not-is_tree_size-via-then-not-is_tree_size w ↦
          true_false c.is_tree_size.result (c.is_tree_size.ensures ∙ ap (is_tree_size c.args.limits.now c.args.kind) (sym size) ∙ fits.1) w.if-not-is_tree_size.true
      | then-not-is_tree_size-via-else-not-is_tree_size+then-not-ends_at_size w ↦
          true_false w.ends_at_size.result (w.ends_at_size.ensures ∙ rw (read.0, ← size) fits.2) w.if-not-ends_at_size.true
    ]
