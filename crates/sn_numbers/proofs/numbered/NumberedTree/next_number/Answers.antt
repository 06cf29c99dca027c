use Rattle.std.proofs.Common.{sym, ◌∙◌, arith}
use Rattle.sn_numbers.specs.Back.{held_of}
use Rattle.sn_plain.specs.Plain.{tree_of}
use Rattle.sn_number_table.proofs.FreeLemmas.{next_is, next_of_kept, taken_below}
use Rattle.sn_numbers.proofs.numbered.NumberedTree.next_number.Goals as goal

pub returns-then-number-from : goal.returns-then-number-from
returns-then-number-from c =
    let old = c.args.self.now in
    let number = c.first_free-number.result in
    let below = taken_below (tree_of old.tree) (held_of old.kept_back) old.next number old.taken c.first_free-number.ensures.taken in
    sym (next_is (tree_of old.tree) (held_of old.kept_back) c.args.limits.now number below (c.first_free-number.ensures.free (omega arith)) (omega (arith, old.taken.low, c.first_free-number.ensures.low)) (omega arith))

pub returns : goal.returns
returns c =
    let old = c.args.self.now in
    let number = c.first_free-number.result in
    let below = taken_below (tree_of old.tree) (held_of old.kept_back) old.next number old.taken c.first_free-number.ensures.taken in
    c.least_unused.ensures ∙ sym (next_of_kept (tree_of old.tree) (held_of old.kept_back) c.args.limits.now number below (omega arith))
