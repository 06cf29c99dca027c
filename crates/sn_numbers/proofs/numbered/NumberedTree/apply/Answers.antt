use Rattle.std.proofs.Common.{◌≡◌, ℕ, Option, None, Some, sym, subst, ap, ◌∙◌}
use Rattle.sn_model.specs.declared.change.Change.{Change}
use Rattle.sn_model.specs.declared.change.Change.TheVariants.{Make}
use Rattle.sn_model.specs.Changes.{apply}
use Rattle.sn_model.specs.Settling.{loses}
use Rattle.sn_numbers.specs.Back.{held_of}
use Rattle.sn_number_table.specs.Numbers.{AreTaken, next_after}
use Rattle.sn_plain.specs.Plain.{tree_of}
use Rattle.sn_number_table.proofs.FreeLemmas.{change_keeps, made_there, taken_after}
use Rattle.sn_numbers.proofs.numbered.NumberedTree.apply.Goals as goal

pub next_after_make-self-requires-clause-taken : goal.next_after_make-self-requires-clause-taken
next_after_make-self-requires-clause-taken c =
    let old = c.args.self.now in
    let tree = tree_of old.tree in
    let after = tree_of c.apply.new.self in
    let make = Make c.in-Make.directory c.in-Make.name c.in-Make.number c.in-Make.kind c.in-Make.ownership in
    let applied : apply c.args.limits.now make tree ≡ Some after = ap (λ (change : Change). apply c.args.limits.now change tree) (sym c.in-Make.is) ∙ c.in-Ok.ensures in
    c.release-next.ensures.next after (taken_after tree after (held_of old.kept_back) old.next old.taken None (change_keeps c.args.limits.now make tree after applied))

pub next_after_make-self-requires-clause-there : goal.next_after_make-self-requires-clause-there
next_after_make-self-requires-clause-there c =
    let tree = tree_of c.args.self.now.tree in
    let after = tree_of c.apply.new.self in
    let applied : apply c.args.limits.now (Make c.in-Make.directory c.in-Make.name c.in-Make.number c.in-Make.kind c.in-Make.ownership) tree ≡ Some after = ap (λ (change : Change). apply c.args.limits.now change tree) (sym c.in-Make.is) ∙ c.in-Ok.ensures in
    made_there c.args.limits.now tree after c.in-Make.directory c.in-Make.name c.in-Make.number c.in-Make.kind c.in-Make.ownership applied

pub invariant_of-self-in_default : goal.invariant_of-self-in_default
invariant_of-self-in_default c =
    let old = c.args.self.now in
    let tree = tree_of old.tree in
    let after = tree_of c.apply.new.self in
    let kept = held_of old.kept_back in
    let lost = taken_after tree after kept old.next old.taken (loses c.args.change.now tree) (change_keeps c.args.limits.now c.args.change.now tree after (c.in-Ok.ensures)) in
    let next : c.next_after_loss-self.result ≡ next_after after old.next (loses c.args.change.now tree) = c.next_after_loss-self.ensures ∙ ap (λ (o : Option ℕ). next_after after old.next o) c.loses-lost.ensures in
    record { taken = subst (AreTaken after kept) (sym next) lost }
