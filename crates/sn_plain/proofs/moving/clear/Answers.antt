use Rattle.std.proofs.Common.{◌≡◌, rules, Some, sym, subst, ◌∙◌}
use Rattle.std.specs.Prelude.{Option, ℕ}
use Rattle.sn_plain.specs.Stored.{Clears}
use Rattle.sn_plain.proofs.RenamingLemmas.{clears_file, clears_directory}
use Rattle.sn_plain.proofs.moving.clear.Goals as goal

pub returns-then-is_file : goal.returns-then-is_file
returns-then-is_file c =
    let some : c.args.target ≡ Some c.in-Some.number = search rules in
    subst (λ (o : Option ℕ). Clears c.args.directory o c.args.nodes.now c.args.first c.uncount_link.new.self c.args.first) (sym some)
    (clears_file c.args.directory c.in-Some.number c.args.nodes.now c.uncount_link.new.self c.args.first c.uncount_link.ensures.nodes c.uncount_link.ensures.stored (λ links. sym (c.is_file.ensures links) ∙ c.if-is_file.true))

pub returns : goal.returns
returns c =
    let some : c.args.target ≡ Some c.in-Some.number = search rules in
    subst (λ (o : Option ℕ). Clears c.args.directory o c.args.nodes.now c.args.first c.remove.new.self c.after_loss.result) (sym some)
    (clears_directory c.args.directory c.in-Some.number c.args.nodes.now c.uncount_link.new.self c.args.first c.uncount_link.ensures.nodes c.uncount_link.ensures.stored c.remove.new.self (λ links. sym (c.is_file.ensures links) ∙ c.if-is_file.false) c.remove.ensures.nodes c.remove.ensures.stored c.after_loss.result c.after_loss.ensures)
