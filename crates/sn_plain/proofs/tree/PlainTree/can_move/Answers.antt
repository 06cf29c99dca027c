use Rattle.std.proofs.Common.{◌≡◌, Bool, false, None, Some, sym, ap, ◌∙◌}
use Rattle.sn_model.specs.Tree.{Node}
use Rattle.sn_model.proofs.ChainLemmas.{some_same}
use Rattle.sn_plain.specs.Plain.{tree_of}
use Rattle.sn_plain.proofs.RenamingLemmas.{no_directory, no_name, not_replaced, room_decides}
use Rattle.sn_plain.proofs.tree.PlainTree.can_move.Goals as goal

pub returns-then-not-is_directory_at-clause-exact : goal.returns-then-not-is_directory_at-clause-exact
returns-then-not-is_directory_at-clause-exact c = λ node there.
    no_directory c.args.limits.now (tree_of c.args.self.now) c.args.old.now c.args.new.now c.args.number node c.args.target c.requires.old c.requires.new c.requires.apart (sym c.is_directory_at.ensures ∙ c.if-not-is_directory_at.true)

pub returns-then-not-can_replace-clause-exact : goal.returns-then-not-can_replace-clause-exact
returns-then-not-can_replace-clause-exact c = λ node there.
    let kind : node.kind ≡ c.in-Some.node.now.kind = ap (λ (n : Node). n.kind) (some_same _ _ (sym there ∙ sym c.in-Some.ensures.nodes)) in
    not_replaced c.args.limits.now (tree_of c.args.self.now) c.args.old.now c.args.new.now c.args.number node c.args.target c.requires.old c.requires.new c.requires.apart (sym (c.can_replace.ensures c.args.new.now node kind) ∙ c.if-not-can_replace.true)

pub returns-then-not-is_new_name-clause-exact : goal.returns-then-not-is_new_name-clause-exact
returns-then-not-is_new_name-clause-exact c = λ node there.
    let kind : node.kind ≡ c.in-Some.node.now.kind = ap (λ (n : Node). n.kind) (some_same _ _ (sym there ∙ sym c.in-Some.ensures.nodes)) in
    no_name c.args.limits.now (tree_of c.args.self.now) c.args.old.now c.args.new.now c.args.number node c.args.target c.requires.old c.requires.new c.requires.apart (sym (c.is_new_name.ensures node kind) ∙ c.if-not-is_new_name.true)

pub returns-clause-exact : goal.returns-clause-exact
returns-clause-exact c = λ node there.
    let kind : node.kind ≡ c.in-Some.node.now.kind = ap (λ (n : Node). n.kind) (some_same _ _ (sym there ∙ sym c.in-Some.ensures.nodes)) in
    c.has_room_left.ensures.exact ∙ room_decides c.args.limits.now (tree_of c.args.self.now) c.args.old.now c.args.new.now c.args.number node c.args.target c.requires.old c.requires.new c.requires.apart (sym c.is_directory_at.ensures ∙ c.if-not-is_directory_at.false) (sym (c.is_new_name.ensures node kind) ∙ c.if-not-is_new_name.false) (sym (c.can_replace.ensures c.args.new.now node kind) ∙ c.if-not-can_replace.false)

never : (b : Bool) (node : Node) → None ≡ Some node → false ≡ b
never b node e = cc

pub returns-in_default-clause-exact : goal.returns-in_default-clause-exact
returns-in_default-clause-exact c = λ node there. never _ node (c.in_default.ensures.nodes ∙ there)
