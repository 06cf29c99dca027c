use Rattle.std.proofs.Common.{◌≡◌, ◌==◌, ℕ, Option, Some, true, false, is_some, refl, sym, ap, ◌∙◌, rules}
use Rattle.std.specs.Option.{option_eq}
use Rattle.std.specs.FinMap as map
use Rattle.sn_model.specs.Tree.{link_cmp}
use Rattle.sn_model.specs.Changes.{moved, same_number}
use Rattle.sn_plain.specs.Plain.{tree_of}
use Rattle.sn_nodes.specs.Stored.{links_of, nodes_of, stored_of}
use Rattle.sn_plain.proofs.MakingLemmas.{none_of, some_of}
use Rattle.sn_plain.proofs.RenamingLemmas.{renamed_none, renamed_if, renamed_same, renamed_other, names_fit, links_fit, tree_so, counted_end}
use Rattle.sn_plain.proofs.tree.PlainTree.rename.Goals as goal

pub returns-in_default : goal.returns-in_default
returns-in_default c = (renamed_none c.args.limits.now (tree_of c.args.self.now) c.args.old.now c.args.new (sym c.in_default.ensures), refl)

pub returns-then-eq : goal.returns-then-eq
returns-then-eq c =
    let old = c.args.self.now in
    let tree = tree_of old in
    let whole = c.requires in
    let named : map.get tree.links c.args.old.now ≡ Some c.in-Some.number = sym c.in-Some.ensures in
    let n = some_of _ (whole.1.hierarchy.leads c.args.old.now c.in-Some.number named) in
    let equal = ap (λ (o : Option ℕ). option_eq ◌==◌ o (Some c.in-Some.number)) (sym c.get-target.ensures) ∙ sym c.eq.ensures in
    renamed_same c.args.limits.now tree c.args.old.now c.args.new c.in-Some.number n.0 named n.1 (renamed_if c.args.limits.now tree c.args.old.now c.args.new c.in-Some.number n.0 named n.1 true (equal ∙ c.if-eq.true))

pub returns-then-not-can_move : goal.returns-then-not-can_move
returns-then-not-can_move c =
    let old = c.args.self.now in
    let tree = tree_of old in
    let whole = c.requires in
    let named : map.get tree.links c.args.old.now ≡ Some c.in-Some.number = sym c.in-Some.ensures in
    let n = some_of _ (whole.1.hierarchy.leads c.args.old.now c.in-Some.number named) in
    let equal = ap (λ (o : Option ℕ). option_eq ◌==◌ o (Some c.in-Some.number)) (sym c.get-target.ensures) ∙ sym c.eq.ensures in
    let apart = renamed_if c.args.limits.now tree c.args.old.now c.args.new c.in-Some.number n.0 named n.1 false (equal ∙ c.if-eq.false) in
    (renamed_other c.args.limits.now tree c.args.old.now c.args.new c.in-Some.number n.0 named n.1 apart ∙ none_of _ (sym (c.can_move.ensures.exact n.0 n.1) ∙ c.if-not-can_move.true), refl)

pub move_link-requires-clause-names : goal.move_link-requires-clause-names
move_link-requires-clause-names c =
    let old = c.args.self.now in
    let tree = tree_of old in
    let whole = c.requires in
    let named : map.get tree.links c.args.old.now ≡ Some c.in-Some.number = sym c.in-Some.ensures in
    let n = some_of _ (whole.1.hierarchy.leads c.args.old.now c.in-Some.number named) in
    let equal = ap (λ (o : Option ℕ). option_eq ◌==◌ o (Some c.in-Some.number)) (sym c.get-target.ensures) ∙ sym c.eq.ensures in
    let apart = renamed_if c.args.limits.now tree c.args.old.now c.args.new c.in-Some.number n.0 named n.1 false (equal ∙ c.if-eq.false) in
    let there = sym c.get-target.ensures in
    let away = ap (same_number c.in-Some.number) c.get-target.ensures ∙ apart in
    let can : is_some (moved c.args.limits.now tree c.args.old.now c.args.new c.in-Some.number n.0) ≡ true = sym (c.can_move.ensures.exact n.0 n.1) ∙ c.if-not-can_move.false in
    names_fit c.args.limits.now whole.0 tree whole.1 c.args.old.now c.args.new c.in-Some.number n.0 c.get-target.result named there away n.1 can old.nodes c.clear-self.new.nodes old.first c.clear-self.result refl old.counted c.clear-self.ensures (c.can_move.ensures.names (search rules))

pub move_link-requires-clause-links : goal.move_link-requires-clause-links
move_link-requires-clause-links c =
    let old = c.args.self.now in
    let tree = tree_of old in
    let whole = c.requires in
    let named : map.get tree.links c.args.old.now ≡ Some c.in-Some.number = sym c.in-Some.ensures in
    let n = some_of _ (whole.1.hierarchy.leads c.args.old.now c.in-Some.number named) in
    let equal = ap (λ (o : Option ℕ). option_eq ◌==◌ o (Some c.in-Some.number)) (sym c.get-target.ensures) ∙ sym c.eq.ensures in
    let apart = renamed_if c.args.limits.now tree c.args.old.now c.args.new c.in-Some.number n.0 named n.1 false (equal ∙ c.if-eq.false) in
    let there = sym c.get-target.ensures in
    let away = ap (same_number c.in-Some.number) c.get-target.ensures ∙ apart in
    let can : is_some (moved c.args.limits.now tree c.args.old.now c.args.new c.in-Some.number n.0) ≡ true = sym (c.can_move.ensures.exact n.0 n.1) ∙ c.if-not-can_move.false in
    links_fit c.args.limits.now whole.0 tree whole.1 c.args.old.now c.args.new c.in-Some.number n.0 c.get-target.result named there away n.1 can old.nodes c.clear-self.new.nodes old.first c.clear-self.result refl old.counted c.clear-self.ensures (c.can_move.ensures.links (search rules))

pub invariant_of-self-2 : goal.invariant_of-self-2
invariant_of-self-2 c =
    let old = c.args.self.now in
    let tree = tree_of old in
    let whole = c.requires in
    let named : map.get tree.links c.args.old.now ≡ Some c.in-Some.number = sym c.in-Some.ensures in
    let n = some_of _ (whole.1.hierarchy.leads c.args.old.now c.in-Some.number named) in
    let equal = ap (λ (o : Option ℕ). option_eq ◌==◌ o (Some c.in-Some.number)) (sym c.get-target.ensures) ∙ sym c.eq.ensures in
    let apart = renamed_if c.args.limits.now tree c.args.old.now c.args.new c.in-Some.number n.0 named n.1 false (equal ∙ c.if-eq.false) in
    let there = sym c.get-target.ensures in
    let away = ap (same_number c.in-Some.number) c.get-target.ensures ∙ apart in
    let can : is_some (moved c.args.limits.now tree c.args.old.now c.args.new c.in-Some.number n.0) ≡ true = sym (c.can_move.ensures.exact n.0 n.1) ∙ c.if-not-can_move.false in
    let links : links_of c.remove.new.self ≡ map.remove (map.insert tree.links c.args.new c.in-Some.number) c.args.old.now = c.remove.ensures ∙ ap (λ (m : map.FinMap link_cmp ℕ). map.remove m c.args.old.now) c.in_ok-insert.ensures.ok in
    record { counted = counted_end c.args.limits.now whole.0 tree whole.1 c.args.old.now c.args.new c.in-Some.number n.0 c.get-target.result named there away n.1 can old.nodes c.clear-self.new.nodes old.first c.clear-self.result refl old.counted c.clear-self.ensures (stored_of c.move_link.new.nodes) (nodes_of c.move_link.new.nodes) (links_of c.remove.new.self) c.move_link.ensures.stored links }

pub returns : goal.returns
returns c =
    let old = c.args.self.now in
    let tree = tree_of old in
    let whole = c.requires in
    let named : map.get tree.links c.args.old.now ≡ Some c.in-Some.number = sym c.in-Some.ensures in
    let n = some_of _ (whole.1.hierarchy.leads c.args.old.now c.in-Some.number named) in
    let equal = ap (λ (o : Option ℕ). option_eq ◌==◌ o (Some c.in-Some.number)) (sym c.get-target.ensures) ∙ sym c.eq.ensures in
    let apart = renamed_if c.args.limits.now tree c.args.old.now c.args.new c.in-Some.number n.0 named n.1 false (equal ∙ c.if-eq.false) in
    let there = sym c.get-target.ensures in
    let away = ap (same_number c.in-Some.number) c.get-target.ensures ∙ apart in
    let can : is_some (moved c.args.limits.now tree c.args.old.now c.args.new c.in-Some.number n.0) ≡ true = sym (c.can_move.ensures.exact n.0 n.1) ∙ c.if-not-can_move.false in
    let links : links_of c.remove.new.self ≡ map.remove (map.insert tree.links c.args.new c.in-Some.number) c.args.old.now = c.remove.ensures ∙ ap (λ (m : map.FinMap link_cmp ℕ). map.remove m c.args.old.now) c.in_ok-insert.ensures.ok in
    renamed_other c.args.limits.now tree c.args.old.now c.args.new c.in-Some.number n.0 named n.1 apart ∙ tree_so c.args.limits.now whole.0 tree whole.1 c.args.old.now c.args.new c.in-Some.number n.0 c.get-target.result named there away n.1 can old.nodes c.clear-self.new.nodes old.first c.clear-self.result refl old.counted c.clear-self.ensures (nodes_of c.move_link.new.nodes) (links_of c.remove.new.self) c.move_link.ensures.nodes links
