use Rattle.std.proofs.Common.{◌≡◌, None, Some, ap, ◌∙◌}
use Rattle.std.specs.FinMap as map
use Rattle.sn_times.specs.Dates.{Dates, with_tree}
use Rattle.sn_times.proofs.DatesLemmas.{found, kept, kept-inserted, kept-removed}
use Rattle.sn_times.proofs.times.Times.move_tree.Goals as goal
use Rattle.sn_times.proofs.times.Times.move_tree.Goals.{in-Some-1, in-None-1, in-Some-2, in-None-2}

pub returns-in_ok-insert-in-Some : goal.returns-in_ok-insert-in-Some
returns-in_ok-insert-in-Some c =
    let inside = c.self.inside in
    let home = c.args.home in
    let other = c.args.other in
    let tree = c.in-Some.tree in
    let gone : kept inside.base c.remove.new.self.entries inside.homes ≡ with_tree c.args.self.now home None =
    kept-removed inside.base inside.trees.entries c.remove.new.self.entries inside.homes home c.remove.ensures.updates.0
    ∙ ap (λ (d : Dates). with_tree d home None) c.self.view_is in
    let put =
    kept-inserted inside.base c.remove.new.self.entries c.insert.new.self.entries inside.homes other tree c.in_ok-insert-in-Some.ensures.updates.0
    ∙ ap (λ (d : Dates). with_tree d other (Some tree)) gone
    ∙ ap (with_tree (with_tree c.args.self.now home None) other) (c.in-Some.ensures.value ∙ found inside.base inside.trees.entries inside.homes home ∙ ap (λ (d : Dates). map.get d.trees home) c.self.view_is) in
    elim c.match-branch-2.branch [ in-Some-1 w ↦ w.self-is ∙ put | in-None-1 w ↦ w.self-is ∙ put ]

pub returns-in-None : goal.returns-in-None
returns-in-None c =
    let inside = c.self.inside in
    let home = c.args.home in
    let other = c.args.other in
    let gone : kept inside.base c.remove.new.self.entries inside.homes ≡ with_tree c.args.self.now home None =
    kept-removed inside.base inside.trees.entries c.remove.new.self.entries inside.homes home c.remove.ensures.updates.0
    ∙ ap (λ (d : Dates). with_tree d home None) c.self.view_is in
    let none =
    kept-removed inside.base c.remove.new.self.entries c.remove-in-None.new.self.entries inside.homes other c.remove-in-None.ensures.updates.0
    ∙ ap (λ (d : Dates). with_tree d other None) gone
    ∙ ap (with_tree (with_tree c.args.self.now home None) other) (c.in-None.ensures.value ∙ found inside.base inside.trees.entries inside.homes home ∙ ap (λ (d : Dates). map.get d.trees home) c.self.view_is) in
    elim c.match-remove-2.branch [ in-Some-2 w ↦ w.self-is ∙ none | in-None-2 w ↦ w.self-is ∙ none ]
