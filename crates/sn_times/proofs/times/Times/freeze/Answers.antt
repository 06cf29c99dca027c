use Rattle.std.proofs.Common.{None, Some, ap, ◌∙◌}
use Rattle.std.specs.FinMap as map
use Rattle.sn_times.specs.Dates.{Dates, Tree, with_tree}
use Rattle.sn_times.proofs.DatesLemmas.{found, kept-inserted, kept-removed}
use Rattle.sn_times.proofs.times.Times.freeze.Goals as goal
use Rattle.sn_times.proofs.times.Times.freeze.Goals.{in-Some-1, in-None-1, in-Some-2, in-None-2}

pub returns-in_ok-insert-in-Some : goal.returns-in_ok-insert-in-Some
returns-in_ok-insert-in-Some c =
    let inside = c.self.inside in
    let home = c.args.home in
    let copy = c.in_ok-copy-in-Some.copy in
    let put =
    kept-inserted inside.base inside.trees.entries c.insert.new.self.entries inside.homes home copy c.in_ok-insert-in-Some.ensures.updates.0
    ∙ ap (λ (d : Dates). with_tree d home (Some copy)) c.self.view_is
    ∙ ap (with_tree c.args.self.now home) (ap (λ (t : Tree). Some t) c.in_ok-copy-in-Some.ensures ∙ c.in-Some.ensures.value ∙ found inside.base inside.trees.entries inside.homes 0 ∙ ap (λ (d : Dates). map.get d.trees 0) c.self.view_is) in
    elim c.match-branch-3.branch [ in-Some-1 w ↦ w.self-is ∙ put | in-None-1 w ↦ w.self-is ∙ put ]

pub returns-in-None : goal.returns-in-None
returns-in-None c =
    let inside = c.self.inside in
    let home = c.args.home in
    let gone =
    kept-removed inside.base inside.trees.entries c.remove.new.self.entries inside.homes home c.remove.ensures.updates.0
    ∙ ap (λ (d : Dates). with_tree d home None) c.self.view_is
    ∙ ap (with_tree c.args.self.now home) (c.in-None.ensures.value ∙ found inside.base inside.trees.entries inside.homes 0 ∙ ap (λ (d : Dates). map.get d.trees 0) c.self.view_is) in
    elim c.match-remove.branch [ in-Some-2 w ↦ w.self-is ∙ gone | in-None-2 w ↦ w.self-is ∙ gone ]
