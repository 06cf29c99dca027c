use Rattle.std.proofs.Common.{List, Option, Some, subst, sym}
use Rattle.sn_export_walk.specs.Visiting.{AreLevels, IsNext, IsNextIn}
use Rattle.sn_export_walk.specs.declared.levels.Level.{Level}
use Rattle.sn_export_walk.specs.declared.levels.Paths.{Paths}
use Rattle.sn_export_walk.proofs.Stack.{next_found, none_found}
use Rattle.sn_export_walk.proofs.walk.enter_next.Goals as goal

pub loop-top-init : goal.loop-top-init
loop-top-init c = λ trees home tree pending are levels. levels

pub loop-top-preserved : goal.loop-top-preserved
loop-top-preserved c = λ trees home tree pending are levels.
    (let at = subst (λ (ls : List Level). AreLevels trees home tree ls pending) c.in-Some.ensures.items (c.loop-top.invariant trees home tree pending are levels) in
    none_found trees home tree c.pop.new.self.items c.in-Some.top c.enter_next.new.self pending at (λ own is. subst (λ (n : Option Paths). IsNextIn trees home tree n own c.enter_next.new.self) c.in_default-2.is (c.in_ok-paths.ensures.next trees home tree own are is)))

pub returns-in-Some-2-clause-next : goal.returns-in-Some-2-clause-next
returns-in-Some-2-clause-next c = λ trees home tree pending are levels.
    (let at = subst (λ (ls : List Level). AreLevels trees home tree ls pending) c.in-Some.ensures.items (c.loop-top.invariant trees home tree pending are levels) in
    let found = next_found trees home tree c.pop.new.self.items c.in-Some.top c.enter_next.new.self pending c.in-Some-2.paths at (λ own is. subst (λ (n : Option Paths). IsNextIn trees home tree n own c.enter_next.new.self) c.in-Some-2.is (c.in_ok-paths.ensures.next trees home tree own are is)) in
    subst (λ (ls : List Level). IsNext trees home tree (Some c.in-Some-2.paths) pending ls) (sym c.in_ok-push.ensures.items) found)
