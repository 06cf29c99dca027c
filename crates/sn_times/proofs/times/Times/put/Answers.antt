use Rattle.std.proofs.Common.{ℕ, ◌/◌, ◌%◌, Option, Some, sym, ap, ◌∙◌, rules}
use Rattle.std.specs.BTreeMap.{BTreeMap}
use Rattle.std.specs.FinMap as map
use Rattle.std.specs.Option.{unwrap_or}
use Rattle.std.specs.Ordering.{nat_cmp}
use Rattle.std.proofs.lemmas.Result.{IfErr-weaker, IfOk-weaker}
use Rattle.sn_times.specs.Dates.{Dates, Tree, bare, put_in, with_tree}
use Rattle.sn_times.proofs.DatesLemmas.{found, kept, kept-inserted, on_err, with_tree-same}
use Rattle.sn_times.proofs.times.Times.put.Goals as goal

pub returns-in-Some-clause-ok : goal.returns-in-Some-clause-ok
returns-in-Some-clause-ok c =
    let inside = c.self.inside in
    let home = c.args.number / 65536 in
    let tree = c.insert.new.self in
    let base = c.args.self.now.base in
    IfOk-weaker c.insert.result _ _ (λ _ done.
    kept-inserted inside.base inside.trees.entries _ inside.homes home tree ((c.get_mut.follows.holds _).3 (search rules)).0
    ∙ ap (λ (d : Dates). with_tree d home (Some tree)) c.self.view_is
    ∙ ap (λ (t : Tree). with_tree c.args.self.now home (Some t)) (done ∙ ap (λ (o : Option Tree). put_in (unwrap_or o (bare base)) (c.args.number % 65536) c.args.stamps)
    (c.in-Some.ensures.value ∙ found inside.base inside.trees.entries inside.homes home ∙ ap (λ (d : Dates). map.get d.trees home) c.self.view_is))) c.insert.ensures.ok

pub returns-in-Some-clause-err : goal.returns-in-Some-clause-err
returns-in-Some-clause-err c =
    let inside = c.self.inside in
    let home = c.args.number / 65536 in
    let tree = c.insert.new.self in
    IfErr-weaker c.insert.result _ _ (λ _ same.
    kept-inserted inside.base inside.trees.entries _ inside.homes home tree ((c.get_mut.follows.holds _).3 (search rules)).0
    ∙ ap (λ (d : Dates). with_tree d home (Some tree)) c.self.view_is
    ∙ with_tree-same c.args.self.now home tree (ap (λ (t : Tree). Some t) same ∙ c.in-Some.ensures.value ∙ found inside.base inside.trees.entries inside.homes home ∙ ap (λ (d : Dates). map.get d.trees home) c.self.view_is)) c.insert.ensures.err

pub returns-in-Some-clause-absent : goal.returns-in-Some-clause-absent
returns-in-Some-clause-absent c =
    let inside = c.self.inside in
    let home = c.args.number / 65536 in
    let base = c.args.self.now.base in
    IfErr-weaker c.insert.result _ _ (λ _ absent.
    sym (ap (λ (o : Option Tree). map.get (unwrap_or o (bare base)).own (c.args.number % 65536))
    (c.in-Some.ensures.value ∙ found inside.base inside.trees.entries inside.homes home ∙ ap (λ (d : Dates). map.get d.trees home) c.self.view_is)) ∙ absent) c.insert.ensures.absent

pub returns-in_ok-insert-in-None-2-clause-ok : goal.returns-in_ok-insert-in-None-2-clause-ok
returns-in_ok-insert-in-None-2-clause-ok c =
    let inside = c.self.inside in
    let home = c.args.number / 65536 in
    let tree = c.insert-in-None.new.self in
    let base = c.args.self.now.base in
    kept-inserted inside.base _ c.insert-in-None-2.new.self.entries inside.homes home tree c.in_ok-insert-in-None-2.ensures.updates.0
    ∙ ap (λ (m : BTreeMap ℕ Tree). with_tree (kept inside.base m.entries inside.homes) home (Some tree)) c.get_mut.follows.holds-at-none
    ∙ ap (λ (d : Dates). with_tree d home (Some tree)) c.self.view_is
    ∙ ap (λ (t : Tree). with_tree c.args.self.now home (Some t)) (c.in_ok-insert-in-None.ensures.ok
    ∙ ap (λ (t : Tree). put_in t (c.args.number % 65536) c.args.stamps) (c.new-tree.ensures ∙ ap (λ (d : Dates). bare d.base) c.self.view_is ∙ ap (λ (o : Option Tree). unwrap_or o (bare base))
    (c.in-None.ensures.value ∙ found inside.base inside.trees.entries inside.homes home ∙ ap (λ (d : Dates). map.get d.trees home) c.self.view_is)))

pub returns-in_err-insert-in-None-clause-absent : goal.returns-in_err-insert-in-None-clause-absent
returns-in_err-insert-in-None-clause-absent c =
    let inside = c.self.inside in
    let home = c.args.number / 65536 in
    let place = c.args.number % 65536 in
    on_err c.from_residual.result
    (sym (ap (λ (o : Option Tree). map.get (unwrap_or o (bare c.args.self.now.base)).own place) (c.in-None.ensures.value ∙ found inside.base inside.trees.entries inside.homes home ∙ ap (λ (d : Dates). map.get d.trees home) c.self.view_is))
    ∙ map.get-empty nat_cmp place)

pub returns-in_err-insert-in-None-2-clause-absent : goal.returns-in_err-insert-in-None-2-clause-absent
returns-in_err-insert-in-None-2-clause-absent c =
    let inside = c.self.inside in
    let home = c.args.number / 65536 in
    let place = c.args.number % 65536 in
    on_err c.from_residual-in_err-insert-in-None-2.result
    (sym (ap (λ (o : Option Tree). map.get (unwrap_or o (bare c.args.self.now.base)).own place) (c.in-None.ensures.value ∙ found inside.base inside.trees.entries inside.homes home ∙ ap (λ (d : Dates). map.get d.trees home) c.self.view_is))
    ∙ map.get-empty nat_cmp place)
