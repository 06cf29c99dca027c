use Rattle.std.proofs.Common.{◌/◌, ◌%◌, Option, sym, ap, ◌∙◌}
use Rattle.std.specs.FinMap as map
use Rattle.std.specs.Option.{unwrap_or}
use Rattle.std.specs.Ordering.{nat_cmp}
use Rattle.sn_times.specs.Dates.{Dates, Tree, all_at, bare, stamps_in}
use Rattle.sn_times.proofs.DatesLemmas.{found}
use Rattle.sn_times.proofs.times.Times.stamps.Goals as goal

pub returns-in-Some : goal.returns-in-Some
returns-in-Some c =
    let inside = c.self.inside in
    let home = c.args.number / 65536 in
    let now = c.args.self.now in
    c.stamps.ensures
    ∙ ap (λ (o : Option Tree). stamps_in (unwrap_or o (bare now.base)) (c.args.number % 65536)) (c.in-Some.ensures.value ∙ found inside.base inside.trees.entries inside.homes home ∙ ap (λ (d : Dates). map.get d.trees home) c.self.view_is)

pub returns-in-None : goal.returns-in-None
returns-in-None c =
    let inside = c.self.inside in
    let home = c.args.number / 65536 in
    let now = c.args.self.now in
    c.at.ensures
    ∙ ap (λ (d : Dates). all_at d.base) c.self.view_is
    ∙ ap (λ o. unwrap_or o (all_at now.base)) (sym (map.get-empty nat_cmp (c.args.number % 65536)))
    ∙ ap (λ (o : Option Tree). stamps_in (unwrap_or o (bare now.base)) (c.args.number % 65536)) (c.in-None.ensures.value ∙ found inside.base inside.trees.entries inside.homes home ∙ ap (λ (d : Dates). map.get d.trees home) c.self.view_is)
