use Rattle.std.proofs.Common.{Some, ap, ◌∙◌}
use Rattle.std.specs.FinMap as fin
use Rattle.std.specs.Ordering.{nat_cmp}
use Rattle.std.specs.Cmp.Lexicographic.{slice_cmp, nat_list_cmp_total}
use Rattle.std.specs.Vec.{vec_items}
use Rattle.std.proofs.lemmas.Map.Lookups.{exact_bytes}
use Rattle.std.proofs.lemmas.Result.{err_from_is_err_and}
use Rattle.sn_maps.specs.Maps.{seen_as}
use Rattle.sn_maps.proofs.MapLemmas.{insert-seen_as, updates-seen_as}
use Rattle.sn_maps.proofs.names.NameMap.insert.Goals as goal

pub returns-in_err-insert-clause-err : goal.returns-in_err-insert-clause-err
returns-in_err-insert-clause-err g c =
    let p = err_from_is_err_and c.from_residual.result c.from_residual.ensures.1 in
    rw (p.1) (ap (seen_as (slice_cmp nat_cmp) vec_items (λ v. v)) c.in_err-insert.ensures.err ∙ c.self.view_is)

pub returns-clause-ok : goal.returns-clause-ok
returns-clause-ok g c =
    let old = c.self.inside.map in
    let new = c.insert.new.self in
    insert-seen_as (slice_cmp nat_cmp) vec_items (λ v. v) nat_list_cmp_total exact_bytes old.entries new.entries c.args.name.items c.args.value
    (updates-seen_as (slice_cmp nat_cmp) vec_items nat_list_cmp_total exact_bytes old new c.args.name.items (Some c.args.value) c.in_ok-insert.ensures.updates)
    ∙ ap (λ m. fin.insert m c.args.name.items c.args.value) c.self.view_is
