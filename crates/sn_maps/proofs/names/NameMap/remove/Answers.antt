use Rattle.std.proofs.Common.{None, ap, ◌∙◌}
use Rattle.std.specs.FinMap as fin
use Rattle.std.specs.Ordering.{nat_cmp}
use Rattle.std.specs.Cmp.Lexicographic.{slice_cmp, nat_list_cmp_total}
use Rattle.std.specs.Vec.{vec_items}
use Rattle.std.proofs.lemmas.Map.Lookups.{exact_bytes}
use Rattle.sn_maps.proofs.MapLemmas.{remove-seen_as, updates-seen_as}
use Rattle.sn_maps.proofs.names.NameMap.remove.Goals as goal

pub returns : goal.returns
returns g c =
    let old = c.self.inside.map in
    let new = c.remove.new.self in
    remove-seen_as (slice_cmp nat_cmp) vec_items (λ v. v) nat_list_cmp_total exact_bytes old.entries new.entries c.args.name.now
    (updates-seen_as (slice_cmp nat_cmp) vec_items nat_list_cmp_total exact_bytes old new c.args.name.now None c.remove.ensures.updates)
    ∙ ap (λ m. fin.remove m c.args.name.now) c.self.view_is
