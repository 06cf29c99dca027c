use Rattle.std.proofs.Common.{map, sym, ap, ◌∙◌}
use Rattle.std.specs.FinMap as fin
use Rattle.std.specs.Ordering.{nat_cmp}
use Rattle.std.specs.Cmp.Lexicographic.{slice_cmp, nat_list_cmp_total}
use Rattle.std.specs.Vec.{vec_items}
use Rattle.std.proofs.lemmas.Map.Lookups.{exact_bytes}
use Rattle.sn_maps.proofs.KeyLemmas.{keys-seen_as}
use Rattle.sn_maps.proofs.names.NameMap.names.Goals as goal

pub returns : goal.returns
returns g c =
    ap (map vec_items) c.keys.ensures.rest
    ∙ sym (keys-seen_as (slice_cmp nat_cmp) vec_items (λ v. v) nat_list_cmp_total exact_bytes c.self.inside.map.entries c.keys.ensures.ordered)
    ∙ ap (λ m. fin.keys m) c.self.view_is
