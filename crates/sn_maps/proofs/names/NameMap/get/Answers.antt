use Rattle.std.proofs.Common.{sym, ap, ◌∙◌}
use Rattle.std.specs.FinMap as fin
use Rattle.std.specs.Ordering.{nat_cmp}
use Rattle.std.specs.Cmp.Lexicographic.{slice_cmp, nat_list_cmp_total}
use Rattle.std.specs.Vec.{vec_items}
use Rattle.sn_maps.proofs.MapLemmas.{get-seen_as, option_map_same}
use Rattle.sn_maps.proofs.names.NameMap.get.Goals as goal

pub returns : goal.returns
returns g c =
    c.copied.ensures ∙ c.get.ensures.value ∙ sym (get-seen_as (slice_cmp nat_cmp) vec_items (λ v. v) nat_list_cmp_total c.self.inside.map.entries c.args.name.now ∙ option_map_same _)
    ∙ ap (λ m. fin.get m c.args.name.now) c.self.view_is
