use Rattle.std.proofs.Common.{sym, ◌∙◌}
use Rattle.std.specs.Ordering.{nat_cmp}
use Rattle.std.specs.Cmp.Lexicographic.{slice_cmp, nat_list_cmp_total}
use Rattle.std.specs.Vec.{vec_items}
use Rattle.sn_maps.proofs.MapLemmas.{empty-seen_as, seen_as-empty}
use Rattle.sn_maps.proofs.names.NameMap.is_empty.Goals as goal

pub returns : goal.returns
returns g c = (
  λ t. sym c.self.view_is ∙ empty-seen_as (slice_cmp nat_cmp) vec_items (λ v. v) c.self.inside.map.entries (c.is_empty.ensures.0 t),
  λ e. c.is_empty.ensures.1 (seen_as-empty (slice_cmp nat_cmp) vec_items (λ v. v) nat_list_cmp_total c.self.inside.map.entries (c.self.view_is ∙ e)),
)
