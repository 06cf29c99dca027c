use Rattle.std.proofs.Common.{ap}
use Rattle.std.specs.Ordering.{nat_cmp}
use Rattle.std.specs.Cmp.Lexicographic.{slice_cmp}
use Rattle.std.specs.Vec.{vec_items}
use Rattle.sn_maps.specs.Maps.{seen_as}
use Rattle.sn_maps.proofs.names.NameMap.new.Goals as goal

pub returns : goal.returns
returns g c = ap (seen_as (slice_cmp nat_cmp) vec_items (λ v. v)) c.new.ensures.empty
