use Rattle.std.proofs.Common.{ℕ, ap}
use Rattle.std.specs.Ordering.{nat_cmp}
use Rattle.sn_maps.specs.Maps.{seen_by}
use Rattle.sn_node_table.specs.Stored.{current_of}
use Rattle.sn_node_table.proofs.current.Current.new.Goals as goal

pub returns : goal.returns
unfolding current_of
returns c = ap (seen_by nat_cmp (λ (id : ℕ). id)) c.new.ensures.empty
