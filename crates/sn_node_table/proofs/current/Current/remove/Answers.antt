use Rattle.std.proofs.Common.{ℕ}
use Rattle.std.specs.Cmp.{nat_cmp_total}
use Rattle.std.specs.Ordering.{nat_cmp}
use Rattle.std.proofs.lemmas.Map.Lookups.{exact_unsigned}
use Rattle.sn_node_table.specs.Stored.{current_of}
use Rattle.sn_maps.proofs.MapLemmas.{remove-seen_by}
use Rattle.sn_node_table.proofs.current.Current.remove.Goals as goal

pub returns : goal.returns
unfolding current_of
returns c = remove-seen_by nat_cmp (λ (id : ℕ). id) nat_cmp_total exact_unsigned c.args.self.now.map.entries c.remove.new.self.entries c.args.inode c.remove.ensures.updates.0
