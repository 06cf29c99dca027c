use Rattle.std.proofs.Common.{sym, ◌∙◌}
use Rattle.std.specs.Cmp.{nat_cmp_total}
use Rattle.std.specs.Ordering.{nat_cmp}
use Rattle.sn_node_table.specs.Stored.{current_of}
use Rattle.sn_maps.proofs.MapLemmas.{get-seen_plain}
use Rattle.sn_node_table.proofs.current.Current.get.Goals as goal

pub returns : goal.returns
unfolding current_of
returns c = c.copied.ensures ∙ c.get.ensures.value ∙ sym (get-seen_plain nat_cmp nat_cmp_total c.args.self.now.map.entries c.args.inode)
