-- The nodes as they are stored, and as the model has them.
use Rattle.std.proofs.Common.{◌≡◌, ℕ, true, Option, Some, None, is_some, refl, sym, ap, ◌∙◌, Bor}
use Rattle.std.specs.Option.{option_map, option_copied}
use Rattle.std.specs.Ordering.{nat_cmp}
use Rattle.std.specs.Cmp.{nat_cmp_total}
use Rattle.std.specs.FinMap as map
use Rattle.sn_nodes.specs.declared.nodes.StoredNode.{StoredNode}
use Rattle.sn_nodes.specs.declared.nodes.Nodes.{Nodes}
use Rattle.sn_nodes.specs.Stored.{node_of, nodes_of, stored_of}
use Rattle.sn_maps.proofs.MapLemmas.{get-seen_by, get-seen_plain}

-- the nodes as the model has them are those that are stored
pub seen : (n : Nodes) (k : ℕ) → map.get (nodes_of n) k ≡ option_map node_of (map.get (stored_of n) k)
unfolding nodes_of stored_of
seen n k = get-seen_by nat_cmp node_of nat_cmp_total n.map.entries k ∙ ap (option_map node_of) (sym (get-seen_plain nat_cmp nat_cmp_total n.map.entries k))

some_seen : (o : Option StoredNode) → is_some o ≡ true → is_some (option_map node_of o) ≡ true
some_seen None e = e
some_seen (Some s) e = refl

pub used_seen : (n : Nodes) (k : ℕ) → is_some (map.get (stored_of n) k) ≡ true → is_some (map.get (nodes_of n) k) ≡ true
used_seen n k e = ap is_some (seen n k) ∙ some_seen (map.get (stored_of n) k) e

-- a reference to a value is one where the value is
pub copied_is : {X : Type 0} (o : Option (Bor X)) → is_some (option_copied o) ≡ is_some o
copied_is None = refl
copied_is (Some x) = refl
