use Rattle.std.proofs.Common.{◌≡◌, ◌++◌, map, length}
use Rattle.std.specs.Vec.Iter.{into_iter_items, into_iter_len}
use Rattle.sn_dir.specs.declared.listings.ListedName.{ListedName}
use Rattle.sn_model.specs.Tree.{link_to}
use Rattle.sn_rooted_tree.proofs.listing.links_of.Given as goal

-- the links so far and those to come
abbrev pub invariant-loop-listed : goal.invariant-loop-listed
invariant-loop-listed l = (l.links.items ++ map (λ (x : ListedName). (link_to l.directory x.name, x.number)) (into_iter_items l.listed-iterator) ≡ map (λ (x : ListedName). (link_to l.directory x.name, x.number)) (into_iter_items l.initial.listed-iterator))
    × (into_iter_len l.listed-iterator ≡ length (into_iter_items l.listed-iterator))
