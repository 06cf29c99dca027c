use Rattle.std.proofs.Common.{◌≡◌, ◌++◌, map, length}
use Rattle.std.specs.Vec.Iter.{into_iter_items, into_iter_len}
use Rattle.sn_dir.specs.declared.listings.ListedName.{ListedName}
use Rattle.sn_rooted_tree.proofs.frozen.names_alone.Given as goal

-- the names so far and those to come
abbrev pub invariant-loop-entry : goal.invariant-loop-entry
invariant-loop-entry l = (l.names.items ++ map (λ (x : ListedName). x.name) (into_iter_items l.entry-iterator) ≡ map (λ (x : ListedName). x.name) (into_iter_items l.initial.entry-iterator))
    × (into_iter_len l.entry-iterator ≡ length (into_iter_items l.entry-iterator))
