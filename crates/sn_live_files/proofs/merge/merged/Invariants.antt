use Rattle.std.proofs.Common.{◌≡◌, ◌++◌, length}
use Rattle.std.specs.Vec.Iter.{into_iter_items, into_iter_len}
use Rattle.sn_model.specs.Tree.{link_cmp}
use Rattle.sn_live_files.specs.Listing.{merged}
use Rattle.sn_live_files.proofs.merge.merged.Given as goal

abbrev pub invariant-loop-name : goal.invariant-loop-name
invariant-loop-name l = (l.names.items ++ merged link_cmp l.rest (into_iter_items l.name-iterator) ≡ merged link_cmp l.changed (into_iter_items l.initial.name-iterator))
    × (into_iter_len l.name-iterator ≡ length (into_iter_items l.name-iterator))
