use Rattle.std.proofs.Common.{◌≡◌, ◌++◌, length}
use Rattle.std.specs.Vec.Iter.{into_iter_items, into_iter_len}
use Rattle.sn_cp_nodes.specs.Parts.{dirty_of}
use Rattle.sn_cp_nodes.proofs.files.dirty_blocks.Given as goal

abbrev pub invariant-loop-place : goal.invariant-loop-place
invariant-loop-place l = record {
  all : l.dirty.items ++ dirty_of (into_iter_items l.place-iterator) ≡ dirty_of (into_iter_items l.initial.place-iterator);
  left : into_iter_len l.place-iterator ≡ length (into_iter_items l.place-iterator);
}
