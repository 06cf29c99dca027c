use Rattle.std.proofs.Common.{◌≡◌}
use Rattle.std.specs.FinMap as map
use Rattle.sn_limits.specs.declared.kind.Kind.TheVariants.{Directory}
use Rattle.sn_model.specs.Changes.{is_at_or_below}
use Rattle.sn_model.specs.NameTree.{HasKind}
use Rattle.sn_plain.specs.Plain.{tree_of}
use Rattle.sn_nodes.specs.Stored.{stored_of}
use Rattle.sn_plain.proofs.WayLemmas.{steps_up}
use Rattle.sn_plain.proofs.tree.PlainTree.is_at_or_below.Given as goal

-- the rest of the way up decides
abbrev pub invariant-loop-current : goal.invariant-loop-current
invariant-loop-current l = record {
  rest : is_at_or_below (tree_of l.self) l.top l.current ≡ is_at_or_below (tree_of l.self) l.top l.directory;
  kind : HasKind (tree_of l.self) l.current Directory;
}

abbrev pub decreases-loop-current : goal.decreases-loop-current
decreases-loop-current l = steps_up (stored_of l.self.nodes) (map.len (tree_of l.self).links) l.current
