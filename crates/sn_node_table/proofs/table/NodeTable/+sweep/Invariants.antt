use Rattle.std.proofs.Common.{◌≡◌, ◌≢◌, ℕ, ◌+◌, ◌*◌, ◌<◌, ◌≤◌, Some, cond, is_some, length}
use Rattle.std.specs.Prelude.{◌⊎◌}
use Rattle.std.specs.FinMap as map
use Rattle.sn_node_table.specs.Stored.{links_in}
use Rattle.sn_node_table.specs.Tables.{Goes, IsIdleAt, IsParentIn}
use Rattle.sn_node_table.specs.Told.{table_of}
use Rattle.sn_node_table.proofs.table.NodeTable.+sweep.Given as goal

abbrev pub decreases-sweep : goal.decreases-sweep
decreases-sweep l = 2 * map.len (table_of l.self.now).nodes + 1

abbrev pub decreases-sweep_one : goal.decreases-sweep_one
decreases-sweep_one l = 2 * map.len (table_of l.self.now).nodes

abbrev pub invariant-sweep-loop-next : goal.invariant-sweep-loop-next
invariant-sweep-loop-next l = record {
  goes : Goes (table_of l.fn.self) (table_of l.self);
  idle : (other : ℕ) → IsIdleAt (table_of l.self) other → (IsIdleAt (table_of l.fn.self) other × (other ≢ l.fn.id)) ⊎ (l.next ≡ Some other);
  no_more : map.len (table_of l.self).nodes ≤ map.len (table_of l.fn.self).nodes;
}

abbrev pub decreases-sweep-loop-next : goal.decreases-sweep-loop-next
decreases-sweep-loop-next l = map.len (table_of l.self).nodes + cond (is_some l.next) 1 0

abbrev pub invariant-sweep_one-loop-link : goal.invariant-sweep_one-loop-link
invariant-sweep_one-loop-link l = record {
  goes : Goes (table_of l.fn.self) (table_of l.self);
  idle : (other : ℕ) → IsIdleAt (table_of l.self) other → (IsIdleAt (table_of l.fn.self) other × (other ≢ l.fn.id)) ⊎ (IsParentIn other (links_in l.links) ⊎ (l.left.parent ≡ other));
  fewer : map.len (table_of l.self).nodes < map.len (table_of l.fn.self).nodes;
}

abbrev pub decreases-sweep_one-loop-link : goal.decreases-sweep_one-loop-link
decreases-sweep_one-loop-link l = length (links_in l.links)
