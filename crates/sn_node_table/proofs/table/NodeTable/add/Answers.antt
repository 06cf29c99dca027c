use Rattle.std.proofs.Common.{ℕ, ◌+◌, ap, ◌∙◌, arith}
use Rattle.std.specs.Ordering.{nat_cmp}
use Rattle.std.specs.Cmp.{nat_cmp_total}
use Rattle.std.specs.FinMap as map
use Rattle.std.proofs.lemmas.Map.Lookups.{exact_unsigned}
use Rattle.sn_maps.proofs.MapLemmas.{remove-insert}
use Rattle.sn_node_table.specs.Stored.{nodes_of}
use Rattle.sn_node_table.specs.Tables.{Nodes}
use Rattle.sn_node_table.specs.Told.{table_of}
use Rattle.sn_node_table.proofs.FreshLemmas.{fresh-inserted, fresh-is, none-unless}
use Rattle.sn_node_table.proofs.table.NodeTable.add.Goals as goal

pub invariant_of-self-in-Ok : goal.invariant_of-self-in-Ok
invariant_of-self-in-Ok c =
    let next = c.args.self.now.next in
    record { fresh = fresh-is _ _ (next + 1) c.in_ok-insert.ensures.ok (fresh-inserted _ (next + 1) next _ (omega arith) c.args.self.now.fresh) }

pub invariant_of-self-in-Err : goal.invariant_of-self-in-Err
invariant_of-self-in-Err c =
    let next = c.args.self.now.next in
    let same = c.remove.ensures.gone ∙ ap (λ (m : Nodes). map.remove m next) c.in_ok-insert.ensures.ok ∙ remove-insert nat_cmp_total exact_unsigned (nodes_of c.args.self.now.nodes) next _ (none-unless _ (c.args.self.now.fresh next (omega arith))) in
    record { fresh = fresh-is _ _ next same c.args.self.now.fresh }

pub returns-in-Err-clause-err : goal.returns-in-Err-clause-err
returns-in-Err-clause-err c =
    let next = c.args.self.now.next in
    let same = c.remove.ensures.gone ∙ ap (λ (m : Nodes). map.remove m next) c.in_ok-insert.ensures.ok ∙ remove-insert nat_cmp_total exact_unsigned (nodes_of c.args.self.now.nodes) next _ (none-unless _ (c.args.self.now.fresh next (omega arith))) in
    ap (λ (k : map.FinMap nat_cmp ℕ). record { nodes = nodes_of c.remove.new.self; current = k; next = next }) c.in-Err.ensures.err
    ∙ ap (λ (m : Nodes). record (table_of c.args.self.now) { nodes = m }) same
