use Rattle.std.proofs.Common.{ℕ, subst, ap, sym, ◌∙◌}
use Rattle.std.specs.Cmp.{nat_cmp_total}
use Rattle.std.specs.FinMap as map
use Rattle.std.proofs.lemmas.Map.Lookups.{exact_unsigned}
use Rattle.sn_maps.specs.Maps.{restored}
use Rattle.sn_maps.proofs.MapLemmas.{remove-insert, restored-insert}
use Rattle.sn_node_table.specs.Stored.{nodes_of}
use Rattle.sn_node_table.specs.Nodes.{new_node}
use Rattle.sn_node_table.specs.Tables.{Table, IsFresh}
use Rattle.sn_node_table.proofs.FreshLemmas.{fresh-is, fresh-taken_back, none-unless}
use Rattle.sn_node_table.proofs.table.NodeTable.undo_add.Goals as goal

pub invariant_of-self : goal.invariant_of-self
invariant_of-self c =
    record { fresh = fresh-is _ _ c.args.id c.remove.ensures.gone (fresh-taken_back _ c.args.id (subst (λ (next : ℕ). IsFresh (nodes_of c.args.self.now.nodes) next) c.requires c.args.self.now.fresh)) }

pub returns : goal.returns
returns c t was old id none =
    let inode = c.args.inode in
    let nodes = c.remove.ensures.gone ∙ ap (λ (u : Table). map.remove u.nodes c.args.id) was ∙ ap (map.remove (map.insert t.nodes t.next (new_node inode))) id
    ∙ remove-insert nat_cmp_total exact_unsigned t.nodes t.next (new_node inode) (none-unless _ none) in
    let current = c.put_back.ensures ∙ ap (λ (u : Table). restored u.current inode c.args.old) was ∙ restored-insert nat_cmp_total exact_unsigned t.current inode t.next c.args.old (sym old) in
    λ i. record { nodes = nodes i; current = current i; next = id i }
