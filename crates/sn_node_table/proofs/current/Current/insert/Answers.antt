use Rattle.std.proofs.Common.{ℕ, sym, ap, ◌∙◌}
use Rattle.std.specs.Cmp.{nat_cmp_total}
use Rattle.std.specs.Ordering.{nat_cmp}
use Rattle.std.proofs.lemmas.Map.Lookups.{exact_unsigned}
use Rattle.std.proofs.lemmas.Result.{err_from_is_err_and}
use Rattle.sn_maps.specs.Maps.{seen_by}
use Rattle.sn_node_table.specs.Stored.{current_of}
use Rattle.sn_maps.proofs.MapLemmas.{get-seen_plain, insert-seen_by}
use Rattle.sn_node_table.proofs.current.Current.insert.Goals as goal

pub returns-in_err-old-clause-err : goal.returns-in_err-old-clause-err
unfolding current_of
returns-in_err-old-clause-err c =
    let p = err_from_is_err_and c.from_residual.result c.from_residual.ensures.1 in
    rw (p.1) (ap (seen_by nat_cmp (λ (id : ℕ). id)) c.in_err-old.ensures.err)

pub returns-clause-ok : goal.returns-clause-ok
unfolding current_of
returns-clause-ok c = insert-seen_by nat_cmp (λ (id : ℕ). id) nat_cmp_total exact_unsigned c.args.self.now.map.entries c.insert.new.self.entries c.args.inode c.args.id c.in_ok-old.ensures.updates.0

pub returns-clause-old : goal.returns-clause-old
unfolding current_of
returns-clause-old c = c.in_ok-old.ensures.old ∙ sym (get-seen_plain nat_cmp nat_cmp_total c.args.self.now.map.entries c.args.inode)
