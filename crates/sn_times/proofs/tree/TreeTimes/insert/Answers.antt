use Rattle.std.proofs.Common.{sym, ap, ◌∙◌}
use Rattle.std.specs.Cmp.{nat_cmp_total}
use Rattle.std.specs.FinMap as map
use Rattle.std.specs.Ordering.{nat_cmp}
use Rattle.std.proofs.lemmas.Map.Lookups.{exact_unsigned}
use Rattle.sn_fuse.specs.declared.operation.Time.{Time}
use Rattle.sn_maps.proofs.MapLemmas.{get-seen_plain, insert-seen_by}
use Rattle.sn_times.specs.declared.stamps.Stamps.{Stamps}
use Rattle.sn_times.specs.Dates.{Tree, put_in}
use Rattle.sn_times.proofs.DatesLemmas.{on_err}
use Rattle.sn_times.proofs.tree.TreeTimes.insert.Goals as goal

tree : Time → map.FinMap nat_cmp Stamps → Tree
tree base own = record { base = base; own = own }

pub returns-clause-ok : goal.returns-clause-ok
unfolding tree
returns-clause-ok c =
    ap (tree c.self.inside.base) (insert-seen_by nat_cmp (λ (stamps : Stamps). stamps) nat_cmp_total exact_unsigned c.self.inside.by_number.entries c.insert.new.self.entries c.args.number c.args.stamps c.in_ok-insert.ensures.updates.0)
    ∙ ap (λ (t : Tree). put_in t c.args.number c.args.stamps) c.self.view_is

pub returns-in_err-insert-clause-absent : goal.returns-in_err-insert-clause-absent
returns-in_err-insert-clause-absent c =
    on_err c.from_residual.result
    (sym (ap (λ (t : Tree). map.get t.own c.args.number) c.self.view_is) ∙ get-seen_plain nat_cmp nat_cmp_total c.self.inside.by_number.entries c.args.number ∙ c.in_err-insert.ensures.absent)
