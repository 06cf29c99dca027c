use Rattle.std.proofs.Common.{List, refl, sym, subst, ◌∙◌}
use Rattle.sn_layout_node.specs.Directory.{Link}
use Rattle.sn_layout_node.specs.DirectoryEntry.{link_of, links_left}
use Rattle.sn_census.specs.Counts.{Counts, HasSpare}
use Rattle.sn_census.specs.declared.table.Row.{Row}
use Rattle.sn_census.proofs.CountLemmas.{part_begun, part_more, part_spare, part_done}
use Rattle.sn_census.proofs.naming.count_entries.Goals as goal

pub loop-entry-init : goal.loop-entry-init
loop-entry-init c = part_begun _ _ _ _ refl

pub loop-entry-preserved : goal.loop-entry-preserved
loop-entry-preserved c =
    part_more c.args.directory _ (links_left c.loop-entry.entry-iterator) (links_left c.next.new.self) (link_of c.in-Some.entry) _ c.loop-entry.census c.in-Some.ensures.steps c.loop-entry.invariant
    c.count_name.new.census (c.count_name.ensures.counted c.if-not-count_name.false)

pub returns-then-not-count_name-clause-spare : goal.returns-then-not-count_name-clause-spare
returns-then-not-count_name-clause-spare c =
    let spare = part_spare c.args.directory _ (links_left c.loop-entry.entry-iterator) (links_left c.next.new.self) (link_of c.in-Some.entry) _ c.loop-entry.census c.in-Some.ensures.steps c.loop-entry.invariant
    c.in-Some.entry.number refl (c.count_name.ensures.spare c.if-not-count_name.true) in
    subst (λ (rows : List Row). HasSpare c.args.names.now c.in-Some.entry.number c.args.census.now rows) (sym (c.count_name.ensures.kept c.if-not-count_name.true))
    (subst (λ (links : List Link). HasSpare links c.in-Some.entry.number c.args.census.now c.loop-entry.census) (c.into_iter-entry-iterator.ensures.into_iter_gives ∙ c.entries-entry-items.ensures.entries) spare)

pub returns-clause-counted : goal.returns-clause-counted
returns-clause-counted c =
    subst (λ (links : List Link). Counts c.args.directory links c.args.census.now c.loop-entry.census) (c.into_iter-entry-iterator.ensures.into_iter_gives ∙ c.entries-entry-items.ensures.entries)
    (part_done c.args.directory _ (links_left c.loop-entry.entry-iterator) _ _ c.in-None.ensures.steps.0 c.loop-entry.invariant)
