use Rattle.std.proofs.Common.{◌≡◌, ◌∙◌, Some, None, sym, ap, subst}
use Rattle.std.specs.Prelude.{position}
use Rattle.sn_layout.specs.Snapshot.{AreSnapshots}
use Rattle.sn_snap.specs.Catalogue.{IsCatalogue, catalogue, entry_of, others_than}
use Rattle.sn_snap.proofs.NameLemmas.{by_name-others}
use Rattle.sn_snap.proofs.FindLemmas.{has, none_taken, taken_at}
use Rattle.sn_snap.proofs.HeldLemmas.{catalogue_others, held_others}
use Rattle.sn_snap.proofs.changing.remove.Goals as goal

taken : (c : goal.After-remove) → c.remove.new.self ≡ others_than c.args.name.now c.args.snapshots
taken c =
    let found : position (has c.args.name.now) c.args.snapshots ≡ Some c.in-Some.index = ap (position (has c.args.name.now)) (sym c.as_slice.ensures.value) ∙ sym c.index_of.ensures ∙ c.in-Some.is in
    c.remove.ensures.others ∙ taken_at c.args.snapshots c.args.name.now c.in-Some.index c.remove.result c.requires.distinct found

pub returns-in-Some-clause-list : goal.returns-in-Some-clause-list
returns-in-Some-clause-list c = taken c

pub returns-in-Some-clause-entries : goal.returns-in-Some-clause-entries
returns-in-Some-clause-entries c = ap catalogue (taken c) ∙ by_name-others entry_of c.args.name.now c.args.snapshots

pub returns-in-Some-clause-catalogue : goal.returns-in-Some-clause-catalogue
returns-in-Some-clause-catalogue c = subst IsCatalogue (sym (taken c)) (catalogue_others c.args.name.now c.args.snapshots c.requires)

pub returns-in-Some-clause-held : goal.returns-in-Some-clause-held
returns-in-Some-clause-held c = λ limits are. subst (AreSnapshots limits) (sym (taken c)) (held_others limits c.args.name.now c.args.snapshots are)

none_left : (c : goal.In_default) → c.args.snapshots ≡ others_than c.args.name.now c.args.snapshots
none_left c =
    let none : position (has c.args.name.now) c.args.snapshots ≡ None = ap (position (has c.args.name.now)) (sym c.as_slice.ensures.value) ∙ sym c.index_of.ensures ∙ c.in_default.is in
    none_taken c.args.snapshots c.args.name.now none

pub returns-in_default-clause-list : goal.returns-in_default-clause-list
returns-in_default-clause-list c = none_left c

pub returns-in_default-clause-entries : goal.returns-in_default-clause-entries
returns-in_default-clause-entries c = ap catalogue (none_left c) ∙ by_name-others entry_of c.args.name.now c.args.snapshots
