use Rattle.std.proofs.Common.{◌≡◌, ◌∙◌, List, Some, None, get_or, sym, ap}
use Rattle.std.specs.Prelude.{position}
use Rattle.std.specs.Option.{option_copied, option_map}
use Rattle.sn_layout.specs.declared.snapshot.Snapshot.{Snapshot}
use Rattle.sn_snap.specs.Catalogue.{entry_of}
use Rattle.sn_snap.proofs.FindLemmas.{entry_at, has, name_at, no_entry}
use Rattle.sn_snap.proofs.finding.find.Goals as goal

pub returns-in_err-index-clause-entry : goal.returns-in_err-index-clause-entry
returns-in_err-index-clause-entry c =
    let none : position (has c.args.name.now) c.args.snapshots.now ≡ None = ap (position (has c.args.name.now)) (sym c.as_slice-list.ensures.value) ∙ sym c.index_of.ensures ∙ c.in_err-index.was in
    ap (λ r. option_map entry_of (option_copied r)) c.from_residual.ensures ∙ sym (no_entry entry_of c.args.snapshots.now c.args.name.now none)

found : (c : goal.After-index-list-index) → position (has c.args.name.now) c.args.snapshots.now ≡ Some c.in_ok-index.index
found c = ap (position (has c.args.name.now)) (sym c.as_slice-list.ensures.value) ∙ sym c.index_of.ensures ∙ c.in_ok-index.was

item : (c : goal.After-index-list-index) → c.index-list-index.result ≡ get_or c.args.snapshots.now c.in_ok-index.index c.index-list-index.result
item c = c.index-list-index.is ∙ ap (λ (l : List Snapshot). get_or l c.in_ok-index.index c.index-list-index.result) c.as_slice-list.ensures.value

pub returns-clause-entry : goal.returns-clause-entry
returns-clause-entry c = sym (entry_at entry_of c.args.snapshots.now c.args.name.now c.in_ok-index.index c.index-list-index.result (found c) (item c))

pub returns-clause-name : goal.returns-clause-name
returns-clause-name c = name_at c.args.snapshots.now c.args.name.now c.in_ok-index.index c.index-list-index.result (found c) (item c)
