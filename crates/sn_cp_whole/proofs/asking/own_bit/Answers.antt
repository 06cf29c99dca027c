use Rattle.std.proofs.Common.{◌≡◌, ℕ, Option, Some, is_some, sym, ap, subst, ◌∙◌, Bor}
use Rattle.std.specs.FinMap as map
use Rattle.std.specs.Option.{option_copied, option_map}
use Rattle.std.specs.Prelude.{IsSome}
use Rattle.std.proofs.lemmas.Option.{IfSome_then}
use Rattle.sn_layout.specs.declared.snapshot.Snapshot.{Snapshot}
use Rattle.sn_snap.specs.Catalogue.{catalogue, entry_of}
use Rattle.sn_cp_whole.proofs.AskingLemmas.{own_is_bit, owns}
use Rattle.sn_cp_whole.proofs.asking.own_bit.Goals as goal

pub returns-in_err-snapshot-clause-none : goal.returns-in_err-snapshot-clause-none
returns-in_err-snapshot-clause-none c none can =
    let is = ap is_some (ap (λ (o : Option (Bor Snapshot)). option_map entry_of (option_copied o)) (sym c.in_err-snapshot.was) ∙ c.find.ensures.entry) in
    absurd (cc (is, can))

stands : (c : goal.After-new) → map.get (catalogue c.args.root.now.snapshots) c.args.name.now ≡ Some (entry_of c.in_ok-snapshot.snapshot.now)
stands c = sym c.find.ensures.entry ∙ ap (λ (o : Option (Bor Snapshot)). option_map entry_of (option_copied o)) c.in_ok-snapshot.was

pub returns-clause-own : goal.returns-clause-own
returns-clause-own c = IfSome_then c.new.result c.new.ensures.value (owns c.args.root.now c.args.name.now (entry_of c.in_ok-snapshot.snapshot.now) (stands c))

pub returns-clause-none : goal.returns-clause-none
returns-clause-none c none can =
    let is = c.new.ensures.valid.1 (own_is_bit c.args.root.now c.args.name.now (entry_of c.in_ok-snapshot.snapshot.now) (stands c) c.requires) in
    let never = subst (λ (o : Option ℕ). IsSome o) none is in
    cc
