use Rattle.std.proofs.Common.{ℕ, Option, sym, ap, subst, ◌∙◌, Bor}
use Rattle.std.specs.Option.{option_copied, option_map}
use Rattle.std.specs.Prelude.{IsSome}
use Rattle.sn_layout.specs.declared.snapshot.Snapshot.{Snapshot}
use Rattle.sn_snap.specs.Catalogue.{entry_of}
use Rattle.sn_cp_whole.proofs.AskingLemmas.{own_is_bit, starts}
use Rattle.sn_cp_whole.proofs.asking.frozen_start.Goals as goal

pub returns-in_err-bit-clause-none : goal.returns-in_err-bit-clause-none
returns-in_err-bit-clause-none c none can =
    let stands = sym c.find.ensures.entry ∙ ap (λ (o : Option (Bor Snapshot)). option_map entry_of (option_copied o)) c.in_ok-snapshot.was in
    let is = c.new.ensures.valid.1 (own_is_bit c.args.root.now c.args.name.now (entry_of c.in_ok-snapshot.snapshot.now) stands c.requires) in
    let never = subst (λ (o : Option ℕ). IsSome o) c.in_err-bit.was is in
    cc

pub returns-clause-fits : goal.returns-clause-fits
returns-clause-fits c =
    let stands = sym c.find.ensures.entry ∙ ap (λ (o : Option (Bor Snapshot)). option_map entry_of (option_copied o)) c.in_ok-snapshot.was in
    starts c.args.root.now c.args.name.now (entry_of c.in_ok-snapshot.snapshot.now) c.in_ok-bit.bit stands c.in_ok-bit.ensures.value
