use Rattle.std.proofs.Common.{◌≡◌, ◌∙◌, ℕ, ap, sym}
use Rattle.std.specs.Prelude.{Option, None, Some, Ok}
use Rattle.arrayvec.specs.ArrayVec.{ArrayVec}
use Rattle.sn_plan.specs.Follows.{kept_of, text_of}
use Rattle.sn_plan.proofs.Following.{after_given, does_same, fails_given, knows_it}
use Rattle.sn_serve_directories.specs.Entries.{child_of, known_entry, named_entry, unknown}
use Rattle.sn_serve_directories.proofs.Steps.{entry_held, entry_passed_on}
use Rattle.sn_serve_directories.proofs.entry.named_entry.Goals as goal

pub returns-in_err-place : goal.returns-in_err-place
unfolding named_entry
returns-in_err-place g c = entry_passed_on c.from_residual.result c.in_err-place.field-0.0 c.from_residual.ensures.1
    (knows_it (fails_given _ (sym c.child_of.ensures ∙ ap text_of c.in_err-place.was)))

pub returns-in-None : goal.returns-in-None
unfolding named_entry
returns-in-None g c =
    let is : child_of c.args.node c.args.name.now (kept_of c.args.server.now) ≡ Ok None
    = sym c.child_of.ensures ∙ ap text_of c.in_ok-place.was ∙ ap (λ (y : Option (ArrayVec ℕ)). text_of (Ok y)) c.in-None.is in
    knows_it (after_given _ is (entry_held (unknown c.args.name.now) c.held.result c.held.ensures.entry c.held.ensures.err))

pub returns-in-Some : goal.returns-in-Some
unfolding named_entry
returns-in-Some g c =
    let is : child_of c.args.node c.args.name.now (kept_of c.args.server.now) ≡ Ok (Some c.in-Some.path.items)
    = sym c.child_of.ensures ∙ ap text_of c.in_ok-place.was ∙ ap (λ (y : Option (ArrayVec ℕ)). text_of (Ok y)) c.in-Some.is in
    knows_it (after_given _ is (does_same (ap (known_entry c.args.name.now) c.as_slice.ensures.value) c.known_entry.ensures))
