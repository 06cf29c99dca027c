use Rattle.std.proofs.Common.{ap}
use Rattle.sn_fuse_replies.specs.declared.listing.EntryKind.{EntryKind}
use Rattle.sn_plan.specs.Plans.{Gives, Plan, Takes}
use Rattle.sn_plan.proofs.Following.{and_then, does_as, does_same, fails}
use Rattle.sn_serve_directories.specs.Entries.{Entry, known_entry}
use Rattle.sn_serve_directories.proofs.Steps.{entry_held, entry_passed_on}
use Rattle.sn_serve_directories.proofs.entry.known_entry.Goals as goal

pub returns-in_err-status : goal.returns-in_err-status
unfolding known_entry
returns-in_err-status g c = entry_passed_on c.from_residual.result c.in_err-status.field-0.0 c.from_residual.ensures.1 (fails _ (does_as c.in_err-status.was c.status_at.ensures))

pub returns-in_err-number : goal.returns-in_err-number
unfolding known_entry
returns-in_err-number g c = and_then _ c.status_at.ensures c.in_ok-status.was
    (entry_passed_on c.from_residual-in_err-number.result c.in_err-number.field-0.0 c.from_residual-in_err-number.ensures.1 (fails _ (does_as c.in_err-number.was c.number_at.ensures)))

pub returns : goal.returns
unfolding known_entry
returns g c =
    let it : (kind : EntryKind) → Entry = λ kind. record { number = c.in_ok-number.number; kind = kind; name = c.args.name.now } in
    and_then _ c.status_at.ensures c.in_ok-status.was
    (and_then _ c.number_at.ensures c.in_ok-number.was
    (does_same (ap (λ (kind : EntryKind). let p : Plan Entry = Takes (Gives (it kind)) in p) c.kind_of.ensures) (entry_held (it c.kind_of.result) c.held.result c.held.ensures.entry c.held.ensures.err)))
