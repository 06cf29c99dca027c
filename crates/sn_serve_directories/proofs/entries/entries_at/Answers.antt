use Rattle.std.proofs.Common.{ℕ, List, ap}
use Rattle.sn_plan.proofs.Following.{and_then, does_as, does_same, fails}
use Rattle.sn_serve_directories.specs.Entries.{entries_at, entries_from, images_in, images_of}
use Rattle.sn_serve_directories.proofs.Steps.{entries_passed_on}
use Rattle.sn_serve_directories.proofs.entries.entries_at.Goals as goal

pub returns-in_err-before : goal.returns-in_err-before
unfolding entries_at
returns-in_err-before g c = entries_passed_on c.from_residual.result c.in_err-before.field-0.0 c.from_residual.ensures.1 (fails _ (does_as (ap images_in c.in_err-before.was) c.dots_at.ensures))

pub returns-in_err-names : goal.returns-in_err-names
unfolding entries_at
returns-in_err-names g c = and_then _ c.dots_at.ensures (ap images_in c.in_ok-before.was)
    (entries_passed_on c.from_residual-in_err-names.result c.in_err-names.field-0.0 c.from_residual-in_err-names.ensures.1 (fails _ (does_as c.in_err-names.was c.names_at.ensures)))

pub returns : goal.returns
unfolding entries_at
returns g c = and_then _ c.dots_at.ensures (ap images_in c.in_ok-before.was)
    (and_then _ c.names_at.ensures c.in_ok-names.was
    (does_same (ap (λ (n : List (List ℕ)). entries_from c.args.node (images_of c.in_ok-before.before.items) n) c.as_slice.ensures) c.entries_from.ensures))
