use Rattle.std.proofs.Common.{ap}
use Rattle.sn_plan.proofs.Following.{after, does_same, fails, gives_it}
use Rattle.sn_plan.proofs.Looked.{told_error, told_none, told_text}
use Rattle.sn_serve_directories.specs.Entries.{entries_at, entries_of, images_of}
use Rattle.sn_serve_directories.proofs.Steps.{entries_passed_on}
use Rattle.sn_serve_directories.proofs.entries.entries_of.Goals as goal

pub returns-in_err-place : goal.returns-in_err-place
unfolding entries_of
returns-in_err-place g c = entries_passed_on c.from_residual.result c.in_err-place.field-0.0 c.from_residual.ensures.1 (fails _ (told_error c.place.ensures c.in_err-place.was))

pub returns-in_default : goal.returns-in_default
unfolding entries_of
returns-in_default g c = after _ (told_none c.place.ensures c.in_ok-place.was c.in_default.not-Some) (gives_it (ap images_of c.new.ensures.items))

pub returns : goal.returns
unfolding entries_of
returns g c = after _ (told_text c.place.ensures c.in_ok-place.was c.in-Some.is)
    (does_same (ap (entries_at c.args.node) c.as_slice.ensures.value) c.entries_at.ensures)
