use Rattle.std.proofs.Common.{ap, refl, sym}
use Rattle.sn_plan.proofs.Following.{and_then, does_as, fails, gives_it}
use Rattle.sn_serve_directories.specs.Entries.{images_in}
use Rattle.sn_serve_directories.specs.Messages.{images_read, lists_in, read_anew}
use Rattle.sn_serve_directories.proofs.Steps.{failed_so}
use Rattle.sn_serve_directories.proofs.reading.read_anew.Goals as goal

pub returns-in_err-entries : goal.returns-in_err-entries
unfolding read_anew
returns-in_err-entries g c = does_as (ap (λ r. images_read (lists_in r)) (sym (failed_so c.from_residual.result c.in_err-entries.field-0.0 c.from_residual.ensures.1)))
    (fails _ (does_as (ap images_in c.in_err-entries.was) c.entries_of.ensures))

pub returns : goal.returns
unfolding read_anew
returns g c = and_then _ c.entries_of.ensures (ap images_in c.in_ok-entries.was) (gives_it refl)
