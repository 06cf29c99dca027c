use Rattle.std.proofs.Common.{◌∙◌, ap, refl, sym}
use Rattle.sn_plan.proofs.Following.{does_same, gives_it}
use Rattle.sn_serve_files.specs.Messages.{truncates}
use Rattle.sn_serve_files.proofs.sizing.truncate.Goals as goal

pub returns-in-Ok : goal.returns-in-Ok
returns-in-Ok g c = does_same (ap (truncates c.args.size c.args.opened) (sym (sym c.number.ensures ∙ c.in-Ok.is))) c.call.ensures

pub returns-in-Err : goal.returns-in-Err
returns-in-Err g c = does_same (ap (truncates c.args.size c.args.opened) (sym (sym c.number.ensures ∙ c.in-Err.is))) (gives_it refl)
