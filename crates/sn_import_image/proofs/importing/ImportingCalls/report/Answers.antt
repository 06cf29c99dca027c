use Rattle.std.proofs.Common.{[], ◌∷◌, true, refl, subst}
use Rattle.sn_import_calls.specs.Acts.{Told}
use Rattle.sn_import_calls.specs.Carried.{Grows}
use Rattle.sn_import_image.specs.Importing.{Did, Seen}
use Rattle.sn_import_image.proofs.Doing.{did_report}
use Rattle.sn_import_image.proofs.importing.ImportingCalls.report.Goals as goal

pub returns : goal.returns
returns g c =
    let told = g.D.Device.tells_bytes in
    let inside = c.self.inside in
    let new : Seen g.row.E.Denot = (inside.serving, c.write_report.new.out, true) in
    subst (λ (s : Seen g.row.E.Denot). Grows (Did told s) (Did told new) (Told c.args.entry c.args.name.now c.args.why ∷ [])) c.self.view_is
    (did_report told c.args.entry c.args.name.now c.args.why (inside.serving, inside.errors, inside.is_told) new refl refl)
