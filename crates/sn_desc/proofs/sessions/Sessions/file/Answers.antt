use Rattle.std.proofs.Common.{Bor, Option, ap, sym, ◌∙◌}
use Rattle.std.specs.Option.{option_copied, option_map}
use Rattle.sn_desc.specs.declared.open_file.OpenFile.{OpenFile}
use Rattle.sn_desc.specs.InUse.{descriptor_of}
use Rattle.sn_desc.specs.OpenFiles.{files_of}
use Rattle.sn_desc.proofs.SessionLemmas.{absent, there}
use Rattle.sn_desc.proofs.sessions.Sessions.file.Goals as goal

pub returns-in_err-seat_of : goal.returns-in_err-seat_of
returns-in_err-seat_of c =
    let files = c.args.self.now.files in
    ap (λ (o : Option (Bor OpenFile)). option_map descriptor_of (option_copied o)) c.from_residual.ensures ∙ sym (absent (files_of files) c.args.session c.args.fd files.counted.seats (sym c.in_err-seat_of.ensures))

pub returns : goal.returns
returns c =
    let files = c.args.self.now.files in
    ap (option_map descriptor_of) c.get.ensures ∙ sym (there (files_of files) c.args.session c.args.fd files.counted.seats _ (sym c.in_ok-seat_of.ensures))
