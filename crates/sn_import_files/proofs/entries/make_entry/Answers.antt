use Rattle.std.proofs.Common.{◌∷◌, [], List, ap, sym, subst, refl}
use Rattle.sn_import.specs.declared.object.Object.{Object}
use Rattle.sn_untar.specs.Steps.{state_of}
use Rattle.sn_import_calls.specs.Acts.{Act}
use Rattle.sn_import_calls.specs.Carried.{stop_of}
use Rattle.sn_import_files.specs.Entries.{IsDone, fault_told, kept, made, report}
use Rattle.sn_import_entry.specs.declared.fault.ObjectFault.{ObjectFault}
use Rattle.std.specs.Prelude.{false, Err, Option, Result}
use Rattle.sn_import_files.specs.Files.{Came}
use Rattle.sn_import_files.specs.Streams.{begun, longer}
use Rattle.sn_import_calls.specs.declared.stop.Stop.{Stop}
use Rattle.sn_import_files.proofs.Contents.{arrives_none}
use Rattle.sn_import_files.proofs.Entry.{refused_came, refused_done}
use Rattle.std.proofs.lemmas.List.{append-nil}
use Rattle.sn_import_files.proofs.entries.make_entry.Goals as goal

pub returns-in-Ok : goal.returns-in-Ok
returns-in-Ok g c =
    let k = c.make_object.ensures.made in
    let stop = stop_of c.make_object.result in
    let part = longer (begun c.args.member.now false) k.0 in (
      k.0,
      k.1,
      (
        k.2.0,
        k.2.1,
        (
          kept c.in-Ok.object stop,
          c.make_object.ensures.kept,
          subst (λ (acts : List Act). IsDone c.args.names.now c.args.directory.now c.args.place part acts (kept c.in-Ok.object stop) stop) (sym k.2.2.1)
              (made c.in-Ok.object k.2.2.0 stop refl c.in-Ok.ensures.made k.2.2.2),
        ),
      ),
    )

pub returns-in-Err : goal.returns-in-Err
returns-in-Err g c =
    let fault = c.in-Err.fault in
    let part = longer (begun c.args.member.now false) [] in (
      [],
      subst (λ (stop : Option Stop). Came (state_of c.args.untar.now) (g.R.Read.remaining c.args.archive.now) [] (state_of c.args.untar.now) (g.R.Read.remaining c.args.archive.now) stop) (sym c.refuse.ensures.stop)
          (refused_came _ _ fault (arrives_none (state_of c.args.untar.now) (g.R.Read.remaining c.args.archive.now))),
      (
        report c.args.place c.args.member.now (fault_told fault) ∷ [],
        c.refuse.ensures.told,
        (
          [],
          sym (append-nil c.args.directories.now.items),
          subst (λ (stop : Option Stop). IsDone c.args.names.now c.args.directory.now c.args.place part (report c.args.place c.args.member.now (fault_told fault) ∷ []) [] stop) (sym c.refuse.ensures.stop)
              (refused_done c.args.names.now c.args.directory.now c.args.place part fault refl (λ f is. c.in-Err.ensures.refused f (ap (λ (e : ObjectFault). (let failed : Result Object ObjectFault = Err e in failed)) is))),
        ),
      ),
    )
