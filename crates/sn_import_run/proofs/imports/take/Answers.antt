use Rattle.std.proofs.Common.{◌+◌, ◌∷◌, [], refl, subst, sym}
use Rattle.std.specs.Prelude.{None}
use Rattle.std.proofs.lemmas.List.{append-nil}
use Rattle.sn_untar.specs.Steps.{state_of}
use Rattle.sn_untar.specs.declared.told.Told.{Told}
use Rattle.sn_import_files.specs.Entries.{IsTaken, cut, report}
use Rattle.sn_import_calls.specs.declared.why.Why.TheVariants as why
use Rattle.sn_import_files.proofs.Contents.{arrives_none}
use Rattle.sn_import_files.proofs.Entry.{taken_other}
use Rattle.sn_import_calls.proofs.Made.{adds_none}
use Rattle.sn_import_run.proofs.imports.take.Goals as goal

pub returns-in-Cut : goal.returns-in-Cut
returns-in-Cut g c =
    let count = c.args.count.now in
    let acts = report (count + 1) c.in-Cut.member why.TooLong ∷ [] in (
      [],
      arrives_none (state_of c.args.untar.now) (g.R.Read.remaining c.args.archive.now),
      (
        acts,
        c.report.ensures,
        ([], sym (append-nil c.args.directories.now.items), subst (λ (says : Told). IsTaken c.args.names.now c.args.directory.now count says [] acts [] None (count + 1)) (sym c.in-Cut.is) (cut refl, refl, refl)),
      ),
    )

pub returns-in_default : goal.returns-in_default
returns-in_default g c = (
  [],
  arrives_none (state_of c.args.untar.now) (g.R.Read.remaining c.args.archive.now),
  (
    [],
    adds_none (g.C.Calls.did c.args.to.now),
    ([], sym (append-nil c.args.directories.now.items), taken_other c.args.names.now c.args.directory.now c.args.count.now c.args.told.now c.in_default.not-Entry c.in_default.not-Cut),
  ),
)
