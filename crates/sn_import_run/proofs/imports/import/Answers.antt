use Rattle.std.proofs.Common.{◌++◌, sym, ◌∙◌}
use Rattle.sn_import_calls.specs.Carried.{stop_of}
use Rattle.sn_import_run.proofs.Done.{import_goes, import_over}
use Rattle.sn_import_calls.proofs.Made.{adds_more}
use Rattle.sn_import_run.proofs.imports.import.Goals as goal

pub make_entries-outcome-requires : goal.make_entries-outcome-requires
make_entries-outcome-requires g c = c.new-directories.ensures.items

pub returns-then-is_over : goal.returns-then-is_over
returns-then-is_over g c =
    let k = c.make_entries-outcome.ensures in
    let ds = c.make_entries-outcome.new.directories.items in (
      k.0,
      stop_of c.make_entries-outcome.result,
      k.1,
      (
        k.2.0,
        k.2.1,
        import_over c.args.names.now c.args.directory.now k.0 k.2.0 ds (stop_of c.make_entries-outcome.result) k.2.2 (sym c.is_over.ensures ∙ c.if-is_over.true),
      ),
    )

pub returns : goal.returns
returns g c =
    let k = c.make_entries-outcome.ensures in
    let h = c.set_rights.ensures in
    let ds = c.make_entries-outcome.new.directories.items in (
      k.0,
      stop_of c.make_entries-outcome.result,
      k.1,
      (
        k.2.0 ++ h.0,
        adds_more _ _ _ k.2.0 h.0 k.2.1 h.1,
        import_goes c.args.names.now c.args.directory.now k.0 k.2.0 h.0 ds (stop_of c.make_entries-outcome.result) k.2.2 (sym c.is_over.ensures ∙ c.if-is_over.false) h.2,
      ),
    )
