use Rattle.std.proofs.Common.{◌++◌, refl}
use Rattle.sn_import_calls.specs.Carried.{stop_of}
use Rattle.sn_import_files.specs.Entries.{set_uid_told, stop_told}
use Rattle.sn_import_calls.proofs.Made.{adds_more}
use Rattle.sn_import_files.proofs.entries.make_object.Goals as goal

pub returns-clause-made : goal.returns-clause-made
returns-clause-made g c =
    let k = c.carry_kept-outcome.ensures.made in
    let member = c.args.member.now in
    let before = set_uid_told c.args.place member in
    let after = stop_told c.args.place member (stop_of c.carry_kept-outcome.result) in (
      k.0,
      k.1,
      (
        before ++ k.2.0 ++ after,
        adds_more _ _ _ (before ++ k.2.0) after (adds_more _ _ _ before k.2.0 c.report_set_uid.ensures k.2.1) c.report_stop.ensures,
        (k.2.0, refl, k.2.2),
      ),
    )
