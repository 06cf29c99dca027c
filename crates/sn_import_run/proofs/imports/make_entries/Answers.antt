use Rattle.std.proofs.Common.{◌++◌, [], List, false, ap, arith, inl, refl, subst, sym, ◌∙◌}
use Rattle.std.proofs.lemmas.Bool.{false≢true}
use Rattle.std.specs.declared.option.Option.{Option}
use Rattle.sn_import.specs.declared.object.Object.{Object}
use Rattle.sn_untar.specs.Steps.{State, is_ended, start, state_of}
use Rattle.sn_import_calls.specs.Carried.{stop_of}
use Rattle.sn_import_files.specs.Entries.{IsTaken}
use Rattle.sn_import_files.specs.Files.{Came}
use Rattle.sn_import_run.specs.Imports.{end_told}
use Rattle.sn_import_files.specs.Streams.{Takes}
use Rattle.sn_import_calls.specs.declared.stop.Stop.{Stop}
use Rattle.sn_import_calls.specs.declared.stop.Stop.TheVariants.{Unread}
use Rattle.sn_import_run.proofs.Awaiting.{told_awaits}
use Rattle.sn_import_run.proofs.Done.{Progress, read_end, read_whole, read_within, taken_count, taken_last, taken_next}
use Rattle.sn_import_calls.proofs.Made.{adds_more, adds_none}
use Rattle.sn_import_files.proofs.Parts.{takes_none}
use Rattle.sn_import_run.proofs.imports.make_entries.Goals as goal

pub loop-turn-init : goal.loop-turn-init
loop-turn-init g c =
    let input = g.R.Read.remaining c.args.archive.now in (
      omega arith,
      ap (λ (s : State). is_ended s.phase) c.new-untar.ensures,
      (
        [],
        adds_none (g.C.Calls.did c.args.to.now),
        (
          record {
            parts = [];
            takes = subst (λ (s : State). Takes start [] input [] s input) (sym c.new-untar.ensures) (takes_none start [] input);
            count_is = refl;
            done = (refl, c.requires);
          },
          λ is. (refl, c.new-untar.ensures),
        ),
      ),
    )

pub end-requires : goal.end-requires
end-requires g c = omega (arith, c.loop-turn.invariant.0)

pub returns-in-Err : goal.returns-in-Err
returns-in-Err g c =
    let v = c.loop-turn.invariant.2 in
    let told = end_told c.loop-turn.count (stop_of c.end.result) in
    let r = read_end c.args.names.now c.args.directory.now (g.R.Read.remaining c.args.archive.now) _ _ c.loop-turn.count v.0 c.loop-turn.directories.items c.loop-turn.is_empty c.in-Err.stop c.end.result v.2.0 c.loop-turn.invariant.1 c.in-Err.ensures.outside c.in-Err.ensures.broken v.2.1 c.end.ensures.whole c.end.ensures.same in
    (r.0, r.1, (v.0 ++ told, adds_more _ _ _ v.0 told v.1 c.end.ensures.told, r.2))

pub take_on-requires-clause-few : goal.take_on-requires-clause-few
take_on-requires-clause-few g c = omega (arith, c.loop-turn.invariant.0)

pub take_on-requires-clause-awaits : goal.take_on-requires-clause-awaits
take_on-requires-clause-awaits g c =
    let p = c.loop-turn.invariant.2.2.0 in
    told_awaits (g.R.Read.remaining c.args.archive.now) _ p.parts (state_of c.loop-turn.untar) c.next_told.new.block c.in-Ok.told (state_of c.next_told.new.untar) p.takes c.in-Ok.ensures.step

pub returns-in_err-take_on : goal.returns-in_err-take_on
returns-in_err-take_on g c =
    let v = c.loop-turn.invariant.2 in
    let k = c.in_err-take_on.ensures in
    let names = c.args.names.now in
    let into = c.args.directory.now in
    let e = c.in_err-take_on.field-0.0 in
    let came = subst (λ (stop : Option Stop). Came (state_of c.next_told.new.untar) (g.R.Read.remaining c.next_told.new.archive) k.1 (state_of c.take_on.new.untar) (g.R.Read.remaining c.take_on.new.archive) stop) k.2.0 k.3 in
    let taken = subst (λ (stop : Option Stop). IsTaken names into c.loop-turn.count c.in-Ok.told k.1 k.4.0 k.4.2.0 stop c.take_on.new.count) k.2.0 k.4.2.2 in
    let ended = taken_last names into c.in-Ok.told c.next_told.new.block _ _ _ (g.R.Read.remaining c.args.archive.now) _ _ _ c.loop-turn.count c.take_on.new.count k.1 v.0 k.4.0 c.loop-turn.directories.items k.4.2.0 e
    v.2.0 c.next_told.array_long c.in-Ok.ensures.step c.in-Ok.ensures.taken came taken k.2.1 in
    let r = read_within names into (g.R.Read.remaining c.args.archive.now) (v.0 ++ k.4.0) (c.loop-turn.directories.items ++ k.4.2.0) c.take_on.new.directories.items e c.from_residual.result c.from_residual.ensures.1 ended k.4.2.1 in
    (r.0, r.1, (v.0 ++ k.4.0, adds_more _ _ _ v.0 k.4.0 v.1 k.4.1, r.2))

pub returns-then-is_whole : goal.returns-then-is_whole
returns-then-is_whole g c =
    let v = c.loop-turn.invariant.2 in
    let k = c.in_ok-take_on.ensures in
    let names = c.args.names.now in
    let into = c.args.directory.now in
    let input = g.R.Read.remaining c.args.archive.now in
    let r = read_whole names into input (g.R.Read.remaining c.take_on.new.archive) (state_of c.take_on.new.untar) c.take_on.new.count (v.0 ++ k.4.0) (c.loop-turn.directories.items ++ k.4.2.0) c.take_on.new.directories.items
    (taken_next names into c.in-Ok.told c.next_told.new.block _ _ _ input _ _ _ c.loop-turn.count c.take_on.new.count k.1 v.0 k.4.0 c.loop-turn.directories.items k.4.2.0 k.0
    v.2.0 c.next_told.array_long c.in-Ok.ensures.step c.in-Ok.ensures.taken k.3 k.4.2.2 k.2)
    (inl (sym c.is_whole.ensures ∙ c.if-is_whole.true)) k.4.2.1 in
    (r.0, r.1, (v.0 ++ k.4.0, adds_more _ _ _ v.0 k.4.0 v.1 k.4.1, r.2))

pub loop-turn-preserved : goal.loop-turn-preserved
loop-turn-preserved g c =
    let v = c.loop-turn.invariant in
    let w = v.2 in
    let k = c.in_ok-take_on.ensures in
    let names = c.args.names.now in
    let into = c.args.directory.now in
    let input = g.R.Read.remaining c.args.archive.now in
    let few = taken_count names into c.loop-turn.count c.in-Ok.told k.1 k.4.0 k.4.2.0 k.0 c.take_on.new.count k.4.2.2 in (
      omega (arith, few, v.0),
      sym c.is_whole.ensures ∙ c.if-is_whole.false,
      (
        w.0 ++ k.4.0,
        adds_more _ _ _ w.0 k.4.0 w.1 k.4.1,
        (
          subst (λ (ds : List Object). Progress names into input (state_of c.take_on.new.untar) (g.R.Read.remaining c.take_on.new.archive) c.take_on.new.count (w.0 ++ k.4.0) ds) (sym k.4.2.1)
              (taken_next names into c.in-Ok.told c.next_told.new.block _ _ _ input _ _ _ c.loop-turn.count c.take_on.new.count k.1 w.0 k.4.0 c.loop-turn.directories.items k.4.2.0 k.0
              w.2.0 c.next_told.array_long c.in-Ok.ensures.step c.in-Ok.ensures.taken k.3 k.4.2.2 k.2),
          λ is. absurd (false≢true is),
        ),
      ),
    )

pub end-requires-2 : goal.end-requires-2
end-requires-2 g c = omega (arith, c.loop-turn.invariant.0)

pub returns : goal.returns
returns g c =
    let v = c.loop-turn.invariant.2 in
    let told = end_told c.loop-turn.count (stop_of c.end-2.result) in
    let r = read_end c.args.names.now c.args.directory.now (g.R.Read.remaining c.args.archive.now) _ _ c.loop-turn.count v.0 c.loop-turn.directories.items false (Unread c.from-error.result) c.end-2.result v.2.0 c.loop-turn.invariant.1 refl tt (λ is. absurd (false≢true is)) c.end-2.ensures.whole c.end-2.ensures.same in
    (r.0, r.1, (v.0 ++ told, adds_more _ _ _ v.0 told v.1 c.end-2.ensures.told, r.2))
