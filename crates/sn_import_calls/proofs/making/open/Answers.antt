use Rattle.std.proofs.Common.{◌++◌, ◌∷◌, [], sym, ap, ◌∙◌}
use Rattle.sn_import.specs.Calls.{opening_calls, opening_from}
use Rattle.sn_import_calls.specs.Acts.{Called}
use Rattle.sn_import_calls.specs.Carried.{number_in}
use Rattle.sn_import_calls.proofs.Made.{adds_more, goes_at, last_number, next_made, no_value, refused_next}
use Rattle.sn_import_calls.proofs.making.open.Goals as goal

pub loop-call-preserved : goal.loop-call-preserved
loop-call-preserved g c =
    let v = c.loop-call.invariant in
    let o = c.args.object.now in
    let m = c.in_ok-fd.ensures.made in (
      v.0 ++ Called c.in-Some.call m.0 ∷ [],
      adds_more _ _ _ _ _ v.1 m.1,
      (
        next_made o.what (opening_calls o) _ (opening_from c.in-Some.next o) v.0 c.in-Some.call m.0 _ v.2.0 (goes_at opening_from o _ _ _ _ c.in_ok-call.ensures c.in-Some.is) (sym m.2),
        ap number_in m.2 ∙ sym (last_number o.what 0 v.0 c.in-Some.call m.0),
      ),
    )

pub returns-in_err-fd-clause-made : goal.returns-in_err-fd-clause-made
returns-in_err-fd-clause-made g c =
    let v = c.loop-call.invariant in
    let o = c.args.object.now in
    let m = c.in_err-fd.ensures.made in (
      v.0 ++ Called c.in-Some.call m.0 ∷ [],
      adds_more _ _ _ _ _ v.1 m.1,
      (
        refused_next o.what (opening_calls o) _ (opening_from c.in-Some.next o) [] v.0 c.in-Some.call m.0 c.in_err-fd.field-0.0 c.from_residual-in_err-fd.result v.2.0
            (goes_at opening_from o _ _ _ _ c.in_ok-call.ensures c.in-Some.is) c.from_residual-in_err-fd.ensures.1 m.2,
        no_value _ _ c.from_residual-in_err-fd.result c.from_residual-in_err-fd.ensures.1,
      ),
    )
