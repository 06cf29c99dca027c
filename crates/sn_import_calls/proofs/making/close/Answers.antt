use Rattle.std.proofs.Common.{◌++◌, ◌∷◌, [], sym}
use Rattle.sn_import.specs.Calls.{closing_from}
use Rattle.sn_import_calls.specs.Acts.{Called}
use Rattle.sn_import_calls.proofs.Made.{adds_more, goes_at, next_made, refused_next}
use Rattle.sn_import_calls.proofs.making.close.Goals as goal

pub loop-call-preserved : goal.loop-call-preserved
loop-call-preserved g c =
    let v = c.loop-call.invariant in
    let o = c.args.object.now in
    let m = c.in_ok-make.ensures.made in (
      v.0 ++ Called c.in-Some.call m.0 ∷ [],
      adds_more _ _ _ _ _ v.1 m.1,
      next_made o.what (closing_from c.args.from o) _ (closing_from c.in-Some.next o) v.0 c.in-Some.call m.0 _ v.2 (goes_at closing_from o _ _ _ _ c.in_ok-call.ensures c.in-Some.is) (sym m.2),
    )

pub returns-in_err-make-clause-made : goal.returns-in_err-make-clause-made
returns-in_err-make-clause-made g c =
    let v = c.loop-call.invariant in
    let o = c.args.object.now in
    let m = c.in_err-make.ensures.made in (
      v.0 ++ Called c.in-Some.call m.0 ∷ [],
      adds_more _ _ _ _ _ v.1 m.1,
      refused_next o.what (closing_from c.args.from o) _ (closing_from c.in-Some.next o) [] v.0 c.in-Some.call m.0 c.in_err-make.field-0.0 c.from_residual-in_err-make.result v.2
          (goes_at closing_from o _ _ _ _ c.in_ok-call.ensures c.in-Some.is) c.from_residual-in_err-make.ensures.1 m.2,
    )
