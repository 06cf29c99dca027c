use Rattle.std.proofs.Common.{◌++◌, ◌<◌, ◌≤◌, [], length, arith, sym, ◌∙◌}
use Rattle.sn_import_run.proofs.Granted.{granted_all, granted_last, granted_more}
use Rattle.sn_import_calls.proofs.Made.{adds_more, adds_none}
use Rattle.sn_import_run.proofs.rights.grant_all.Goals as goal

pub loop-object-init : goal.loop-object-init
loop-object-init g c = ([], adds_none (g.C.Calls.did c.args.to.now), λ more all. all)

pub returns-then-grant : goal.returns-then-grant
returns-then-grant g c =
    let v = c.loop-object.invariant in
    let k = c.grant.ensures in
    let within : c.loop-object.object-index < length c.args.directories.now = omega arith in (
      v.0 ++ k.2.0,
      adds_more _ _ _ _ _ v.1 k.2.1,
      granted_last c.args.directories.now c.loop-object.object-index c.object-item.result v.0 k.2.2.0 k.2.0 k.0 within c.object-item.is k.2.2.1 k.2.2.2 (sym k.1 ∙ c.if-grant.true) v.2,
    )

pub loop-object-preserved : goal.loop-object-preserved
loop-object-preserved g c =
    let v = c.loop-object.invariant in
    let k = c.grant.ensures in
    let within : c.loop-object.object-index < length c.args.directories.now = omega arith in (
      v.0 ++ k.2.0,
      adds_more _ _ _ _ _ v.1 k.2.1,
      granted_more c.args.directories.now c.loop-object.object-index c.object-item.result v.0 k.2.2.0 k.2.0 k.0 within c.object-item.is k.2.2.1 k.2.2.2 (sym k.1 ∙ c.if-grant.false) v.2,
    )

pub returns : goal.returns
returns g c =
    let v = c.loop-object.invariant in
    let end : length c.args.directories.now ≤ c.loop-object.object-index = omega arith in
    (v.0, v.1, granted_all c.args.directories.now c.loop-object.object-index v.0 end v.2)
