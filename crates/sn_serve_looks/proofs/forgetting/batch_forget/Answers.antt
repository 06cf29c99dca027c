use Rattle.std.proofs.Common.{◌∙◌, arith, sym}
use Rattle.std.proofs.lemmas.Option.{slice_get-get_or}
use Rattle.sn_fuse.specs.declared.forgets.Forget.{Forget}
use Rattle.sn_plan.proofs.Following.{goes_none}
use Rattle.sn_serve_looks.specs.Messages.{batch_forget}
use Rattle.sn_serve_looks.proofs.Steps.{all_forgotten, forgets_next}
use Rattle.sn_serve_looks.proofs.forgetting.batch_forget.Goals as goal

pub loop-index-init : goal.loop-index-init
loop-index-init g c = goes_none g.F.FileSystem.did c.args.server.now (batch_forget c.args.forgets.now)

pub returns-in_default : goal.returns-in_default
returns-in_default g c =
    let none : Forget = record { node = 0; lookups = 0 } in
    absurd (c.in_default.not-Some _ (c.get.ensures ∙ slice_get-get_or c.args.forgets.now c.loop-index.index none (omega arith)))

pub loop-index-preserved : goal.loop-index-preserved
loop-index-preserved g c = forgets_next c.args.forgets.now c.loop-index.index c.in-Some.one c.loop-index.invariant (sym c.get.ensures ∙ c.in-Some.is) c.forget.ensures

pub returns : goal.returns
returns g c = all_forgotten c.args.forgets.now c.loop-index.index c.loop-index.invariant (omega arith)
