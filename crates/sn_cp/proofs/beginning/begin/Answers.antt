use Rattle.std.proofs.Common.{ℕ, ◌+◌, ◌∙◌, Ok, Err, ap}
use Rattle.sn_block.specs.Lending.{device_of}
use Rattle.sn_log.specs.Positions.{LogPosition}
use Rattle.sn_cp.proofs.LogLemmas.{begins_from}
use Rattle.sn_cp.proofs.beginning.begin.Goals as goal

pub returns-in-Err-clause-bytes : goal.returns-in-Err-clause-bytes
returns-in-Err-clause-bytes g c told =
    let next = ap (λ (e : ℕ). e + 1) (c.epoch-epoch.ensures ∙ ap (λ (p : LogPosition). p.epoch) c.position.ensures) in
    begins_from c.args.log.now c.args.geometry (c.epoch-epoch.result + 1) c.of_epoch.result c.requires.same c.of_epoch.ensures next (Err c.in-Err.fault) _ _ (g.met.D.Device.whole (device_of c.args.blocks.now) told) (c.in-Err.ensures.disk told)

pub returns-clause-bytes : goal.returns-clause-bytes
returns-clause-bytes g c told =
    let next = ap (λ (e : ℕ). e + 1) (c.epoch-epoch.ensures ∙ ap (λ (p : LogPosition). p.epoch) c.position.ensures) in
    begins_from c.args.log.now c.args.geometry (c.epoch-epoch.result + 1) c.of_epoch.result c.requires.same c.of_epoch.ensures next (Ok c.in-Ok.field-0) _ _ (g.met.D.Device.whole (device_of c.args.blocks.now) told) (c.in-Ok.ensures.disk told)
