use Rattle.std.proofs.Common.{IfErr, IfOk, Result, sym, subst}
use Rattle.sn_block.specs.Lending.{device_of}
use Rattle.sn_device.specs.Disk.{reads}
use Rattle.sn_model.specs.declared.fault.MountFault.{MountFault}
use Rattle.sn_sound.specs.Verdicts.{HasNoVerdict}
use Rattle.sn_examine.specs.Failing.{FailsAs}
use Rattle.sn_check.specs.Verdicts.{IsRight}
use Rattle.sn_check.specs.declared.verdict.Verdict.{Verdict}
use Rattle.sn_check.proofs.VerdictLemmas.{verdict_fails, verdict_none, verdict_right}
use Rattle.sn_check.proofs.checking.check.Goals as goal

pub returns-in-Err-clause-verdict : goal.returns-in-Err-clause-verdict
returns-in-Err-clause-verdict g c told =
    let device = device_of c.args.blocks.now in
    let sectors = (g.D.Device.status device).sectors in
    let disk = reads (g.D.Device.disk device) in
    subst (λ (r : Result Verdict MountFault). IfOk r (IsRight sectors disk)) (sym c.verdict_of.ensures) (verdict_right sectors disk c.in-Err.fault (c.in-Err.ensures.cause told))

pub returns-in-Err-clause-none : goal.returns-in-Err-clause-none
returns-in-Err-clause-none g c told =
    let device = device_of c.args.blocks.now in
    let sectors = (g.D.Device.status device).sectors in
    let disk = reads (g.D.Device.disk device) in
    subst (λ (r : Result Verdict MountFault). IfErr r (HasNoVerdict sectors disk)) (sym c.verdict_of.ensures) (verdict_none sectors disk c.in-Err.fault (c.in-Err.ensures.cause told))

pub returns-in-Err-clause-failed : goal.returns-in-Err-clause-failed
returns-in-Err-clause-failed g c =
    let old = g.D.Device.status (device_of c.args.blocks.now) in
    let new = g.D.Device.status (device_of c.test_disk.new.blocks) in
    subst (λ (r : Result Verdict MountFault). FailsAs r old new) (sym c.verdict_of.ensures) (verdict_fails c.in-Err.fault old new c.in-Err.ensures.failed)
