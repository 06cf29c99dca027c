use Rattle.std.proofs.Common.{ℕ, count_by, drop, sym, ap, subst, ◌∙◌, arith}
use Rattle.sn_block.specs.Lending.{device_of}
use Rattle.sn_device.specs.Disk.{reads}
use Rattle.sn_map.specs.Free.{is_free_word}
use Rattle.sn_model.specs.declared.fault.MountFault.{MountFault}
use Rattle.sn_check_roots.specs.First.{IsFirstOf}
use Rattle.sn_examine.specs.Failing.{IsSoOf}
use Rattle.sn_check.specs.Faults.{IsDamageOf}
use Rattle.sn_check.proofs.FaultLemmas.{check_fails, check_reads, check_tells, same_reads}
use Rattle.sn_check.proofs.FreeLemmas.{free_is}
use Rattle.sn_check.proofs.roots.count_free.Goals as goal

pub returns-in-Ok-clause-free : goal.returns-in-Ok-clause-free
returns-in-Ok-clause-free g c told =
    free_is c.args.geometry (reads (g.D.Device.disk (device_of c.args.blocks.now))) c.args.slot c.args.root.now c.in-Ok.map c.count_free_from.result (c.in-Ok.ensures.sound told) (c.in-Ok.ensures.words told) c.in-Ok.ensures.count
    (omega (arith, c.range.ensures.start, c.range.ensures.within, c.range.ensures.end)) (c.count_free_from.ensures ∙ ap (λ (k : ℕ). count_by is_free_word (drop k c.in-Ok.map)) c.range.ensures.start)

pub returns-in-Ok-clause-reads : goal.returns-in-Ok-clause-reads
returns-in-Ok-clause-reads g c = same_reads _ _ c.in-Ok.ensures.counts.done

pub returns-in-Err-clause-fault : goal.returns-in-Err-clause-fault
returns-in-Err-clause-fault g c told =
    let first = IsFirstOf c.args.geometry (reads (g.D.Device.disk (device_of c.args.blocks.now))) c.args.slot c.args.root.now in
    subst (IsDamageOf first) (sym c.fault_of_check.ensures) (check_tells c.in-Err.fault first (c.in-Err.ensures.fault told))

pub returns-in-Err-clause-reads : goal.returns-in-Err-clause-reads
returns-in-Err-clause-reads g c = check_reads _ c.in-Err.fault _ _ c.in-Err.ensures.counts

pub returns-in-Err-clause-failed : goal.returns-in-Err-clause-failed
returns-in-Err-clause-failed g c =
    let old = g.D.Device.status (device_of c.args.blocks.now) in
    let new = g.D.Device.status (device_of c.check_roots.new.blocks) in
    subst (λ (f : MountFault). IsSoOf f old new) (sym c.fault_of_check.ensures) (check_fails _ c.in-Err.fault old new c.in-Err.ensures.counts)
