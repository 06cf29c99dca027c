use Rattle.std.proofs.Common.{ℕ, sym, ap, subst, ◌∙◌}
use Rattle.std.proofs.lemmas.Result.{err_from_is_err_and}
use Rattle.sn_device.specs.Disk.{reads}
use Rattle.sn_block.specs.Lending.{device_of}
use Rattle.sn_model.specs.declared.fault.Damage.TheVariants.{Links}
use Rattle.sn_ondisk.specs.Trees.{store_of}
use Rattle.sn_sound.specs.Faults.{record_block}
use Rattle.sn_marks.specs.Fault.{Tells}
use Rattle.sn_marks.specs.declared.fault.CheckFault.{CheckFault}
use Rattle.sn_marks.proofs.WalkLemmas.{tells_weaker}
use Rattle.sn_census.specs.Faults.{IsAt, at}
use Rattle.sn_census.proofs.readers.record_fault.Goals as goal

pub returns-in_err-block-clause-fault : goal.returns-in_err-block-clause-fault
returns-in_err-block-clause-fault g c told =
    let s = store_of (reads (g.D.Device.disk (device_of c.args.blocks.now))) in
    let p = err_from_is_err_and c.from_residual.result c.from_residual.ensures.1 in
    rw (p.1, p.2) (tells_weaker c.in_err-block.field-0.0 (λ damage block. ⊥) (IsAt (record_block s c.args.file.now c.args.body c.args.number)) (λ damage block never. absurd never) (c.in_err-block.ensures.fault told))

pub returns-clause-fault : goal.returns-clause-fault
returns-clause-fault g c told =
    let s = store_of (reads (g.D.Device.disk (device_of c.args.blocks.now))) in
    subst (λ (f : CheckFault). Tells f (IsAt (record_block s c.args.file.now c.args.body c.args.number))) (sym c.link_fault.ensures)
    (subst (λ (block : ℕ). IsAt (record_block s c.args.file.now c.args.body c.args.number) Links block)
    (sym (c.in_ok-block.ensures.block told ∙ ap (λ (n : ℕ). record_block s c.args.file.now c.args.body n) c.from.ensures)) at)
